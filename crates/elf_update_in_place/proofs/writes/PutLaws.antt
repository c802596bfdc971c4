-- Blocks that are put over a device, one after another.
use Rattle.std.proofs.Common.{◌≡◌, ◌⊎◌, inl, inr, ⊎_elim, ℕ, ◌-◌, ◌≤◌, true, false, List, [], ◌∷◌, ◌++◌, Option, Some, None, Result, Ok, Err, length, get_or, refl, sym, ap, ◌∙◌, subst, append_assoc, arith}
use Rattle.std.specs.Prelude.{is_some, sum_by, OnOk, OnErr, IfSome}
use Rattle.std.specs.List.{AllByRecursion}
use Rattle.std.specs.Option.{option_map}
use Rattle.std.proofs.lemmas.List.Sums.{sum_by-cons, sum_by-append}
use Rattle.elf_types.specs.declared.errors.ElfError.{ElfError}
use Rattle.elf_outside.specs.declared.sources.Source.{Ghosts as SourceGhosts}
use Rattle.elf_outside.specs.declared.devices.Device.{Ghosts as DeviceGhosts}
use Rattle.elf_outside.specs.Torn.{IsTorn}
use Rattle.elf_outside.specs.Writes.{written_over, IsTornBy}
use Rattle.elf_outside.specs.Patches.{UsesDevice}
use Rattle.elf_outside.proofs.PutLemmas.{uses_device_both, uses_device_on}
use Rattle.elf_outside.proofs.UseLemmas.{uses_device_none, uses_device_as}
use Rattle.elf_update_to.specs.elf_object.Blocks.{Block, block_end, block_covers}
use Rattle.elf_update_to.specs.law_object.Writing.Lines.{HoldsBlock, IsUnderWay}
use Rattle.elf_update_to.proofs.law_object.writing.DeviceLaws.{under_way_written, under_way_failed}
use Rattle.elf_update_to.specs.elf_descriptor.State.{State}
use Rattle.elf_update_to.specs.elf_descriptor.Fronts.{HoldsBase}
use Rattle.elf_update_in_place.specs.Writes.Overwrites.{Overwrites}
use Rattle.elf_update_in_place.specs.Writes.Walks.{PutsAll}
use Rattle.elf_update_in_place.proofs.moves.LineLaws.{each_right}
use Rattle.elf_update_in_place.proofs.writes.OverLaws.{told_same, change_none, change_both}
use Rattle.elf_update_in_place.proofs.writes.SkipLaws.{under_way_front}

each_left : (P : Block → Type 0) (bs cs : List Block) → AllByRecursion P (bs ++ cs)
    → AllByRecursion P bs
each_left P [] cs each = tt
each_left P (b ∷ bs) cs each = (each.0, each_left P bs cs each.1)

-- a device whose bytes are told, after a text was put or refused
module _ (at : ℕ) (text held : List ℕ) (old new : Option (List ℕ)) (is : old ≡ Some held) where
  written : new ≡ option_map (λ bytes. written_over bytes at text) old
      → new ≡ Some (written_over held at text)
  written ok = ok ∙ ap (option_map (λ (bytes : List ℕ). written_over bytes at text)) is

  torn : (bytes : List ℕ) → new ≡ option_map (λ _. bytes) old → new ≡ Some bytes
  torn bytes err = err ∙ ap (option_map (λ (x : List ℕ). bytes)) is

  by_torn : (bytes : List ℕ) → IfSome old (λ x. IsTornBy x bytes at text)
      → IsTornBy held bytes at text
  by_torn bytes some =
      subst (λ (o : Option (List ℕ)). IfSome o (λ x. IsTornBy x bytes at text)) is some

module _ {D : Type 0} (s : SourceGhosts D) (d : DeviceGhosts D) (old_end : ℕ) where
  pub all_none : (e : State D) → HoldsBase s e → PutsAll s d old_end (Ok (tt {0})) e e []
  all_none e base = record {
    change = change_none s d e base;
    size = refl;
    told = refl;
    uses = uses_device_none s d (Ok (tt {0})) e.source tt tt;
    err = tt;
    way = λ before image held blocks rest is each most one under. (held, is, under, tt);
  }

  module _ (e f : State D) (b : Block) (fits : block_end b ≤ s.size e.source) where
    one_way : (r : Result (Unit {0}) ElfError) → Overwrites s d r e f b.at b.bytes
        → (before image held : List ℕ) (blocks rest : List Block)
        → s.holds e.source ≡ Some held → AllByRecursion (HoldsBlock image) (b ∷ [])
        → length before ≤ old_end
        → (s.size e.source ≡ length before) ⊎ (s.size e.source ≡ length image)
        → IsUnderWay before image held (s.size e.source) blocks (b ∷ rest)
        → (after : List ℕ) × (s.holds f.source ≡ Some after)
        × OnOk r (IsUnderWay before image after (s.size e.source) blocks rest)
        × OnErr r (IsTorn before image after)
    one_way (Ok x) over before image held blocks rest is each most one under = (
      written_over held b.at b.bytes,
      written b.at b.bytes held (s.holds e.source) (s.holds f.source) is over.patches.ok,
      under_way_written before image held (s.size e.source) blocks b rest under each.0 fits,
      tt,
    )
    one_way (Err x) over before image held blocks rest is each most one under = (
      over.patches.err.0,
      torn b.at b.bytes held (s.holds e.source) (s.holds f.source) is over.patches.err.0
          over.patches.err.1,
      tt,
      under_way_failed before image held over.patches.err.0 (s.size e.source) blocks (b ∷ rest) b
          under each.0
          (by_torn b.at b.bytes held (s.holds e.source) (s.holds f.source) is over.patches.err.0
          over.patches.err.2) one,
    )

    -- one block
    pub all_one : (r : Result (Unit {0}) ElfError) → Overwrites s d r e f b.at b.bytes
        → PutsAll s d old_end r e f (b ∷ [])
    all_one r over =
        let one = sum_by-cons (λ (x : Block). length x.bytes) b [] in
        let count : length b.bytes ≡ sum_by (λ x. length x.bytes) (b ∷ []) = omega (arith, one) in
        record {
          change = over.change;
          size = over.patches.len;
          told = told_same s d r e.source f.source b.at b.bytes (length b.bytes) over.patches;
          uses = subst (λ (n : ℕ). UsesDevice s d r e.source f.source 0 n) count
              over.patches.uses;
          err = over.err;
          way = one_way r over;
        }

  -- a block by less of it, where the others of its bytes are zeros behind the old end
  pub all_front : (r : Result (Unit {0}) ElfError) (e f : State D) (a b : Block)
      → length a.bytes ≤ length b.bytes
      → ((image : List ℕ) → HoldsBlock image b → HoldsBlock image a)
      → ((k : ℕ) → block_covers b k ≡ true → block_covers a k ≡ false
      → (old_end ≤ k) × (get_or b.bytes (k - b.at) 0 ≡ 0))
      → PutsAll s d old_end r e f (a ∷ []) → PutsAll s d old_end r e f (b ∷ [])
  all_front r e f a b fewer stands past one =
      let less = sum_by-cons (λ (x : Block). length x.bytes) a [] in
      let more = sum_by-cons (λ (x : Block). length x.bytes) b [] in
      record {
        change = one.change;
        size = one.size;
        told = one.told;
        uses = uses_device_as s d r e.source f.source 0 (sum_by (λ x. length x.bytes) (a ∷ [])) 0
            (sum_by (λ x. length x.bytes) (b ∷ [])) (omega arith)
            (omega (arith, less, more, fewer)) one.uses;
        err = one.err;
        way = λ before image held blocks rest is each most size under.
            one.way before image held blocks rest is (stands image each.0, tt) most size
            (under_way_front before image held (s.size e.source) blocks a b rest under each.0
            (λ k over out.
            let other = past k over out in
            let behind = other.0 in
            (omega (arith, behind, most), other.1)));
      }

  none_before : (x y : D) → is_some (s.holds y) ≡ is_some (s.holds x) → s.holds y ≡ None
      → s.holds x ≡ None
  none_before x y same none = none_of (s.holds x) (sym same ∙ ap is_some none)
    where
      none_of : (o : Option (List ℕ)) → is_some o ≡ false → o ≡ None
      none_of None is = refl
      none_of (Some bytes) is = cc

  -- some blocks, and then others
  pub all_then : {T U : Type 0} (v : T) (q : Result U ElfError) (e f g : State D)
      (first second : List Block) → PutsAll s d old_end (Ok v) e f first
      → PutsAll s d old_end q f g second → PutsAll s d old_end q e g (first ++ second)
  all_then v q e f g first second one two = record {
    change = change_both s d e f g (none_before f.source g.source two.told) one.change two.change;
    size = two.size ∙ one.size;
    told = two.told ∙ one.told;
    uses = subst (λ (n : ℕ). UsesDevice s d q e.source g.source 0 n)
        (sym (sum_by-append (λ (b : Block). length b.bytes) first second))
        (uses_device_both s d (Ok v) q e.source f.source g.source 0
        (sum_by (λ b. length b.bytes) first) 0 (sum_by (λ b. length b.bytes) second) one.uses
        two.uses);
    err = two.err;
    way = λ before image held blocks rest is each most size under.
        let mid = one.way before image held blocks (second ++ rest) is
        (each_left (HoldsBlock image) first second each) most size
        (subst (λ (l : List Block). IsUnderWay before image held (s.size e.source) blocks l)
        (append_assoc first second rest) under) in
        let same : s.size f.source ≡ s.size e.source = one.size in
        let last = two.way before image mid.0 blocks rest mid.1
        (each_right (HoldsBlock image) first second each) most
        (⊎_elim (λ h. inl (one.size ∙ h)) (λ h. inr (one.size ∙ h)) size)
        (subst (λ (n : ℕ). IsUnderWay before image mid.0 n blocks (second ++ rest)) (sym one.size)
        mid.2) in (
          last.0,
          last.1,
          subst (λ (n : ℕ). OnOk q (IsUnderWay before image last.0 n blocks rest)) one.size last.2,
          last.3,
        );
  }

  -- some blocks that were refused, behind which others were to come
  pub all_stop : (x : ElfError) (e f : State D) (first second : List Block)
      → PutsAll {T = Unit {0}} s d old_end (Err x) e f first
      → PutsAll {T = Unit {0}} s d old_end (Err x) e f (first ++ second)
  all_stop x e f first second one =
      let more = sum_by-append (λ (b : Block). length b.bytes) first second in
      record {
        change = one.change;
        size = one.size;
        told = one.told;
        uses = uses_device_on s d x e.source f.source 0 (sum_by (λ b. length b.bytes) first) 0
            (sum_by (λ b. length b.bytes) (first ++ second)) (omega arith) (omega (arith, more))
            one.uses;
        err = one.err;
        way = λ before image held blocks rest is each most size under.
            let last = one.way before image held blocks (second ++ rest) is
            (each_left (HoldsBlock image) first second each) most size
            (subst (λ (l : List Block). IsUnderWay before image held (s.size e.source) blocks l)
            (append_assoc first second rest) under) in
            (last.0, last.1, tt, last.3);
      }

  -- the same blocks by another name
  pub all_as : {T : Type 0} (r : Result T ElfError) (e f : State D) (a b : List Block) → a ≡ b
      → PutsAll s d old_end r e f a → PutsAll s d old_end r e f b
  all_as r e f a b same = subst (λ (l : List Block). PutsAll s d old_end r e f l) same
