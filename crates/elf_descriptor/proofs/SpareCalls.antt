-- Spare memory for a front.
use Rattle.std.proofs.Common.{◌≡◌, ◌∙◌, ◌+◌, ℕ, Bool, true, false, List, [], ◌∷◌, ◌++◌, length, Option, Some, None, Result, Ok, Err, refl, sym, ap, subst, arith}
use Rattle.std.specs.Prelude.{◌==◌, ◌&&◌, ◌||◌, IfSome, OnOk, OnErr, take}
use Rattle.std.proofs.lemmas.List.{length-append, take_all}
use Rattle.std.proofs.lemmas.Bool.{eqb-false}
use Rattle.elf_types.specs.declared.errors.ElfError.{ElfError}
use Rattle.elf_types.specs.declared.records.Shdr.{Shdr}
use Rattle.section_table.specs.elf_outside.declared.sources.Source.{Ghosts}
use Rattle.section_table.specs.elf_object.Object.{is_dirty}
use Rattle.elf_descriptor.specs.declared.body.Body.{Body}
use Rattle.elf_descriptor.specs.declared.body.Spare.{Spare}
use Rattle.elf_descriptor.specs.declared.body.Base.TheVariants as bases
use Rattle.elf_descriptor.specs.Views.{object_of, loaded_of, held_of, room_of, source_bytes, ready_of, is_of_source, has_mark, state_of}
use Rattle.elf_descriptor.specs.Sound.{IsElf}
use Rattle.elf_descriptor.specs.Fronts.{IsReserved, HoldsBase, HoldsBaseAlone}
use Rattle.elf_descriptor.proofs.Objects.{dirty_is}
use Rattle.elf_descriptor.proofs.BaseCalls.{base_part, base_source}
use Rattle.elf_descriptor.proofs.CutCalls.{part_of_ready}

pub one_longer : (old new : List Shdr) (h : Shdr) (i : ℕ) → new ≡ old ++ h ∷ [] → length old ≡ i → length new ≡ i + 1
one_longer old new h i is was =
    let both = length-append old (h ∷ []) in
    let same = ap (λ (l : List Shdr). length l) is in
    omega (arith, both, same, was)

no_first : (a b c d : Bool) → (a || b || c || d) ≡ false → (a || b) ≡ false
no_first true b c d none = cc
no_first false true c d none = cc
no_first false false c d none = refl

-- an object that is not dirty has no mark
no_mark : (image : Option (List ℕ)) (size : ℕ) (b : Body)
    → is_dirty (object_of image size b) ≡ false → has_mark b ≡ false
no_mark image size b clean =
    no_first b.marked b.header_marked b.segments_marked _ (sym (dirty_is image size b) ∙ clean)

same_length : (n : ℕ) → (n == n) ≡ true
same_length n = by_test (n == n) refl
  where
    by_test : (b : Bool) → (n == n) ≡ b → b ≡ true
    by_test true e = refl
    by_test false e = absurd (eqb-false n n e refl)

-- spare memory of the right lengths, over a source
pub reserved_by : (old new : Body) (front : Spare) → is_of_source old.base ≡ true → new ≡ record old { spare = Some front; ready = true } → length front.phdrs ≡ length old.phdrs
    → length front.shdrs ≡ length old.sections → IsReserved old new
reserved_by old new front over is phdrs shdrs = record {
  rest = is ∙ ap (λ (s : Option Spare). record old { spare = s; ready = true }) (sym (ap (λ (b : Body). b.spare) is));
  ready =
      ap ready_of is
      ∙ ap (λ (t : Bool).
      t
      && ((length front.phdrs == length old.phdrs) && (length front.shdrs == length old.sections)))
      over
      ∙ ap (λ (n : ℕ). (n == length old.phdrs) && (length front.shdrs == length old.sections)) phdrs
      ∙ ap (λ (n : ℕ). (length old.phdrs == length old.phdrs) && (n == length old.sections)) shdrs
      ∙ ap (λ (t : Bool). t && (length old.sections == length old.sections))
      (same_length (length old.phdrs))
      ∙ same_length (length old.sections);
}

module _ {S : Type 0} (g : Ghosts S) (source : S) (old new : Body) (is : IsElf (g.holds source) (g.size source) old) where
  pub reserved_elf : (r : Result (Unit {0}) ElfError) → OnOk r (IsReserved old new) → OnErr r (new ≡ old) → IsElf (g.holds source) (g.size source) new
  unfolding object_of
  reserved_elf (Err e) ok same = subst (λ (b : Body). IsElf (g.holds source) (g.size source) b) (sym same) is
  reserved_elf (Ok x) ok same = subst (λ (b : Body). IsElf (g.holds source) (g.size source) b) (sym ok.rest) (record {
    long = is.long;
    within = is.within;
    whole = is.whole;
    counts = record { phnum = is.counts.phnum; shnum = is.counts.shnum };
    cells = is.cells;
    written = is.written;
    sound = is.sound;
  })

  pub reserved_state : (r : Result (Unit {0}) ElfError) → OnOk r (IsReserved old new) → OnOk r (state_of g source new ≡ record (state_of g source old) { ready = true })
  unfolding object_of loaded_of held_of room_of
  reserved_state (Err e) ok = tt
  reserved_state (Ok x) ok =
      ap (λ (b : Body). state_of g source b) ok.rest
      ∙ ap (λ (t : Bool). record (state_of g source old) { ready = t }) (sym (ap ready_of ok.rest) ∙ ok.ready)

  -- where nothing is dirty the source is the base and no more
  pub holds_alone : is_dirty (object_of (g.holds source) (g.size source) old) ≡ false
      → HoldsBaseAlone g (state_of g source old)
  holds_alone clean =
      let image = g.holds source in
      let size = g.size source in
      let part = is.whole (no_mark image size old clean) in
      record {
        long = sym (base_source image size old size part is.long is.within).0;
        is = by_held part (g.holds source) refl;
      }
    where
      by_held : old.base ≡ bases.Source (g.size source) → (o : Option (List ℕ))
          → g.holds source ≡ o
          → IfSome o (λ held. held ≡ (object_of (g.holds source) (g.size source) old).base)
      by_held part None told = tt
      by_held part (Some held) told =
          let size = g.size source in
          let long = subst (λ (o : Option (List ℕ)). IfSome o (λ bytes. length bytes ≡ size)) told
          is.long in
          sym (base_part (g.holds source) size old size part
          ∙ ap (λ (o : Option (List ℕ)). take size (source_bytes o size)) told
          ∙ take_all size held (omega (arith, long)))

  pub holds_base : (m : ℕ) → old.base ≡ bases.Source m → HoldsBase g (state_of g source old)
  holds_base m part = record {
    told = refl;
    long = let both = base_source (g.holds source) (g.size source) old m part is.long is.within in omega (arith, both.0, both.1);
    is = by_held (g.holds source) refl;
  }
    where
      by_held : (held : Option (List ℕ)) → g.holds source ≡ held → IfSome held (λ bytes. take (length (object_of (g.holds source) (g.size source) old).base) bytes ≡ (object_of (g.holds source) (g.size source) old).base)
      by_held None e = tt
      by_held (Some bytes) e =
          ap (λ (n : ℕ). take n bytes) (base_source (g.holds source) (g.size source) old m part is.long is.within).0
          ∙ sym (base_part (g.holds source) (g.size source) old m part ∙ ap (λ (i : Option (List ℕ)). take m (source_bytes i (g.size source))) e)

  pub reserved_holds : (r : Result (Unit {0}) ElfError) → OnOk r (IsReserved old new) → OnOk r (HoldsBase g (state_of g source old))
  reserved_holds (Err e) ok = tt
  reserved_holds (Ok x) ok =
      let now = part_of_ready new ok.ready in
      holds_base now.0 (sym (ap (λ (b : Body). b.base) ok.rest) ∙ now.1)

  pub reserved_same : (r : Result (Unit {0}) ElfError) → OnErr r (new ≡ old) → OnErr r (state_of g source new ≡ state_of g source old)
  reserved_same (Err e) same = ap (λ (b : Body). state_of g source b) same
  reserved_same (Ok x) same = tt
