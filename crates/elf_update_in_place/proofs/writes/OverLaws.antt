-- Texts that are put over a device, one behind another.
use Rattle.std.proofs.Common.{◌≡◌, ℕ, ◌+◌, ◌≤◌, Bool, true, false, List, [], ◌++◌, Option, Some, None, Result, Ok, Err, length, take, drop, refl, sym, ap, ◌∙◌, subst, arith}
use Rattle.std.specs.Prelude.{IsTrue, IfSome, is_some, IfErr}
use Rattle.std.specs.Option.{option_map}
use Rattle.std.proofs.lemmas.List.{append-nil, length-append, take_all, take-append-drop}
use Rattle.elf_types.specs.declared.errors.ElfError.{ElfError}
use Rattle.elf_types.specs.declared.errors.ElfError.TheVariants.{Write}
use Rattle.elf_outside.specs.declared.sources.Source.{Ghosts as SourceGhosts}
use Rattle.elf_outside.specs.declared.devices.Device.{Ghosts as DeviceGhosts}
use Rattle.elf_outside.specs.Patches.{Patches}
use Rattle.elf_outside.specs.Writes.{written_over, WritesOver, TearsOver}
use Rattle.elf_outside.proofs.PutLemmas.{patches_both, patches_stop}
use Rattle.elf_outside.proofs.UseLemmas.{uses_device_none}
use Rattle.elf_update_to.specs.elf_object.Object.{section_at}
use Rattle.elf_update_to.proofs.law_object.writing.DisturbedLaws.{meeting_from, meeting_to}
use Rattle.elf_update_to.specs.elf_descriptor.State.{State}
use Rattle.elf_update_to.specs.elf_descriptor.Cuts.{MayWrite, MaySize, CutsBase}
use Rattle.elf_update_to.specs.elf_descriptor.Fronts.{HoldsBase}
use Rattle.elf_update_in_place.specs.Writes.Overwrites.{MayOverwrite, ChangesBase, Overwrites}

-- ---- Whether bytes are told

mapped_some : {A B : Type 0} (f : A → B) (o : Option A) → is_some (option_map f o) ≡ is_some o
mapped_some f None = refl
mapped_some f (Some x) = refl

none_of : {A : Type 0} (o : Option A) → is_some o ≡ false → o ≡ None
none_of None is = refl
none_of (Some x) is = cc

lies_in : (held : Option (List ℕ)) (size end : ℕ) → IfSome held (λ bytes. length bytes ≡ size)
    → end ≤ size → IfSome held (λ bytes. end ≤ length bytes)
lies_in None size end sized within = tt
lies_in (Some bytes) size end sized within = omega (arith, sized, within)

-- bytes that are not told are over any text
writes_retold : (old new : Option (List ℕ)) (at : ℕ) (buf text : List ℕ) → old ≡ None
    → WritesOver old new at buf → WritesOver old new at text
writes_retold old new at buf text none is =
    let gone : option_map (λ bytes. written_over bytes at buf) old ≡ None =
    ap (option_map (λ (bytes : List ℕ). written_over bytes at buf)) none in
    let same : option_map (λ bytes. written_over bytes at text) old ≡ None =
    ap (option_map (λ (bytes : List ℕ). written_over bytes at text)) none in
    is ∙ gone ∙ sym same

tears_retold : (old new : Option (List ℕ)) (at : ℕ) (buf text : List ℕ) → old ≡ None
    → TearsOver old new at buf → TearsOver old new at text
tears_retold None new at buf text none is = is
tears_retold (Some bytes) new at buf text none is = cc

written_none : (bytes : List ℕ) (at : ℕ) → written_over bytes at [] ≡ bytes
written_none bytes at =
    let place : at + 0 ≡ at = omega arith in
    ap (λ (l : List ℕ). l ++ drop (at + 0) bytes) (append-nil (take at bytes))
    ∙ ap (λ (n : ℕ). take at bytes ++ drop n bytes) place
    ∙ take-append-drop at bytes

writes_none : (held : Option (List ℕ)) (at : ℕ) → WritesOver held held at []
writes_none None at = refl
writes_none (Some bytes) at = ap Some (sym (written_none bytes at))

module _ {D : Type 0} (s : SourceGhosts D) (d : DeviceGhosts D) where
  pub told_same : {T : Type 0} (r : Result T ElfError) (x y : D) (at : ℕ) (text : List ℕ) (n : ℕ)
      → Patches s d r x y at text n → is_some (s.holds y) ≡ is_some (s.holds x)
  told_same (Ok v) x y at text n is =
      ap is_some is.ok ∙ mapped_some (λ (bytes : List ℕ). written_over bytes at text) (s.holds x)
  told_same (Err e) x y at text n is =
      ap is_some is.err.1 ∙ mapped_some (λ (bytes : List ℕ). is.err.0) (s.holds x)

  pub patches_retold : {T : Type 0} (r : Result T ElfError) (x y : D) (at : ℕ) (buf text : List ℕ)
      → length buf ≡ length text → (IsTrue (is_some (s.holds x)) → buf ≡ text)
      → Patches s d r x y at buf (length buf) → Patches s d r x y at text (length text)
  patches_retold {T = T} r x y at buf text long same is = by_told (is_some (s.holds x)) refl
    where
      counted : Patches s d r x y at buf (length text)
      counted = subst (λ (n : ℕ). Patches s d r x y at buf n) long is

      untold : (q : Result T ElfError) → s.holds x ≡ None → Patches s d q x y at buf (length text)
          → Patches s d q x y at text (length text)
      untold (Ok v) none p = record {
        uses = p.uses;
        faults = p.faults;
        len = p.len;
        ok = writes_retold (s.holds x) (s.holds y) at buf text none p.ok;
        err = tt;
      }
      untold (Err e) none p = record {
        uses = p.uses;
        faults = p.faults;
        len = p.len;
        ok = tt;
        err = tears_retold (s.holds x) (s.holds y) at buf text none p.err;
      }

      by_told : (b : Bool) → is_some (s.holds x) ≡ b → Patches s d r x y at text (length text)
      by_told true is_told =
          subst (λ (l : List ℕ). Patches s d r x y at l (length text)) (same is_told) counted
      by_told false is_untold = untold r (none_of (s.holds x) is_untold) counted

  -- ---- What a text rests on

  -- a part of it rests on no more
  pub may_within : (e : State D) (at n a m : ℕ) → at ≤ a → a + m ≤ at + n → MayOverwrite s e at n
      → MayOverwrite s e a m
  may_within e at n a m from to may = record {
    ready = may.ready;
    within = let within = may.within in omega (arith, within, to);
    small = let small = may.small in omega (arith, small, to);
    base = may.base;
    may = record {
      marked = may.may.marked;
      homes = λ i lies meet.
          let is = meeting_from (section_at e.o i).home.at (section_at e.o i).home.len a m meet in
          let some = is.some in
          let other = is.other in
          let before = is.before in
          let after = is.after in
          may.may.homes i lies
          (meeting_to (section_at e.o i).home.at (section_at e.o i).home.len at n (record {
            some = some;
            other = omega (arith, other, from, to);
            before = omega (arith, before, to);
            after = omega (arith, after, from);
          }));
    };
  }

  pub may_rebased : (e : State D) (base : List ℕ) (x : D) (at n : ℕ) → length base ≡ length e.o.base
      → MayWrite e at n → MayWrite (record e { o = record e.o { base = base }; source = x }) at n
  unfolding section_at
  may_rebased e base x at n long may = record {
    marked = may.marked;
    homes = λ i lies meet.
        let inside = lies.1 in
        may.homes i (lies.0, omega (arith, inside, long)) meet;
  }

  -- what was put leaves it
  pub may_after : {T : Type 0} (r : Result T ElfError) (e f : State D) (x at n : ℕ) (text : List ℕ)
      → Overwrites s d r e f x text → MayOverwrite s e at n → MayOverwrite s f at n
  may_after r e f x at n text over may =
      let size = over.patches.len in
      let within = may.within in
      record {
        ready = subst IsTrue (sym (ap (λ (q : State D). q.ready) over.change.state)) may.ready;
        within = omega (arith, size, within);
        small = may.small;
        base = over.change.base;
        may = subst (λ (q : State D). MayWrite q at n) (sym over.change.state)
            (may_rebased e f.o.base f.source at n over.change.long may.may);
      }

  -- ---- What they leave of the object

  pub change_none : (e : State D) → HoldsBase s e → ChangesBase s e e
  change_none e base = record { state = refl; long = refl; base = base; untold = λ none. refl }

  pub change_both : (e f g : State D) → (s.holds g.source ≡ None → s.holds f.source ≡ None)
      → ChangesBase s e f → ChangesBase s f g → ChangesBase s e g
  change_both e f g before one two = record {
    state = two.state
        ∙ ap (λ (x : State D). record x { o = record x.o { base = g.o.base }; source = g.source })
        one.state;
    long = two.long ∙ one.long;
    base = two.base;
    untold = λ none. two.untold none ∙ one.untold (before none);
  }

  -- ---- Steps

  -- nothing is put
  pub over_none : (e : State D) (at : ℕ) → HoldsBase s e → Overwrites s d (Ok (tt {0})) e e at []
  over_none e at base = record {
    change = change_none e base;
    patches = record {
      uses = uses_device_none s d (Ok (tt {0})) e.source tt tt;
      faults = refl;
      len = refl;
      ok = writes_none (s.holds e.source) at;
      err = tt;
    };
    err = tt;
  }

  -- one write
  pub over_written : (r : Result (Unit {0}) ElfError) (e f : State D) (at : ℕ) (buf text : List ℕ)
      → MayOverwrite s e at (length buf) → CutsBase s e f
      → Patches s d r e.source f.source at buf (length buf) → IfErr r (λ x. x ≡ Write)
      → length buf ≡ length text → (IsTrue e.told → buf ≡ text) → Overwrites s d r e f at text
  over_written r e f at buf text may cuts patches err long same =
      let size = patches.len in
      let most = may.base.long in
      let cut = cuts.long in
      let whole : length f.o.base ≡ length e.o.base = omega (arith, size, most, cut) in
      let told = may.base.told in
      record {
        change = record {
          state = cuts.state;
          long = whole;
          base = record {
            told = ap (λ (q : State D). q.told) cuts.state ∙ may.base.told
                ∙ sym (told_same r e.source f.source at buf (length buf) patches);
            long = omega (arith, size, most, cut);
            is = cuts.is;
          };
          untold = λ none. cuts.untold none
              ∙ take_all (s.size f.source) e.o.base (omega (arith, size, most));
        };
        patches = patches_retold r e.source f.source at buf text long
            (λ is. same (subst IsTrue (sym told) is)) patches;
        err = err;
      }

  none_before : {T : Type 0} (r : Result T ElfError) (x y : D) (at : ℕ) (text : List ℕ) (n : ℕ)
      → Patches s d r x y at text n → s.holds y ≡ None → s.holds x ≡ None
  none_before r x y at text n is none =
      none_of (s.holds x) (sym (told_same r x y at text n is) ∙ ap is_some none)

  -- two texts, of which the first stands
  pub over_both : {T U : Type 0} (v : T) (q : Result U ElfError) (e f g : State D) (at : ℕ)
      (first second : List ℕ) → IfSome (s.holds e.source) (λ bytes. length bytes ≡ s.size e.source)
      → at + length first ≤ s.size e.source
      → Overwrites s d (Ok v) e f at first → Overwrites s d q f g (at + length first) second
      → Overwrites s d q e g at (first ++ second)
  over_both v q e f g at first second sized within one two = record {
    change = change_both e f g
        (none_before q f.source g.source (at + length first) second (length second) two.patches)
        one.change two.change;
    patches = subst (λ (n : ℕ). Patches s d q e.source g.source at (first ++ second) n)
        (sym (length-append first second))
        (patches_both s d v q e.source f.source g.source at first second (length first)
        (length second)
        (lies_in (s.holds e.source) (s.size e.source) (at + length first) sized within)
        one.patches two.patches);
    err = two.err;
  }

  -- a text that was refused, behind which another was to come
  pub over_stop : {T U : Type 0} (x : ElfError) (e f : State D) (at : ℕ) (first second : List ℕ)
      → Overwrites {T = T} s d (Err x) e f at first
      → Overwrites {T = U} s d (Err x) e f at (first ++ second)
  over_stop x e f at first second one =
      let both = length-append first second in
      record {
        change = one.change;
        patches = patches_stop s d x e.source f.source at first second (length first)
            (length (first ++ second)) (omega (arith, both)) one.patches;
        err = one.err;
      }

  -- the same text by another name
  pub over_as : {T : Type 0} (r : Result T ElfError) (e f : State D) (at : ℕ) (a b : List ℕ)
      → a ≡ b → Overwrites s d r e f at a → Overwrites s d r e f at b
  over_as r e f at a b same = subst (λ (l : List ℕ). Overwrites s d r e f at l) same

  -- an answer with another value
  pub over_value : {T U : Type 0} (x : T) (y : U) (e f : State D) (at : ℕ) (text : List ℕ)
      → Overwrites s d (Ok x) e f at text → Overwrites s d (Ok y) e f at text
  over_value x y e f at text one = record {
    change = one.change;
    patches = record {
      uses = record {
        rest_after = one.patches.uses.rest_after;
        later = one.patches.uses.later;
        read = tt;
        write_later = one.patches.uses.write_later;
        write = tt;
        taken = one.patches.uses.taken;
        given = one.patches.uses.given;
      };
      faults = one.patches.faults;
      len = one.patches.len;
      ok = one.patches.ok;
      err = tt;
    };
    err = tt;
  }

-- an end that may be set may be set after what was put
size_rebased : {D : Type 0} (e : State D) (base : List ℕ) (x : D) (n : ℕ)
    → length base ≡ length e.o.base → MaySize e n
    → MaySize (record e { o = record e.o { base = base }; source = x }) n
unfolding section_at
size_rebased e base x n long may = record {
  marked = may.marked;
  homes = λ i lies some past.
      let inside = lies.1 in
      may.homes i (lies.0, omega (arith, inside, long)) some past;
}

pub size_on : {D : Type 0} (e f : State D) (n : ℕ)
    → f ≡ record e { o = record e.o { base = f.o.base }; source = f.source }
    → length f.o.base ≡ length e.o.base → MaySize e n → MaySize f n
size_on {D} e f n state long may =
    subst (λ (q : State D). MaySize q n) (sym state)
    (size_rebased e f.o.base f.source n long may)
