-- Memory that is kept aside for a home: it is there once a call kept it, until the home is read.
use Rattle.std.proofs.Common.{◌≡◌, ℕ, ◌<◌, Bool, true, false, List, [], ◌∷◌, length, set, None, Result, Ok, Err, refl, sym, ap, ◌∙◌, subst}
use Rattle.std.specs.Prelude.{IsTrue, ◌||◌, nat_le, OnOk}
use Rattle.std.proofs.lemmas.Bool.{leb-false}
use Rattle.std.proofs.lemmas.List.{get_or-set_same}
use Rattle.std.proofs.lemmas.Option.{unwrap_or-slice_get}
use Rattle.elf_types.specs.declared.errors.ElfError.{ElfError}
use Rattle.elf_types.specs.declared.errors.ElfError.TheVariants.{NoSection}
use Rattle.elf_types.specs.Answers.{answered}
use Rattle.elf_outside.specs.declared.sources.Source.{Ghosts}
use Rattle.elf_object.specs.Object.{Object}
use Rattle.elf_object.specs.Answers.{no_section, out_of_file, raw_refusal}
use Rattle.elf_object.specs.Calls.{Call}
use Rattle.elf_object.specs.Due.{is_loaded}
use Rattle.elf_object.specs.Words.{Edits}
use Rattle.elf_object.proofs.AnswerLaws.{answered_value}
use Rattle.elf_object.proofs.PassedLaws.{none_first, not_refused}
use Rattle.elf_descriptor.specs.State.{State}
use Rattle.elf_descriptor.specs.Reads.{Queries}
use Rattle.elf_descriptor.specs.Rooms.{has_room_for, with_room_for}

raw_there : (o : Object) (s : ℕ) → raw_refusal o s ≡ None → s < length o.sections
unfolding raw_refusal
raw_there o s passed =
    leb-false (length o.sections) s
    (not_refused (nat_le (length o.sections) s) (NoSection s (length o.sections))
    (none_first (no_section o s) (out_of_file o s ∷ []) passed))

-- ---- It is there

set_room : (l : List Bool) (s : ℕ) → s < length l → is_loaded (set l s true) s ≡ true
unfolding is_loaded
set_room l s there =
    unwrap_or-slice_get (set l s true) s false ∙ get_or-set_same l s true false there

or_right : (a b : Bool) → IsTrue b → IsTrue (a || b)
or_right true b is = refl
or_right false b is = is

module _ {S : Type 0} (s : ℕ) where
  kept_there : (old : State S) (loaded : Bool) → is_loaded old.loaded s ≡ loaded
      → s < length old.room → IsTrue (has_room_for (with_room_for s old) s)
  kept_there old true is there = rw is (rw is refl)
  kept_there old false is there = rw is (rw is (set_room old.room s there))

  pub kept_room : (old new : State S) (r : Result (Unit {0}) ElfError)
      → Edits r old new (answered (raw_refusal old.o s) (tt {0})) (with_room_for s old)
      → length old.room ≡ length old.o.sections → OnOk r (IsTrue (has_room_for new s))
  kept_room old new (Ok x) edits rooms =
      let there = raw_there old.o s (answered_value (raw_refusal old.o s) (tt {0}) x edits.0).0 in
      subst (λ (st : State S). IsTrue (has_room_for st s)) (sym edits.1)
      (kept_there old (is_loaded old.loaded s) refl
      (subst (λ (n : ℕ). s < n) (sym rooms) there))
  kept_room old new (Err e) edits rooms = tt

  -- ---- It stays

  pub loaded_room : (state : State S) → IsTrue (is_loaded state.loaded s)
      → IsTrue (has_room_for state s)
  loaded_room state is = rw is refl

  stays_by : {A T : Type 0} (g : Ghosts S) (c : Call A) (holding : List ℕ) (r : Result T ElfError)
      (old new : State S) → Queries g c holding r old new
      → (before now : Bool) → is_loaded old.loaded s ≡ before → is_loaded new.loaded s ≡ now
      → IsTrue (has_room_for old s) → IsTrue (has_room_for new s)
  stays_by g c holding r old new q before true was is room = loaded_room new is
  stays_by g c holding r old new q true false was is room =
      let still = q.reads.stays s was in let clash : false ≡ true = sym is ∙ still in absurd cc
  stays_by g c holding r old new q false false was is room =
      let same = q.reads.room s is in
      let kept : is_loaded old.room s ≡ true =
      subst (λ (b : Bool). IsTrue (b || is_loaded old.room s)) was room in
      or_right (is_loaded new.loaded s) (is_loaded new.room s) (same ∙ kept)

  -- over a call that reads
  pub room_stays : {A T : Type 0} (g : Ghosts S) (c : Call A) (holding : List ℕ)
      (r : Result T ElfError) (old new : State S) → Queries g c holding r old new
      → IsTrue (has_room_for old s) → IsTrue (has_room_for new s)
  room_stays g c holding r old new q =
      stays_by g c holding r old new q (is_loaded old.loaded s) (is_loaded new.loaded s) refl refl
