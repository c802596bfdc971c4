-- An update that came is the stated one.
use Rattle.std.proofs.Common.{◌≡◌, inl, inr, ℕ, true, List, [], ◌∷◌, ◌++◌, length, take, Some, Result, Ok, Err, IsOk, refl, sym, ap, ◌∙◌, subst, arith}
use Rattle.std.proofs.lemmas.List.{take_all, length-take}
use Rattle.elf_types.specs.declared.errors.ElfError.{ElfError}
use Rattle.elf_types.specs.declared.errors.ElfError.TheVariants.{Memory, Read, Write}
use Rattle.elf_outside.specs.Counts.{Rose}
use Rattle.elf_layout.specs.Layout.{MayWantMemory}
use Rattle.elf_object.specs.Object.{Object}
use Rattle.elf_object.specs.Words.{Updates}
use Rattle.elf_object.specs.Calls.{update_null}
use Rattle.elf_object.specs.Image.{image, image_length}
use Rattle.elf_object.specs.Layout.{placed}
use Rattle.law_object.proofs.ImageLaws.{length-image}
use Rattle.elf_descriptor.specs.State.{State}
use Rattle.elf_update_to.specs.Updates.{UpdatesTo}
use Rattle.c_handles.specs.declared.lent.image.LentImage.{LentImage}
use Rattle.c_handles.specs.contracts.lent.image.LentImageSource.TheImpl as image_source
use Rattle.c_handles.proofs.objects.ImageLaws.{never_rose}
use Rattle.c_records.specs.Codes.{code}
use Rattle.c_records.specs.Gives.{GivesInCForm}
use Rattle.c_records.proofs.GivesLemmas.{given}
use Rattle.c_calls.specs.Editing.Edited.{GivesIfRoom}
use Rattle.c_calls.proofs.editing.EditLemmas.{left_refused}
use Rattle.c_calls.specs.declared.updating.room.Room.{Room}
use Rattle.c_calls.specs.contracts.updating.room.RoomSink.TheImpl as room_sink
use Rattle.c_calls.specs.Updating.Updated.{write_fault_as_done, IsEmptyRoom, PutsInto, PutsImage}

-- ---- Places

module _ {A C S : Type 0} (form : A → C) (stated : Result A ElfError) (seen : S → C)
    (old new next : S) where
  pub update_given : (x : A) (left : C) → Updates (Ok x) old new stated next
      → (new ≡ next → left ≡ form x)
      → GivesIfRoom form (MayWantMemory stated) stated 0 (seen old) left
  unfolding GivesIfRoom
  update_given x left came made =
      inl (given form stated (seen old) x left (sym came.0) (made came.1))

  pub update_refused : (e : ElfError) (number : ℕ) → number ≡ code e
      → Updates {A = A} (Err e) old new stated next
      → GivesIfRoom form (MayWantMemory stated) stated number (seen old) (seen new)
  unfolding GivesIfRoom
  update_refused Memory number is came = inr (came.0, is, ap seen came.1)
  update_refused e number is came =
      inl (left_refused form stated seen old new e number (sym came.0) is came.1)

-- ---- The image in memory

-- a front that is as long as the whole
whole_front : (n : ℕ) (text : List ℕ) → length (take n text) ≡ length text → take n text ≡ text
whole_front n text full =
    take_all n text (let short = sym (length-take n text) ∙ full in omega (arith, short))

is_ok : {A : Type 0} (stated : Result A ElfError) (x : A) → stated ≡ Ok x → IsOk stated
is_ok (Ok y) x is = refl
is_ok (Err e) x is = cc

-- memory that a put has failed in holds as many bytes as it is for
full_room : (room left : Room) → room.faults ≡ 0 → (left.room ∷ []) ∷ [] ≡ (room.room ∷ []) ∷ []
    → Rose room.faults left.faults → length left.bytes.items ≡ room.room
full_room room left none rest rose =
    let same : left.room ≡ room.room = cc in
    let full = left.full (omega (arith, none, rose)) in
    omega (arith, left.bytes.ok.0, full, same)

put_whole : (count : ℕ) (room left : Room) (text stated : List ℕ) → IsEmptyRoom count room
    → text ≡ stated → Some left.bytes.items ≡ Some (room.bytes.items ++ text)
    → left.bytes.items ≡ stated
put_whole count room left text stated empty exact wrote =
    let is : left.bytes.items ≡ room.bytes.items ++ text = cc in
    is ∙ ap (λ (l : List ℕ). l ++ text) empty.bytes ∙ exact

put_full : (room left : Room) (text stated : List ℕ) (n : ℕ)
    → IsEmptyRoom (length stated) room → text ≡ stated
    → Some left.bytes.items ≡ Some (room.bytes.items ++ take n text)
    → length left.bytes.items ≡ room.room → left.bytes.items ≡ stated
put_full room left text stated n empty exact wrote full =
    let is : left.bytes.items ≡ room.bytes.items ++ take n text = cc in
    let front : left.bytes.items ≡ take n text =
    is ∙ ap (λ (l : List ℕ). l ++ take n text) empty.bytes in
    front
    ∙ whole_front n text
    (ap length (sym front) ∙ full ∙ empty.wide ∙ ap length (sym exact))
    ∙ exact

pub put_into : (r : Result ℕ ElfError) (old new : State LentImage) (room left : Room)
    → old.told ≡ true → IsEmptyRoom (image_length old.o) room
    → UpdatesTo image_source.ghosts room_sink.ghosts r old new room left
    → PutsInto (write_fault_as_done r) old new left
put_into (Ok n) old new room left told empty u = (
  is_ok (update_null.answer old.o) n u.answer,
  put_whole (image_length old.o) room left u.text (image old.o) empty (u.is.exact told) u.wrote,
  ap (λ (s : State LentImage). s.o) u.state,
)
put_into (Err Memory) old new room left told empty u = ap (λ (s : State LentImage). s.o) u.state
put_into (Err Read) old new room left told empty u = absurd (never_rose u.source.read)
put_into (Err Write) old new room left told empty u = (
  u.answer,
  put_full room left u.text (image old.o) u.front.0
      (subst (λ (n : ℕ). IsEmptyRoom n room) (sym (length-image old.o)) empty)
      (u.is.exact told) u.front.1
      (full_room room left empty.faults u.uses.rest u.uses.write),
  ap (λ (s : State LentImage). s.o) u.state,
)
put_into (Err e) old new room left told empty u = (u.answer, ap (λ (s : State LentImage). s.o) u.state)

-- ---- The image in C's buffer

pub image_given : (old new : State LentImage) (room : Room) (given_old given_new : List ℕ)
    → PutsInto (Ok tt) old new room → given_new ≡ room.bytes.items
    → PutsImage 0 old new given_old given_new
unfolding GivesIfRoom
image_given old new room given_old given_new came copied =
    inl (by_stated (update_null.answer old.o) came.0)
  where
    by_stated : (stated : Result ℕ ElfError) → IsOk stated
        → GivesInCForm {C = List ℕ × Object} (λ _. (image old.o, placed old.o)) stated 0
        (given_old, old.o) (given_new, new.o)
    by_stated (Ok n) ok = (
      refl,
      ap (λ (l : List ℕ). (l, new.o)) (copied ∙ came.1)
          ∙ ap (λ (o : Object). (image old.o, o)) came.2,
    )
    by_stated (Err e) ok = cc

pub image_refused : (old new : State LentImage) (room : Room) (out : List ℕ) (e : ElfError)
    (number : ℕ) → number ≡ code e → PutsInto (Err e) old new room
    → PutsImage number old new out out
unfolding GivesIfRoom
image_refused old new room out Memory number is came =
    inr (tt, is, ap (λ (o : Object). (out, o)) came)
image_refused old new room out e number is came =
    inl (left_refused (λ (n : ℕ). (image old.o, placed old.o)) (update_null.answer old.o)
    (λ (o : Object). (out, o)) old.o new.o e number (sym came.0) is came.1)
