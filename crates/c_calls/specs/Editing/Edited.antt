-- What an edit does for C: a number, which is 0 where it is not refused, and what is left of the
-- object.
use Rattle.std.specs.Prelude.{◌≡◌, ◌⊎◌, ℕ, Bool, List, Result, IsOk}
use Rattle.elf_types.specs.declared.errors.ElfError.{ElfError}
use Rattle.elf_types.specs.declared.errors.ElfError.TheVariants.{Memory}
use Rattle.elf_types.specs.declared.records.Part.TheVariants as part
use Rattle.elf_xlate.specs.declared.content.Items.TheVariants as items
use Rattle.elf_object.specs.Object.{header_of}
use Rattle.elf_object.specs.Calls.{Call}
use Rattle.elf_object.specs.Calls as calls
use Rattle.elf_descriptor.specs.State.{State}
use Rattle.elf_descriptor.specs.Edits.{stepped, flagged, grown}
use Rattle.c_handles.specs.declared.lent.image.LentImage.{LentImage}
use Rattle.c_records.specs.declared.headers.EhdrRecord.{EhdrRecord}
use Rattle.c_records.specs.Codes.{code}
use Rattle.c_records.specs.Gives.{GivesInCForm}
use Rattle.c_calls.specs.Editing.From.{ehdr_from_record}

-- exactly what is stated; or want of memory, where it may come, and then nothing is changed
unfoldable pub GivesIfRoom : {A C : Type 0} → (A → C) → Type 0 → Result A ElfError → ℕ → C → C
    → Type 0
GivesIfRoom form may stated number old new =
    GivesInCForm form stated number old new ⊎ (may × (number ≡ code Memory) × (new ≡ old))

-- the object is stepped as the call is stated, or is as it was with the number of the refusal
abbrev pub Edited : {A : Type 0} → Call A → ℕ → State LentImage → State LentImage → Type 0
Edited c number old new = GivesInCForm (λ _. stepped c old) (c.answer old.o) number old new

-- the same of a call that may take memory where it is not refused
abbrev pub Grown : {A : Type 0} → Call A → ℕ → State LentImage → State LentImage → Type 0
Grown c number old new =
    GivesIfRoom (λ _. stepped c old) (IsOk (c.answer old.o)) (c.answer old.o) number old new

-- the same of one that takes memory for what it is handed before it looks at the object
abbrev pub Copied : {A : Type 0} → Call A → ℕ → State LentImage → State LentImage → Type 0
Copied c number old new =
    GivesIfRoom (λ _. stepped c old) (Unit {0}) (c.answer old.o) number old new

-- the ELF header has the fields of a record
abbrev pub StoresEhdr : EhdrRecord → ℕ → State LentImage → State LentImage → Type 0
StoresEhdr x number old new =
    Edited (calls.update_ehdr (ehdr_from_record x (header_of old.o))) number old new

-- a section is added, and its number is given
abbrev pub MakesSection : ℕ → State LentImage → State LentImage → ℕ → ℕ → Type 0
MakesSection number old new given_old given_new =
    GivesIfRoom {C = ℕ × State LentImage} (λ s. (s, grown calls.newscn old))
    (IsOk (calls.newscn.answer old.o)) (calls.newscn.answer old.o) number (given_old, old)
    (given_new, new)

-- a piece of these bytes is added to a section, and its number in the section is given
abbrev pub MakesPiece : ℕ → List ℕ → ℕ → ℕ → State LentImage → State LentImage → ℕ → ℕ → Type 0
MakesPiece s bytes align number old new given_old given_new =
    let call = calls.newdata_aligned s (items.Bytes bytes) align in
    GivesIfRoom {C = ℕ × State LentImage} (λ piece. (piece.1, stepped call old)) (Unit {0})
    (call.answer old.o) number (given_old, old) (given_new, new)

-- flags of the object are set or cleared, and those that it has then are given
abbrev pub SetsFlags : Bool → ℕ → ℕ → State LentImage → State LentImage → ℕ → ℕ → Type 0
SetsFlags set bits number old new given_old given_new =
    let call = calls.flag part.Object set bits in
    GivesInCForm {C = ℕ × State LentImage} (λ flags. (flags, flagged call old))
    (call.answer old.o) number
    (given_old, old) (given_new, new)
