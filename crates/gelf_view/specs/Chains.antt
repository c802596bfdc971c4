-- Records in a chain: each stands where the one before it says (gABI chapter 5, "Note Section"; the
-- version sections of GNU). A chain ends by itself, or goes bad where a record is not there.
use Rattle.std.specs.Prelude.{◌≡◌, ℕ, zero, suc, ◌+◌, ◌-◌, ◌<◌, ◌==◌, Bool, true, false, List, [], ◌∷◌, Option, Some, None, if◌then◌else◌, Result, Ok, Err}
use Rattle.elf_types.specs.declared.errors.ElfError.{ElfError}
use Rattle.elf_types.specs.declared.errors.ElfError.TheVariants.{Memory, Read, BadChain}
use Rattle.elf_descriptor.specs.elf_object.Words.{result_map}
use Rattle.elf_descriptor.specs.elf_object.Object.{Object}
use Rattle.elf_descriptor.specs.elf_object.Answers.{count_at}
use Rattle.gelf_view.specs.declared.notes.NoteAt.{NoteAt}
use Rattle.gelf_view.specs.declared.versions.Verdef.{Verdef}
use Rattle.gelf_view.specs.declared.versions.Verdaux.{Verdaux}
use Rattle.gelf_view.specs.declared.versions.Verneed.{Verneed}
use Rattle.gelf_view.specs.declared.versions.Vernaux.{Vernaux}
use Rattle.gelf_view.specs.declared.aux.AuxPlace.{AuxPlace}
use Rattle.gelf_view.specs.Calls.{note_answer, verdef_answer, verdaux_answer, verneed_answer, vernaux_answer}

-- the records that stand in a chain, and what refuses the next one where it goes bad
pub record Chain (A : Type 0) : Type 0 where
  pub found : List A
  pub bad : Option ElfError

abbrev pub ended : {A : Type 0} → Chain A
ended = record { found = []; bad = None }

abbrev pub broken : {A : Type 0} → ElfError → Chain A
broken e = record { found = []; bad = Some e }

abbrev pub leading : {A : Type 0} → A → Chain A → Chain A
leading x rest = record { found = x ∷ rest.found; bad = rest.bad }

-- the chain behind the answer that is stated for a call that looks for a record
abbrev pub led_by : {A B : Type 0} → Result A ElfError → (A → Chain B) → Chain B
led_by (Ok x) behind = behind x
led_by (Err e) behind = broken e

-- and behind the one that came. Memory and Read tell nothing of it.
abbrev pub IsLedBy : {A B : Type 0} → Result A ElfError → (A → Chain B) → Chain B → Type 0
IsLedBy (Ok x) behind chain = chain ≡ behind x
IsLedBy (Err Memory) behind chain = Unit {0}
IsLedBy (Err Read) behind chain = Unit {0}
IsLedBy (Err e) behind chain = chain ≡ broken e

-- ---- Notes

-- a note, and those from the next one on
abbrev pub note_then : (ℕ → Chain NoteAt) → Option NoteAt → Chain NoteAt
note_then from None = ended
note_then from (Some note) = leading note (from note.next)

-- the notes from a place on, at most so many, by the call that reads one
unfoldable pub notes_upto : (ℕ → Result (Option NoteAt) ElfError) → ℕ → ℕ → Chain NoteAt
notes_upto read zero at = ended
notes_upto read (suc n) at = led_by (read at) (note_then (notes_upto read n))

-- those of a piece: each is followed by a later one, and the last by the end of the piece
unfoldable pub notes : Object → ℕ → ℕ → ℕ → Chain NoteAt
notes o s p at = notes_upto (note_answer o s p) (suc (count_at o s p - at)) at

-- ---- Entries of a version section

-- where an entry is followed by another
abbrev pub next_place : ℕ → ℕ → Option ℕ
next_place at next = if next == 0 then None else Some (at + next)

-- the entry at a place, with it, and those from the next one on
abbrev pub entry_then : {A : Type 0} → ℕ → A → ℕ → (ℕ → Chain (ℕ × A)) → Chain (ℕ × A)
entry_then at x next from =
    leading (at, x) (elim (next_place at next) [ None ↦ ended | Some place ↦ from place ])

-- the entries from a place on, at most so many: each further one by its next, until that is 0
unfoldable pub entries_upto : {A : Type 0} → (ℕ → Result A ElfError) → (A → ℕ) → ℕ → ℕ
    → Chain (ℕ × A)
entries_upto read next zero at = ended
entries_upto read next (suc n) at =
    led_by (read at) (λ x. entry_then at x (next x) (entries_upto read next n))

-- those in so many bytes
abbrev pub entries : {A : Type 0} → (ℕ → Result A ElfError) → (A → ℕ) → ℕ → ℕ → Chain (ℕ × A)
entries read next size at = entries_upto read next (suc (size - at)) at

-- definitions and needs of a piece
unfoldable pub verdefs : Object → ℕ → ℕ → ℕ → Chain (ℕ × Verdef)
verdefs o s p at = entries (verdef_answer o s p) (λ x. x.next) (count_at o s p) at

unfoldable pub verneeds : Object → ℕ → ℕ → ℕ → Chain (ℕ × Verneed)
verneeds o s p at = entries (verneed_answer o s p) (λ x. x.next) (count_at o s p) at

abbrev pub behind_verdef : Object → ℕ → ℕ → ℕ → Verdef → Chain (ℕ × Verdef)
behind_verdef o s p at x = entry_then at x x.next (verdefs o s p)

abbrev pub behind_verneed : Object → ℕ → ℕ → ℕ → Verneed → Chain (ℕ × Verneed)
behind_verneed o s p at x = entry_then at x x.next (verneeds o s p)

-- ---- The auxiliary records of an entry

-- so many from a place on, each further one by the next of the one before: a next of 0 leads on to
-- none
unfoldable pub aux_upto : {A : Type 0} → (ℕ → Result A ElfError) → (A → ℕ) → ℕ → ℕ → Bool
    → Chain A
aux_upto read next zero at last = ended
aux_upto read next (suc left) at true = broken (BadChain at)
aux_upto read next (suc left) at false =
    led_by (read at) (λ x. leading x (aux_upto read next left (at + next x) (next x == 0)))

abbrev pub aux_from : {A : Type 0} → (ℕ → Result A ElfError) → (A → ℕ) → AuxPlace → Chain A
aux_from read next place = aux_upto read next place.left place.at place.last

-- the place of the first of an entry, and that behind one
abbrev pub first_aux : ℕ → ℕ → ℕ → AuxPlace
first_aux at aux cnt = record { at = at + aux; left = cnt; last = false }

abbrev pub next_aux : AuxPlace → ℕ → AuxPlace
next_aux place next = record { at = place.at + next; left = place.left - 1; last = next == 0 }

-- those of a definition, and those of needs
unfoldable pub verdauxs : Object → ℕ → ℕ → AuxPlace → Chain Verdaux
verdauxs o s p place = aux_from (verdaux_answer o s p) (λ x. x.next) place

unfoldable pub vernauxs : Object → ℕ → ℕ → AuxPlace → Chain Vernaux
vernauxs o s p place = aux_from (vernaux_answer o s p) (λ x. x.next) place

-- what a call answers that looks for the next one
abbrev pub aux_answer : {A : Type 0} → (ℕ → Result A ElfError) → AuxPlace
    → Result (Option A) ElfError
aux_answer read place =
    if place.left == 0 then Ok None
    else (if place.last then Err (BadChain place.at) else result_map Some (read place.at))

-- where it leaves the place: behind the record that it gave
abbrev pub IsBehindRecord : {A E : Type 0} → Result (Option A) E → (A → ℕ) → AuxPlace → AuxPlace
    → Type 0
IsBehindRecord (Ok (Some x)) next old new = (0 < old.left) × (new ≡ next_aux old (next x))
IsBehindRecord (Ok None) next old new = new ≡ old
IsBehindRecord (Err e) next old new = new ≡ old

-- one of them, and those behind it
abbrev pub aux_then : {A : Type 0} → Chain A → Option A → Chain A
aux_then rest None = ended
aux_then rest (Some x) = leading x rest

-- ---- Both

-- entries in their order, each with its auxiliary records: a bad chain of these comes first
unfoldable pub with_aux : {A B : Type 0} → (A → Chain B) → List A → Option ElfError
    → Chain (A × List B)
with_aux aux [] bad = record { found = []; bad = bad }
with_aux aux (x ∷ xs) bad =
    leading
    (x, (aux x).found)
    (elim ((aux x).bad) [ None ↦ with_aux aux xs bad | Some e ↦ broken e ])
