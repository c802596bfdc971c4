-- What the answer of a call is over every source, also over one that does not tell its bytes.
use Rattle.std.specs.Prelude.{◌≡◌, ℕ, ◌<◌, length, Ok}
use Rattle.elf_types.specs.declared.records.Kind.{Kind}
use Rattle.elf_types.specs.declared.records.Kind.TheVariants as kinds
use Rattle.elf_xlate.specs.Translation.{items_kind}
use Rattle.symbol_lookup.specs.elf_object.Object.{Object, section_at}
use Rattle.symbol_lookup.specs.elf_object.Answers.{items_at, count_at}
use Rattle.symbol_lookup.specs.gelf_view.Notes.{IsNoteWithin}
use Rattle.elf_calls_script.specs.declared.calls.Call.{Call}
use Rattle.elf_calls_script.specs.declared.calls.Call.TheVariants as call
use Rattle.elf_calls_apply.specs.declared.answers.PieceItem.{PieceItem}
use Rattle.elf_calls_apply.specs.declared.answers.PieceItem.TheVariants as one
use Rattle.elf_calls_apply.specs.declared.answers.Answer.{Answer}
use Rattle.elf_calls_apply.specs.declared.answers.Answer.TheVariants as answer
use Rattle.elf_calls_apply.specs.Stated.{stated_call}

-- the kind of an item
abbrev pub item_kind : PieceItem → Kind
item_kind (one.Byte x) = kinds.Bytes
item_kind (one.Half x) = kinds.Half
item_kind (one.Word x) = kinds.Word
item_kind (one.Addr x) = kinds.Addr
item_kind (one.Sym x) = kinds.Sym
item_kind (one.Rel x) = kinds.Rel
item_kind (one.Rela x) = kinds.Rela
item_kind (one.Dyn x) = kinds.Dyn

-- so many bytes
abbrev pub IsRaw : ℕ → Answer → Type 0
IsRaw count (answer.Raw bytes) = length bytes ≡ count
IsRaw count _ = ⊥

-- an item of that kind
abbrev pub IsItem : Kind → Answer → Type 0
IsItem kind (answer.Item x) = item_kind x ≡ kind
IsItem kind _ = ⊥

abbrev pub IsStr : Answer → Type 0
IsStr (answer.Str bytes) = Unit {0}
IsStr _ = ⊥

-- a note at a place of so many bytes that lies in them, or none exactly at their end
abbrev pub IsNote : ℕ → ℕ → Answer → Type 0
IsNote count at (answer.Note note) = IsNoteWithin count at note
IsNote count at answer.NoteEnd = at ≡ count
IsNote count at _ = ⊥

-- one of so many symbols, or none
abbrev pub IsFound : ℕ → Answer → Type 0
IsFound count (answer.Found i) = i < count
IsFound count answer.FoundNone = Unit {0}
IsFound count _ = ⊥

abbrev pub IsDone : Answer → Type 0
IsDone answer.Done = Unit {0}
IsDone _ = ⊥

-- An answer of a call on an object, whatever bytes stand in its file: it has the form that is the
-- call's, and the lengths, kinds and places that rest on no byte. A call that shows no bytes
-- answers what is stated.
abbrev pub IsAnswerOf : Call → Object → Answer → Type 0
IsAnswerOf (call.Raw s) o a = IsRaw (length (section_at o s.0).raw) a
IsAnswerOf (call.Item d i) o a = IsItem (items_kind (items_at o d.section d.piece)) a
IsAnswerOf (call.Str s off) o a = IsStr a
IsAnswerOf (call.Note d at) o a = IsNote (count_at o d.section d.piece) at a
IsAnswerOf (call.Find s name) o a = IsFound (count_at o s.0 0) a
IsAnswerOf (call.SetItem d i set) o a = IsDone a
IsAnswerOf c o a = (stated_call c).answer o ≡ Ok a
