-- One item of a piece, of a kind whose lists of items are given (gelf_getsym and its like): the
-- calls of the plain object that give an item are this, each at its kind.
use Rattle.std.specs.Prelude.{ℕ, List}
use Rattle.elf_types.specs.declared.records.Kind.{Kind}
use Rattle.section_table.specs.elf_xlate.declared.content.Items.{Items}
use Rattle.section_table.specs.elf_object.Answers.{items_at, entry_answer, lend_refusal}
use Rattle.section_table.specs.elf_object.Calls.{Call, reader}

abbrev pub entry : {A : Type 0} → Kind → (Items → List A) → ℕ → ℕ → ℕ → Call A
entry kind list_of s p i =
    reader s p (λ o. entry_answer (lend_refusal o kind s p) (list_of (items_at o s p)) i)
