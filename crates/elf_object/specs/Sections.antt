-- What section headers tell, and lists of section numbers (gABI chapter 4, "Sections").
use Rattle.std.specs.Prelude.{ℕ, ◌/◌, ◌%◌, max, Bool, not, ◌==◌, ◌&&◌, ◌||◌, nat_eq, List, [], ◌∷◌, length, filter, slice_get, Option, Some, None, Result, Ok}
use Rattle.std.specs.List.{list_any}
use Rattle.elf_types.specs.Answers.{◌>>=◌}
use Rattle.elf_types.specs.Kinds.{section_kind}
use Rattle.elf_types.specs.declared.records.Kind.{Kind}
use Rattle.elf_types.specs.declared.records.Shdr.{Shdr}
use Rattle.elf_types.specs.declared.errors.ElfError.{ElfError}
use Rattle.elf_types.specs.declared.constants.TheConstants.{SHT_RELA, SHT_REL, SHF_ALLOC, SHF_INFO_LINK}
use Rattle.elf_object.specs.Object.{Object, section_at}
use Rattle.elf_object.specs.Answers.{same_kind}
use Rattle.elf_object.specs.Calls.{Call}

-- a section that is in memory when the program runs
unfoldable pub is_allocated : Shdr → Bool
is_allocated h = h.flags / SHF_ALLOC % 2 == 1

-- relocations, whose sh_info is the section that they change
unfoldable pub is_relocations : Shdr → Bool
is_relocations h = h.stype == SHT_REL || h.stype == SHT_RELA

-- sh_info is a section's number
unfoldable pub info_is_section : Shdr → Bool
info_is_section h = is_relocations h || h.flags / SHF_INFO_LINK % 2 == 1

-- a section of a type whose items are of a kind
unfoldable pub is_of : ℕ → Kind → Shdr → Bool
is_of stype kind h = h.stype == stype && same_kind (section_kind h) kind

-- the same without SHF_ALLOC
unfoldable pub is_loose : ℕ → Kind → Shdr → Bool
is_loose stype kind h = is_of stype kind h && not (is_allocated h)

-- a program has program headers
abbrev pub is_program : Object → Bool
is_program o = not (length o.phdrs == 0)

-- the present header of a section
abbrev pub header_at : Object → ℕ → Shdr
header_at o s = (section_at o s).header

-- ---- Lists of numbers

unfoldable pub is_among : List ℕ → ℕ → Bool
is_among numbers n = list_any (nat_eq n) numbers

-- the first number that passes
abbrev pub first_of : (ℕ → Bool) → List ℕ → Option ℕ
first_of test numbers = slice_get (filter test numbers) 0

-- the greatest of numbers, and 0 of none
unfoldable pub greatest : List ℕ → ℕ
greatest [] = 0
greatest (n ∷ numbers) = max n (greatest numbers)

abbrev pub number_or_0 : Option ℕ → ℕ
number_or_0 (Some n) = n
number_or_0 None = 0

-- ---- Edits

-- an edit on an object: the object that it leaves, or its refusal
abbrev pub edited : {A : Type 0} → Call A → Object → Result Object ElfError
edited call o = call.answer o >>= λ x. Ok (call.after o)

-- edits one after the other, up to the first that is refused
unfoldable pub in_turn : {A B E : Type 0} → (A → B → Result A E) → A → List B → Result A E
in_turn change old [] = Ok old
in_turn change old (x ∷ later) = change old x >>= λ new. in_turn change new later
