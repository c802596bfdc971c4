-- The symbols that a hash section lists, which are those that a lookup by name can find: global
-- or weak ones that are defined and have a name (gABI chapter 5, "Hash Table"; chapter 4,
-- "Symbol Table").
use Rattle.std.specs.Prelude.{ℕ, ◌/◌, Bool, not, ◌==◌, ◌&&◌, List, [], ◌∷◌, map, if◌then◌else◌, Option, Some, None, Result}
use Rattle.std.specs.List.{position, enumerate_from}
use Rattle.elf_types.specs.Answers.{answered}
use Rattle.elf_types.specs.declared.records.Kind.TheVariants as kinds
use Rattle.elf_types.specs.declared.records.Sym.{Sym}
use Rattle.elf_types.specs.declared.errors.ElfError.{ElfError}
use Rattle.elf_types.specs.declared.constants.TheConstants.{STB_LOCAL, SHN_UNDEF}
use Rattle.elf_object.specs.Object.{Object}
use Rattle.elf_object.specs.Answers.{items_at, syms_of, lend_refusal}
use Rattle.elf_object.specs.Strings.{symbol_name, is_name}

-- a name that can be read and is not empty
abbrev pub not_empty : Option (List ℕ) → Option (List ℕ)
not_empty None = None
not_empty (Some []) = None
not_empty (Some (b ∷ bs)) = Some (b ∷ bs)

-- ELF32_ST_BIND, and the section's index
abbrev pub is_defined_global : Sym → Bool
is_defined_global x = not (x.info / 16 == STB_LOCAL) && not (x.shndx == SHN_UNDEF)

-- the name of symbol i of section s where it is listed; symbol 0 never is
unfoldable pub listed_name : Object → ℕ → ℕ → Sym → Option (List ℕ)
listed_name o s i x =
    if not (i == 0) && is_defined_global x then not_empty (symbol_name o s x) else None

-- for each symbol in piece 0 of a section its name where it is listed
unfoldable pub listed_names : Object → ℕ → List (Option (List ℕ))
listed_names o s =
    map (λ row. listed_name o s row.0 row.1) (enumerate_from 0 (syms_of (items_at o s 0)))

-- the least index of a listed symbol with that name
unfoldable pub find_linear_answer : Object → ℕ → List ℕ → Result (Option ℕ) ElfError
find_linear_answer o s name =
    answered (lend_refusal o kinds.Sym s 0) (position (is_name name) (listed_names o s))
