-- The image of the self test on its way (`Generated` of rebuild_model): which sections it has,
-- and which names of sections are used.
use Rattle.std.specs.Prelude.{◌≡◌, ℕ, true, List, [], ◌∷◌, ◌++◌, map, codes}
use Rattle.elf_types.specs.declared.records.Class.TheVariants.{C64}
use Rattle.elf_types.specs.declared.records.Order.TheVariants.{Least}
use Rattle.elf_types.specs.declared.records.Sym.{Sym}
use Rattle.strtab_build.specs.Table.{distinct}
use Rattle.elf_object.specs.Object.{Object, Section, new_section}
use Rattle.elf_object.specs.Open.{created}
use Rattle.elf_object.specs.Steps.{with_sections}
use Rattle.elf_descriptor.specs.State.{State}
use Rattle.rebuild_model.specs.Generated.{numbered_name, from_1_to, zero_sym, generated_sym, generated_data, generated_symtab, generated_strtab, generated_symbol_names, generated_section_names}

-- ---- Descriptors

-- it was made, and stands for this object
pub record StandsFor {S : Type 0} (o : Object) (e : State S) : Type 0 where
  pub object : e.o ≡ o
  pub told : e.told ≡ true

-- an object of class 64, the least byte first, with these sections
abbrev pub staged : List Section → Object
staged sections = with_sections (created C64 Least) sections

-- it has these sections, and these names of sections are used
pub record IsStage {S : Type 0} (sections : List Section) (used : List (List ℕ)) (e : State S)
    (names : List (List ℕ)) : Type 0 where
  pub made : StandsFor (staged sections) e
  pub named : names ≡ distinct used

-- ---- Sections, and their names

-- section 0, and those with data up to one
abbrev pub data_sections : ℕ → ℕ → List Section
data_sections n i = new_section ∷ map (generated_data n) (from_1_to i)

abbrev pub data_names : ℕ → List (List ℕ)
data_names i = map (numbered_name (codes ".s")) (from_1_to i)

-- with the section of the symbols
abbrev pub symtab_sections : ℕ → List Section
symtab_sections n = data_sections n n ++ generated_symtab n ∷ []

abbrev pub symtab_names : ℕ → List (List ℕ)
symtab_names n = data_names n ++ codes ".symtab" ∷ []

-- with that of their names
abbrev pub strtab_sections : ℕ → List Section
strtab_sections n =
    symtab_sections n ++ generated_strtab n (codes ".strtab") (generated_symbol_names n) ∷ []

abbrev pub strtab_names : ℕ → List (List ℕ)
strtab_names n = symtab_names n ++ codes ".strtab" ∷ []

-- with that of the sections' names
abbrev pub named_sections : ℕ → List Section
named_sections n =
    strtab_sections n ++ generated_strtab n (codes ".shstrtab") (generated_section_names n) ∷ []

-- ---- Symbols, and their names

-- symbol 0, and those up to one
abbrev pub symbols_to : ℕ → ℕ → List Sym
symbols_to n i = zero_sym ∷ map (generated_sym n) (from_1_to i)

abbrev pub symbol_names_to : ℕ → List (List ℕ)
symbol_names_to i = map (numbered_name (codes "y")) (from_1_to i)

-- there are these symbols, and their names are used
pub record AreSymbols (n i : ℕ) (symbols : List Sym) (strings : List (List ℕ)) : Type 0 where
  pub symbols_are : symbols ≡ symbols_to n i
  pub named : strings ≡ distinct (symbol_names_to i)
