-- The rules 21 to 25: the symbols of each symbol table (gABI chapter 4, "Symbol Table").
use Rattle.std.specs.Prelude.{◌≡◌, ◌<◌, ℕ, ◌==◌, ◌&&◌, not, nat_lt, nat_le, Bool, true, List, [], ◌∷◌, flat_map, take, length, None, is_none, codes, if◌then◌else◌}
use Rattle.std.specs.List.{list_any}
use Rattle.elf_types.specs.declared.constants.TheConstants.{SHN_LORESERVE}
use Rattle.elf_types.specs.declared.records.Kind.TheVariants as kinds
use Rattle.elf_types.specs.declared.records.Sym.{Sym}
use Rattle.elf_types.specs.Symbols.{is_local}
use Rattle.tool_objects.specs.elf_object.Object.{Object}
use Rattle.tool_objects.specs.elf_object.Answers.{lend_refusal}
use Rattle.tool_objects.specs.elf_object.Due.{all_sections}
use Rattle.tool_objects.specs.elf_object.Strings.{symbol_name}
use Rattle.tool_objects.specs.elf_object.Sections.{header_at}
use Rattle.elf_lint_symbols.specs.declared.by_symbol.CheckedSymbolTable.{CheckedSymbolTable}
use Rattle.elf_lint_findings.specs.Findings.{Finding, Rule, at_items}
use Rattle.elf_lint_findings.specs.Looking.{is_plain, is_symbol_table, is_string_table, is_no_section, linked_header, section_symbols}

-- ---- The symbols that rules look at

-- whether those of a section are
unfoldable pub has_symbols : Object → ℕ → Bool
has_symbols o s = is_plain o s && is_symbol_table (header_at o s)

unfoldable pub checked_symbols_of : Object → ℕ → List Sym
checked_symbols_of o s = if has_symbols o s then section_symbols o s else []

-- what a rule finds at those of a section that pass its test, and at those of all sections
abbrev pub SymbolTest : Type 0
SymbolTest = Object → ℕ → ℕ → Sym → Bool

unfoldable pub at_symbols_of : ℕ → List ℕ → SymbolTest → Object → ℕ → List Finding
at_symbols_of number text test o s = at_items number text s (test o s) (checked_symbols_of o s)

unfoldable pub at_symbols : ℕ → List ℕ → SymbolTest → Object → List Finding
at_symbols number text test o = flat_map (at_symbols_of number text test o) (all_sections o)

-- ---- 21: symbol 0, which stands for none (STN_UNDEF), has a field that is not 0

abbrev pub symbol_fields : Sym → List ℕ
symbol_fields x = x.name ∷ x.info ∷ x.other ∷ x.shndx ∷ x.value ∷ x.size ∷ []

unfoldable pub is_used : Sym → Bool
is_used x = list_any (λ n. not (n == 0)) (symbol_fields x)

-- at the first of the symbols of a section
unfoldable pub at_symbol_0 : ℕ → List Sym → List Finding
at_symbol_0 s symbols =
    at_items 21 (codes "symbol 0 is in use") s (λ i x. is_used x) (take 1 symbols)

abbrev pub symbol_0_of : Object → ℕ → List Finding
symbol_0_of o s = at_symbol_0 s (checked_symbols_of o s)

unfoldable pub symbol_0_in_use : Object → List Finding
symbol_0_in_use o = flat_map (symbol_0_of o) (all_sections o)

-- ---- 22: its name, st_name, cannot be read in the string table to which the symbol table links

unfoldable pub has_no_name : Object → ℕ → ℕ → Sym → Bool
has_no_name o s i x = is_string_table (linked_header o s) && is_none (symbol_name o s x)

unfoldable pub unreadable_symbol_names : Rule
unreadable_symbol_names = at_symbols 22 (codes "name cannot be read") has_no_name

-- ---- 23 and 24: local symbols stand before all others, and sh_info is the index of the first
-- other (ELF32_ST_BIND)

unfoldable pub is_late_local : Object → ℕ → ℕ → Sym → Bool
is_late_local o s i x = is_local x && nat_le (header_at o s).info i

unfoldable pub local_symbols_among_the_others : Rule
local_symbols_among_the_others =
    at_symbols 23 (codes "local symbol among the others") is_late_local

unfoldable pub is_early_other : Object → ℕ → ℕ → Sym → Bool
is_early_other o s i x = not (is_local x) && nat_lt i (header_at o s).info

unfoldable pub other_symbols_among_the_local : Rule
other_symbols_among_the_local =
    at_symbols 24 (codes "symbol among the local ones") is_early_other

-- ---- 25: st_shndx is no reserved index, and no section's

unfoldable pub is_of_no_section : Object → ℕ → ℕ → Sym → Bool
is_of_no_section o s i x = is_no_section o x.shndx && nat_lt x.shndx SHN_LORESERVE

unfoldable pub symbols_of_no_section : Rule
symbols_of_no_section = at_symbols 25 (codes "symbol of no section") is_of_no_section

-- ---- What the code looks for once a table

-- its symbols are looked at and can be told, and are so many; what its tests need of its header
pub record IsCheckedSymbolTable (o : Object) (t : CheckedSymbolTable) : Type 0 where
  pub there : t.section.0 < length o.sections
  pub looked : has_symbols o t.section.0 ≡ true
  pub passed : lend_refusal o kinds.Sym t.section.0 0 ≡ None
  pub count : t.count ≡ length (section_symbols o t.section.0)
  pub strings : t.strings.0 ≡ (header_at o t.section.0).link
  pub named : t.named ≡ is_string_table (linked_header o t.section.0)
  pub first_other : t.first_other ≡ (header_at o t.section.0).info
  pub sections : t.sections ≡ length o.sections

-- ---- What the code looks for once an object

-- a test holds of no symbol of a section that a rule looks at
abbrev pub FindsNone : SymbolTest → Object → ℕ → Type 0
FindsNone test o s = (number : ℕ) (text : List ℕ) → at_symbols_of number text test o s ≡ []

-- the rules 21 to 25 find nothing at the symbols of a section
pub record AreSoundSymbols (o : Object) (s : ℕ) : Type 0 where
  pub first : symbol_0_of o s ≡ []
  pub names : FindsNone has_no_name o s
  pub late : FindsNone is_late_local o s
  pub early : FindsNone is_early_other o s
  pub sections : FindsNone is_of_no_section o s

-- nor at those of any section
pub record AllSymbolsSound (o : Object) : Type 0 where
  pub first : symbol_0_in_use o ≡ []
  pub names : unreadable_symbol_names o ≡ []
  pub late : local_symbols_among_the_others o ≡ []
  pub early : other_symbols_among_the_local o ≡ []
  pub sections : symbols_of_no_section o ≡ []
