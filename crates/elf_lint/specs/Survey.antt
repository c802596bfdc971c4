-- What is told of the rules by one look at the headers of all sections, and one at all symbols: of
-- some, that they find nothing.
use Rattle.std.specs.Prelude.{◌≡◌, ◌<◌, ℕ, ◌==◌, ◌||◌, not, Bool, true, false, IsTrue, []}
use Rattle.elf_types.specs.declared.constants.TheConstants.{SHT_DYNAMIC, SHT_HASH, SHT_NOTE, SHT_GNU_HASH, SHT_GNU_VERDEF, SHT_GNU_VERNEED}
use Rattle.elf_types.specs.declared.records.Shdr.{Shdr}
use Rattle.symbol_lookup.specs.elf_object.Object.{Object}
use Rattle.symbol_lookup.specs.elf_object.Sections.{header_at, is_relocations}
use Rattle.elf_lint_findings.specs.Looking.{is_string_table, is_symbol_table}
use Rattle.elf_lint_headers.specs.Sections.{is_odd_section}
use Rattle.elf_lint_links.specs.Links.{is_linked_wrongly}
use Rattle.elf_lint.specs.declared.rules.RuleOnLinks.{RuleOnLinks}
use Rattle.elf_lint.specs.declared.rules.RuleOnLinks.TheVariants as link_rules
use Rattle.elf_lint.specs.declared.rules.RuleOnSymbols.{RuleOnSymbols}
use Rattle.elf_lint.specs.declared.rules.RuleOnSymbols.TheVariants as symbol_rules
use Rattle.elf_lint.specs.declared.rules.LintRule.{LintRule}
use Rattle.elf_lint.specs.declared.rules.LintRule.TheVariants as rules
use Rattle.elf_lint.specs.declared.survey.Survey.{Survey}
use Rattle.elf_lint.specs.Rules.{finds}

-- ---- The sections

-- a rule that goes by headers alone has a finding there
abbrev pub is_odd : Object → ℕ → Bool
is_odd o s = is_odd_section o s || is_linked_wrongly o s

-- SHT_NOTE
abbrev pub is_notes : Shdr → Bool
is_notes h = h.stype == SHT_NOTE

-- what a dynamic linker goes by: the dynamic section, hash sections, version definitions and needs
abbrev pub is_of_linking : Shdr → Bool
is_of_linking h =
    h.stype == SHT_DYNAMIC
    || (h.stype == SHT_HASH
    || (h.stype == SHT_GNU_HASH || (h.stype == SHT_GNU_VERDEF || h.stype == SHT_GNU_VERNEED)))

-- where a flag is false, none of the first sections passes a test
abbrev pub NonePasses : Bool → (ℕ → Bool) → ℕ → Type 0
NonePasses flag test n = flag ≡ false → (s : ℕ) → s < n → test s ≡ false

-- what a survey tells of the first sections
pub record IsSurveyOf (o : Object) (n : ℕ) (v : Survey) : Type 0 where
  pub odd : NonePasses v.odd (is_odd o) n
  pub strings : NonePasses v.strings (λ s. is_string_table (header_at o s)) n
  pub symbols : NonePasses v.symbols (λ s. is_symbol_table (header_at o s)) n
  pub relocations : NonePasses v.relocations (λ s. is_relocations (header_at o s)) n
  pub notes : NonePasses v.notes (λ s. is_notes (header_at o s)) n
  pub linking : NonePasses v.linking (λ s. is_of_linking (header_at o s)) n

-- one of none
abbrev pub survey_none : Survey
survey_none = record {
  odd = false;
  strings = false;
  symbols = false;
  relocations = false;
  notes = false;
  linking = false;
  bytes = 0;
}

-- ---- The rules

-- whether a rule on links finds nothing by what a survey tells
abbrev pub clears_link : Survey → RuleOnLinks → Bool
clears_link v link_rules.TablesWithoutFirstNul = not v.strings
clears_link v link_rules.TablesWithoutLastNul = not v.strings
clears_link v link_rules.SymbolsWithoutStrings = not v.odd
clears_link v link_rules.RelocationsWithoutSymbols = not v.odd
clears_link v link_rules.HashesWithoutSymbols = not v.odd
clears_link v link_rules.DynamicWithoutStrings = not v.odd
clears_link v link_rules.DynamicWithoutEnd = not v.linking
clears_link v link_rules.BadNotes = not v.notes
clears_link v link_rules.BadVersions = not v.linking

-- or one on symbols
abbrev pub clears_symbol : Survey → RuleOnSymbols → Bool
clears_symbol v symbol_rules.Symbol0InUse = not v.symbols
clears_symbol v symbol_rules.UnreadableSymbolNames = not v.symbols
clears_symbol v symbol_rules.LocalSymbolsAmongTheOthers = not v.symbols
clears_symbol v symbol_rules.OtherSymbolsAmongTheLocal = not v.symbols
clears_symbol v symbol_rules.SymbolsOfNoSection = not v.symbols
clears_symbol v symbol_rules.RelocationsByNoSymbol = not v.relocations
clears_symbol v symbol_rules.HashesNotWhole = not v.linking
clears_symbol v symbol_rules.GnuHashesNotWhole = not v.linking

-- or any
abbrev pub clears : Survey → LintRule → Bool
clears v (rules.Header rule) = false
clears v (rules.Section rule) = not v.odd
clears v (rules.Link rule) = clears_link v rule
clears v (rules.Symbol rule) = clears_symbol v rule

-- where the source tells its bytes, these find nothing
abbrev pub ClearsRules : Bool → Object → Survey → Type 0
ClearsRules told o v = IsTrue told → (rule : LintRule) → clears v rule ≡ true → finds rule o ≡ []

-- one by which the rules 21 to 25 find nothing
abbrev pub without_symbols : Survey → Survey
without_symbols v = record {
  odd = v.odd;
  strings = v.strings;
  symbols = false;
  relocations = v.relocations;
  notes = v.notes;
  linking = v.linking;
  bytes = v.bytes;
}

-- one that knows besides whether all symbols are sound
abbrev pub with_symbols : Bool → Survey → Survey
with_symbols true v = without_symbols v
with_symbols false v = v
