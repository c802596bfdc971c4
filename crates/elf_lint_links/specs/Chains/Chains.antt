-- The rules 29 and 30: notes and version records, which stand in chains (gABI chapter 5, "Note
-- Section"; GNU's version sections). A chain goes bad at a record that is not there.
use Rattle.std.specs.Prelude.{ℕ, ◌==◌, ◌&&◌, Bool, List, [], ◌∷◌, flat_map, length, map, Option, Some, None, if◌then◌else◌}
use Rattle.std.specs.Option.{option_or}
use Rattle.elf_types.specs.Answers.{first_refusal}
use Rattle.elf_types.specs.Text.{error_text}
use Rattle.elf_types.specs.declared.constants.TheConstants.{SHT_NOTE, SHT_GNU_VERDEF, SHT_GNU_VERNEED}
use Rattle.elf_types.specs.declared.errors.ElfError.{ElfError}
use Rattle.elf_types.specs.declared.errors.ElfError.TheVariants.{BadChain}
use Rattle.elf_lint_findings.specs.elf_object.Object.{Object}
use Rattle.elf_lint_findings.specs.elf_object.Due.{all_sections}
use Rattle.elf_lint_findings.specs.gelf_view.declared.versions.Verdef.{Verdef}
use Rattle.elf_lint_findings.specs.gelf_view.declared.versions.Verneed.{Verneed}
use Rattle.elf_lint_findings.specs.gelf_view.Calls.{first_version_place}
use Rattle.elf_lint_findings.specs.gelf_view.Chains.{Chain, ended, notes, verdefs, verneeds, verdauxs, vernauxs, first_aux}
use Rattle.elf_lint_findings.specs.elf_object.Sections.{header_at}
use Rattle.elf_lint_findings.specs.declared.places.Place.TheVariants.{Section}
use Rattle.elf_lint_findings.specs.Findings.{Finding, finding}
use Rattle.elf_lint_findings.specs.Looking.{is_plain, data_bytes}

-- ---- The first bad chain of a section

-- where a chain goes bad: what refuses its next record tells the place
abbrev pub bad_place : Option ElfError → Option ℕ
bad_place (Some (BadChain at)) = Some at
bad_place _ = None

-- `bad chain at N`
abbrev pub chain_found : ℕ → ℕ → Option ℕ → List Finding
chain_found number s None = []
chain_found number s (Some at) = finding number (Section s) (error_text (BadChain at)) ∷ []

unfoldable pub at_bad_chains : ℕ → (ℕ → Option ℕ) → List ℕ → List Finding
at_bad_chains number bad sections = flat_map (λ s. chain_found number s (bad s)) sections

-- whether a rule looks at a section of a type
unfoldable pub is_plain_of : Object → ℕ → ℕ → Bool
is_plain_of o s stype = is_plain o s && (header_at o s).stype == stype

-- ---- 29: the notes of a section of type SHT_NOTE, from its start to its end

unfoldable pub note_bad : Object → ℕ → Option ℕ
note_bad o s = if is_plain_of o s SHT_NOTE then bad_place (notes o s 0 0).bad else None

unfoldable pub bad_notes : Object → List Finding
bad_notes o = at_bad_chains 29 (note_bad o) (all_sections o)

-- ---- 30: the entries of a section of version definitions or needs, each with its names

-- from the first one on; an empty section has none
abbrev pub from_first : {A : Type 0} → Option ℕ → (ℕ → Chain A) → Chain A
from_first None from = ended
from_first (Some at) from = from at

-- the first bad chain of the names of entries, in the order of the entries, and else the one of the
-- entries themselves: the names of an entry come before the next entry
abbrev pub entries_bad : {A : Type 0} → (A → Option ℕ) → Chain A → Option ℕ
entries_bad names_bad entries =
    option_or (first_refusal (map names_bad entries.found)) (bad_place entries.bad)

-- that of the names of an entry at a place
unfoldable pub verdef_names_bad : Object → ℕ → (ℕ × Verdef) → Option ℕ
verdef_names_bad o s entry =
    bad_place (verdauxs o s 0 (first_aux entry.0 entry.1.aux entry.1.cnt)).bad

unfoldable pub verneed_names_bad : Object → ℕ → (ℕ × Verneed) → Option ℕ
verneed_names_bad o s entry =
    bad_place (vernauxs o s 0 (first_aux entry.0 entry.1.aux entry.1.cnt)).bad

-- that of all the entries of a section, by the names and the entries from a place on
abbrev pub section_bad : {A : Type 0} → (A → Option ℕ) → (ℕ → Chain A) → List ℕ → Option ℕ
section_bad names_bad entries bytes =
    entries_bad names_bad (from_first (first_version_place (length bytes)) entries)

unfoldable pub version_bad : Object → ℕ → Option ℕ
version_bad o s =
    if is_plain_of o s SHT_GNU_VERDEF
    then section_bad (verdef_names_bad o s) (verdefs o s 0) (data_bytes o s)
    else (if is_plain_of o s SHT_GNU_VERNEED
    then section_bad (verneed_names_bad o s) (verneeds o s 0) (data_bytes o s)
    else None)

unfoldable pub bad_versions : Object → List Finding
bad_versions o = at_bad_chains 30 (version_bad o) (all_sections o)
