-- The rule 20: no byte of the file is one of two parts (gABI chapter 4, "Sections": sections do not
-- overlap; "ELF Header", e_phoff and e_shoff). The pair is the one that an update refuses.
use Rattle.std.specs.Prelude.{ℕ, true, List, [], ◌∷◌, ◌++◌, map, if◌then◌else◌, Option, Some, None, codes}
use Rattle.elf_types.specs.declared.records.Part.{Part}
use Rattle.elf_types.specs.declared.records.Part.TheVariants as part
use Rattle.elf_types.specs.Text.{part_text}
use Rattle.elf_layout.specs.declared.parts.PartAt.{PartAt}
use Rattle.elf_layout.specs.Meeting.{overlap_of}
use Rattle.tool_objects.specs.elf_object.Object.{Object, Home, section_at}
use Rattle.tool_objects.specs.elf_object.Layout.{header_part, segments_part, table_part, section_numbers}
use Rattle.elf_lint_findings.specs.declared.places.Place.TheVariants.{File}
use Rattle.elf_lint_findings.specs.Findings.{Finding, Rule, finding}

-- what a section has in the file: nothing where it is out of it
abbrev pub extent_len : Home → ℕ
extent_len home = if home.out then 0 else home.len

-- a section as a part, where its header, as opened, puts it
unfoldable pub home_part : Object → ℕ → PartAt
home_part o s = record {
  part = part.Section s;
  at = (section_at o s).home.at;
  len = extent_len (section_at o s).home;
  align = 1;
  filled = true;
}

-- the ELF header, the program header table, the sections from 1 on, the section header table
unfoldable pub standing_parts : Object → List PartAt
standing_parts o =
    header_part o
    ∷ segments_part o
    ∷ map (home_part o) (section_numbers o) ++ table_part o ∷ []

-- `PART and PART overlap`
unfoldable pub overlapping_text : Part → Part → List ℕ
overlapping_text a b = part_text a ++ codes " and " ++ part_text b ++ codes " overlap"

abbrev pub overlap_found : Option (Part × Part) → List Finding
overlap_found None = []
overlap_found (Some pair) = finding 20 File (overlapping_text pair.0 pair.1) ∷ []

-- of the parts by position, the first that a later one meets, and the one next after it
unfoldable pub overlapping_parts : Rule
overlapping_parts o = overlap_found (overlap_of (standing_parts o))
