-- The data of the sections of some types: what stands in place of its lines where it can not be
-- shown, and how its title begins.
use Rattle.std.specs.Prelude.{◌++◌, ℕ, List, Bool, Option, Some, None, codes, decimal, if◌then◌else◌}
use Rattle.elf_types.specs.declared.errors.ElfError.{ElfError}
use Rattle.elf_types.specs.declared.errors.ElfError.TheVariants.{OutOfFile}
use Rattle.elf_types.specs.Text.{error_text}
use Rattle.elf_types.specs.Kinds.{is_compressed}
use Rattle.tool_objects.specs.elf_object.Object.{Object, section_at}
use Rattle.tool_objects.specs.elf_object.Due.{all_sections}
use Rattle.tool_objects.specs.tool_output.Names.{Name}
use Rattle.tool_objects.specs.tool_output.Messages.{section_message}
use Rattle.tool_objects.specs.tool_output.Reports.{Report, refusal_report, reports_of}
use Rattle.tool_objects.specs.Sections.{bracketed, report_if}

-- ---- What stands in place of the lines

-- a message on the object
abbrev pub readelf_refusal : Name → List ℕ → Report
readelf_refusal name text = refusal_report (codes "readelf") name text

-- a section that is out of the file, or whose data is compressed, has a message
unfoldable pub if_plain : Name → Object → ℕ → Report → Report
if_plain name o s lines =
    if (section_at o s).home.out then readelf_refusal name (error_text (OutOfFile s))
    else (if is_compressed (section_at o s).header.flags
    then readelf_refusal name (section_message s (codes "compressed"))
    else lines)

-- and so has one whose items can not be told
unfoldable pub if_told : Name → Option ElfError → Report → Report
if_told name None lines = lines
if_told name (Some e) lines = readelf_refusal name (error_text e)

-- what is said of each section of some types, by number
unfoldable pub plain_report : (ℕ → Bool) → Name → Object → (ℕ → Report) → ℕ → Report
plain_report has name o report s =
    report_if (has (section_at o s).header.stype) (if_plain name o s (report s))

unfoldable pub each_plain : (ℕ → Bool) → Name → Object → (ℕ → Report) → Report
each_plain has name o report = reports_of (plain_report has name o report) (all_sections o)

-- ---- The title

-- `TITLE S NAME`
unfoldable pub data_title : List ℕ → ℕ → Option (List ℕ) → List ℕ
data_title title s name = title ++ decimal s ++ codes " " ++ bracketed name
