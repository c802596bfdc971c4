-- What a tool says of an image: the report on its object, or why it is refused.
use Rattle.std.specs.Prelude.{ℕ, ◌+◌, ◌*◌, List, Result, Ok, Err, if◌then◌else◌}
use Rattle.elf_types.specs.declared.errors.ElfError.{ElfError}
use Rattle.elf_types.specs.declared.errors.ElfError.TheVariants.{Magic}
use Rattle.elf_types.specs.Text.{error_text}
use Rattle.gelf_view.specs.elf_ident.declared.file_kinds.FileKind.{FileKind}
use Rattle.gelf_view.specs.elf_ident.declared.file_kinds.FileKind.TheVariants.{Archive, Elf, Other}
use Rattle.gelf_view.specs.elf_ident.FileKinds.{file_kind}
use Rattle.gelf_view.specs.elf_ident.Front.{front_bytes}
use Rattle.gelf_view.specs.elf_object.Object.{Object}
use Rattle.gelf_view.specs.elf_object.Open.{opened}
use Rattle.tool_output.specs.Names.{Name}
use Rattle.tool_output.specs.Reports.{Report, refusal_report}
use Rattle.tool_objects.specs.Steps.{homes_total, asked_again}
use Rattle.tool_objects.specs.Looks.{SectionLooks}

-- the report on an object, or the message that says why there is none
abbrev pub object_report : List ℕ → (Name → Object → Report) → Name → Result Object ElfError
    → Report
object_report command report name (Ok o) = report name o
object_report command report name (Err e) = refusal_report command name (error_text e)

-- of a command that says this of an object, the report on the bytes of an image, whose front tells
-- whether they are one
unfoldable pub image_report : List ℕ → (Name → Object → Report) → Name → List ℕ → Report
image_report command report name image = object_report command report name (opened image)

-- ---- How many bytes are asked for at most

-- of an object, once it has begun: by a tool that reads sections, their homes that lie in the file,
-- each once, and where homes overlap once more for each pass over them
unfoldable pub object_asks : SectionLooks → Object → ℕ
object_asks looks o =
    if looks.reads then homes_total o + looks.passes * asked_again o else 0

-- of an image: the front what is stated of it, and then what is asked of its object
unfoldable pub image_asks : SectionLooks → List ℕ → ℕ
image_asks looks image =
    front_bytes image + elim (opened image) [ Ok o ↦ object_asks looks o | Err e ↦ 0 ]

-- ---- For a command that takes no archive

-- the object of a file's bytes; an archive is no image
unfoldable pub object_by : FileKind → List ℕ → Result Object ElfError
object_by Archive image = Err Magic
object_by Elf image = opened image
object_by Other image = opened image

unfoldable pub file_object : List ℕ → Result Object ElfError
file_object image = object_by (file_kind image) image
