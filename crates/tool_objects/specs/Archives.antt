-- What a tool says of an archive: of each member, in their order, what it says of an image, and why
-- the archive is refused, if it is. How many bytes it asks for.
use Rattle.std.specs.Prelude.{ℕ, ◌+◌, List, take, drop, Option, Some, None, Result, Ok, Err}
use Rattle.std.specs.List.{sum_by}
use Rattle.elf_types.specs.declared.errors.ElfError.{ElfError}
use Rattle.elf_types.specs.declared.errors.ElfError.TheVariants.{BadMember}
use Rattle.elf_types.specs.Answers.{answered}
use Rattle.elf_types.specs.Text.{error_text}
use Rattle.ar_members.specs.declared.headers.ArHdr.{ArHdr}
use Rattle.ar_members.specs.declared.headers.TheConstants.{FIRST}
use Rattle.ar_members.specs.Archives.{Walk, first_walk, members_left, left_due}
use Rattle.ar_members.specs.Magic.{archive_refusal}
use Rattle.ar_members.specs.Members.{Members, members}
use Rattle.gelf_view.specs.elf_object.Object.{Object}
use Rattle.tool_output.specs.Names.{Name, file_name, member_name}
use Rattle.tool_output.specs.Reports.{Report, no_report, refusal_report, joined_reports, reports_of}
use Rattle.tool_objects.specs.Looks.{SectionLooks}
use Rattle.tool_objects.specs.Images.{image_report, image_asks}

-- the bytes of the member of a header
abbrev pub member_bytes : List ℕ → ArHdr → List ℕ
member_bytes archive header = take header.size (drop header.body archive)

-- the report on a member, which need be no image, under `LIB[MEMBER]`
unfoldable pub member_report : (Name → List ℕ → Report) → List ℕ → List ℕ → ArHdr → Report
member_report report file archive header =
    report (member_name file header.name) (member_bytes archive header)

-- the message of the bad header that ends the members, if one does
unfoldable pub end_report : List ℕ → List ℕ → Option ℕ → Report
end_report command file None = no_report
end_report command file (Some at) =
    refusal_report command (file_name file) (error_text (BadMember at))

-- the reports on members, and then that message
unfoldable pub members_report : List ℕ → (Name → List ℕ → Report) → List ℕ → List ℕ → Members
    → Report
members_report command report file archive left =
    joined_reports (reports_of (member_report report file archive) left.list)
    (end_report command file left.bad)

-- the members of an archive, which is refused where it is too large
abbrev pub archive_members : List ℕ → Result Members ElfError
archive_members archive = answered (archive_refusal archive) (members archive)

-- the reports on its members, or the message that says why it is refused
abbrev pub walk_report : List ℕ → (Name → List ℕ → Report) → List ℕ → List ℕ
    → Result Members ElfError → Report
walk_report command report file archive (Ok all) = members_report command report file archive all
walk_report command report file archive (Err e) =
    refusal_report command (file_name file) (error_text e)

-- of a command that says this of an object, the report on the bytes of an archive
unfoldable pub archive_report : List ℕ → (Name → Object → Report) → Name → List ℕ → Report
archive_report command report name archive =
    walk_report command (image_report command report) name.file archive (archive_members archive)

-- ---- How many bytes are asked for at most

-- for a member: what is asked for of an image, which it need not be
abbrev pub member_asks : SectionLooks → List ℕ → ArHdr → ℕ
member_asks looks archive header = image_asks looks (member_bytes archive header)

-- for what is left of an archive: what the walk over it asks for, each header and the tables of
-- long names, and what is asked for its members
abbrev pub left_asks : SectionLooks → List ℕ → Walk → ℕ
left_asks looks archive walk =
    left_due archive walk + sum_by (member_asks looks archive) (members_left archive walk).list

-- for an archive: its first line, and all that is behind it
unfoldable pub archive_asks : SectionLooks → List ℕ → ℕ
archive_asks looks archive = FIRST + left_asks looks archive first_walk
