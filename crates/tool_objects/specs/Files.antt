-- What a tool says of a file, an image or an archive by its first bytes.
use Rattle.std.specs.Prelude.{ℕ, ◌+◌, List}
use Rattle.gelf_view.specs.elf_ident.declared.file_kinds.FileKind.{FileKind}
use Rattle.gelf_view.specs.elf_ident.declared.file_kinds.FileKind.TheVariants.{Archive, Elf, Other}
use Rattle.gelf_view.specs.elf_ident.FileKinds.{file_kind}
use Rattle.tool_output.specs.Names.{Name}
use Rattle.tool_output.specs.Reports.{Report}

-- by what is said of an image, and of an archive; what begins as neither is taken as an image
abbrev pub report_by : (Name → List ℕ → Report) → (Name → List ℕ → Report) → FileKind → Name
    → List ℕ → Report
report_by of_image of_archive Archive name bytes = of_archive name bytes
report_by of_image of_archive Elf name bytes = of_image name bytes
report_by of_image of_archive Other name bytes = of_image name bytes

unfoldable pub file_report : (Name → List ℕ → Report) → (Name → List ℕ → Report) → Name → List ℕ
    → Report
file_report of_image of_archive name bytes =
    report_by of_image of_archive (file_kind bytes) name bytes

-- how many bytes are asked for at most: eight for the kind, and then what is asked for of an image,
-- or of an archive
abbrev pub asks_by : (List ℕ → ℕ) → (List ℕ → ℕ) → FileKind → List ℕ → ℕ
asks_by of_image of_archive Archive bytes = of_archive bytes
asks_by of_image of_archive Elf bytes = of_image bytes
asks_by of_image of_archive Other bytes = of_image bytes

unfoldable pub file_asks : (List ℕ → ℕ) → (List ℕ → ℕ) → List ℕ → ℕ
file_asks of_image of_archive bytes = 8 + asks_by of_image of_archive (file_kind bytes) bytes
