-- What a file is, by its first bytes (gABI chapter 4, "ELF Identification", and chapter 7, "Archive
-- File").
use Rattle.std.specs.Prelude.{List, ℕ, nat_eq, if◌then◌else◌}
use Rattle.std.specs.List.{starts_with}
use Rattle.elf_types.specs.declared.constants.TheConstants.{ARMAG, ELFMAG}
use Rattle.elf_ident.specs.declared.file_kinds.FileKind.{FileKind}
use Rattle.elf_ident.specs.declared.file_kinds.FileKind.TheVariants.{Archive, Elf, Other}

unfoldable pub file_kind : List ℕ → FileKind
file_kind bytes =
    if starts_with nat_eq bytes ARMAG then Archive
    else (if starts_with nat_eq bytes ELFMAG then Elf else Other)
