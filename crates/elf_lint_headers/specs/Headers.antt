-- The rules 1, 2 and 26: the ELF header and the program headers (gABI chapter 4, "ELF Header";
-- chapter 5, "Program Header").
use Rattle.std.specs.Prelude.{◌+◌, ◌==◌, ◌&&◌, not, nat_lt, Bool, length, codes}
use Rattle.elf_types.specs.declared.constants.TheConstants.{PT_LOAD}
use Rattle.elf_types.specs.declared.records.Phdr.{Phdr}
use Rattle.elf_xlate.specs.Headers.{ehdr_size}
use Rattle.tool_objects.specs.elf_object.Object.{Object}
use Rattle.elf_lint_findings.specs.Findings.{Rule, at_header, at_segments}

-- ---- 1: e_ehsize is not the size of the class's header

abbrev pub has_wrong_size : Object → Bool
has_wrong_size o = not (o.header.ehsize == ehdr_size o.header.class)

unfoldable pub wrong_header_size : Rule
wrong_header_size o = at_header 1 (codes "wrong header size") (has_wrong_size o)

-- ---- 2: a segment has bytes in the file, and they pass its end (p_offset, p_filesz)

unfoldable pub ends_outside : Object → Phdr → Bool
ends_outside o p = not (p.filesz == 0) && nat_lt (length o.base) (p.offset + p.filesz)

unfoldable pub segments_outside_the_file : Rule
segments_outside_the_file o = at_segments 2 (codes "outside the file") (ends_outside o) o.phdrs

-- ---- 26: a loadable segment has more bytes in the file than in memory (p_filesz, p_memsz)

unfoldable pub is_larger_in_file : Object → Phdr → Bool
is_larger_in_file o p = p.ptype == PT_LOAD && nat_lt p.memsz p.filesz

unfoldable pub segments_larger_than_memory : Rule
segments_larger_than_memory o =
    at_segments 26 (codes "file size is greater than memory size") (is_larger_in_file o) o.phdrs
