-- The sections that are kept, and the table of their names, as they are looked at.
use Rattle.std.specs.Prelude.{ℕ, nat_lt, Bool, not, ◌==◌, ◌&&◌, List, length}
use Rattle.elf_types.specs.declared.constants.TheConstants.{SHT_STRTAB}
use Rattle.rebuild_select.specs.elf_object.Object.{Object, section_at}
use Rattle.rebuild_select.specs.elf_object.Sections.{is_allocated, header_at, is_among}

-- a section from 1 on that is not removed
unfoldable pub is_left : Object → List ℕ → ℕ → Bool
is_left o removed s =
    (not (s == 0) && nat_lt s (length o.sections)) && not (is_among removed s)

-- a string table without SHF_ALLOC that can be read
unfoldable pub is_loose_strings : Object → ℕ → Bool
is_loose_strings o s =
    (header_at o s).stype == SHT_STRTAB
    && not (is_allocated (header_at o s))
    && not ((section_at o s).home.out)
