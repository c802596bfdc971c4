-- The ends of the parts of a program, as numbers of eight bytes.
use Rattle.std.specs.Prelude.{ℕ, ◌+◌, ◌-◌, ◌^◌, min, Bool, not, ◌==◌, ◌&&◌, ◌||◌, List, if◌then◌else◌}
use Rattle.elf_types.specs.declared.records.Phdr.{Phdr}
use Rattle.elf_types.specs.declared.records.Shdr.{Shdr}
use Rattle.elf_types.specs.declared.constants.TheConstants.{PT_NULL}
use Rattle.rebuild_making.specs.elf_object.Object.{Object, section_at}
use Rattle.rebuild_making.specs.elf_object.Sections.{is_allocated, is_among}
use Rattle.rebuild_making.specs.rebuild_model.Arranged.{loaded_end}

-- a number, and 2^64 - 1 where it is more
abbrev pub at_most_word : ℕ → ℕ
at_most_word n = min n (2 ^ 64 - 1)

-- a segment without bytes in the file
abbrev pub is_bare : Phdr → Bool
is_bare p = p.ptype == PT_NULL || p.filesz == 0

-- the end of a home with a header, where that is allocated and the home is not empty
abbrev pub home_end : Shdr → ℕ → ℕ → ℕ
home_end h at len = if is_allocated h && not (len == 0) then at + len else 0

-- that of a section that is kept
abbrev pub kept_end : Object → List ℕ → ℕ → ℕ
kept_end o removed s = if is_among removed s then 0 else loaded_end (section_at o s)
