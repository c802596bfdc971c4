-- A section as a part, whose length is told as at most 2^64 - 1.
use Rattle.std.specs.Prelude.{ℕ}
use Rattle.elf_descriptor.specs.elf_layout.declared.parts.PartAt.{PartAt}
use Rattle.elf_descriptor.specs.elf_layout.Capping.{capped}
use Rattle.elf_descriptor.specs.elf_object.Object.{Object}
use Rattle.elf_descriptor.specs.elf_object.Layout.{section_part}

abbrev pub capped_section : Object → ℕ → PartAt
capped_section o s = capped (section_part o s)
