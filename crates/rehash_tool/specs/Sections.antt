-- What rehash looks for, and the shape that it keeps.
use Rattle.std.specs.Prelude.{◌<◌, Bool, ◌==◌, ◌&&◌}
use Rattle.elf_types.specs.declared.constants.TheConstants.{SHT_DYNSYM, SHT_HASH, SHT_GNU_HASH}
use Rattle.elf_types.specs.declared.records.Kind.TheVariants as kinds
use Rattle.elf_types.specs.declared.records.Shdr.{Shdr}
use Rattle.elf_object.specs.Sections.{is_of}
use Rattle.hash_build.specs.declared.shape.GnuShape.{GnuShape}
use Rattle.rehash_tool.specs.declared.sections.Sought.{Sought}
use Rattle.rehash_tool.specs.declared.sections.Sought.TheVariants as sought

-- a section that is sought, by its header
abbrev pub is_matching_section : Sought → Shdr → Bool
is_matching_section sought.Symbols h = h.stype == SHT_DYNSYM
is_matching_section (sought.Gnu s) h = h.stype == SHT_GNU_HASH && h.link == s
is_matching_section (sought.Words s) h = is_of SHT_HASH kinds.Word h && h.link == s

-- a section of this shape can be built
pub record IsBuildableShape (shape : GnuShape) : Type 0 where
  pub buckets : 0 < shape.nbuckets
  pub bloom : 0 < shape.bloom
  pub shift : shape.shift < 32
