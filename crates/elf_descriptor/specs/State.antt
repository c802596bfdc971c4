-- What a descriptor stands for (elf_begin, elf(3E)).
use Rattle.std.specs.Prelude.{Bool, List}
use Rattle.section_table.specs.elf_object.Object.{Object}

-- a plain object, what is held of it, and the source that it is over
pub record State (S : Type 0) : Type 0 where
  pub o : Object  -- of a source that does not tell its bytes, a home's count as zeros
  pub told : Bool  -- whether the source tells its bytes
  pub loaded : List Bool  -- of each section, whether its home's bytes are held
  pub held : List Bool  -- of each section, whether the items of its home are held in memory form
  pub room : List Bool  -- of each section, whether memory is kept aside for its home's bytes
  pub ready : Bool  -- whether an update can settle it without memory
  pub source : S
