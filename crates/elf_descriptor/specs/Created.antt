-- A descriptor that is created, over nothing that was read (elf_begin with ELF_C_WRITE, elf(3E)).
use Rattle.std.specs.Prelude.{◌≡◌, ℕ, true, false, List, [], Option, None}
use Rattle.elf_types.specs.declared.records.Class.{Class}
use Rattle.elf_types.specs.declared.records.Order.{Order}
use Rattle.section_table.specs.elf_object.Open.{created_over}
use Rattle.elf_descriptor.specs.declared.body.Body.{Body}
use Rattle.elf_descriptor.specs.declared.body.Base.TheVariants as bases
use Rattle.elf_descriptor.specs.State.{State}
use Rattle.elf_descriptor.specs.Views.{object_of, ready_of, has_mark}

-- what the program keeps of it stands for it, whatever its source
pub record IsCreatedBody (class : Class) (order : Order) (base : List ℕ) (b : Body) : Type 0 where
  pub object : (image : Option (List ℕ)) (size : ℕ)
      → object_of image size b ≡ created_over class order base
  pub none : b.sections ≡ []
  pub base_is : b.base ≡ bases.Own base
  pub written : b.written ≡ None
  pub marks : has_mark b ≡ true
  pub ready : ready_of b ≡ false

-- no section and no program header over these base bytes; nothing is held
pub record IsCreated {S : Type 0} (class : Class) (order : Order) (base : List ℕ) (e : State S)
    : Type 0 where
  pub object : e.o ≡ created_over class order base
  pub told : e.told ≡ true
  pub loaded : e.loaded ≡ []
  pub held : e.held ≡ []
  pub room : e.room ≡ []
  pub ready : e.ready ≡ false
