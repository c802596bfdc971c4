-- An object that is created over the base of another one (elf_begin with ELF_C_WRITE, and
-- ELF_F_LAYOUT of elf(3E)).
use Rattle.std.specs.Prelude.{◌≡◌, ℕ, Bool, true, false, List, [], length, Option, IsTrue}
use Rattle.elf_types.specs.declared.records.Class.{Class}
use Rattle.elf_types.specs.declared.records.Order.{Order}
use Rattle.rebuild_model.specs.elf_object.Object.{Object}
use Rattle.rebuild_model.specs.elf_object.Open.{created_over}
use Rattle.rebuild_model.specs.elf_object.Steps.{with_layout}
use Rattle.elf_update_plan.specs.elf_descriptor.State.{State}
use Rattle.rebuild_model.specs.Arranged.{over_base}

-- a created descriptor of which nothing is held, with this object
pub record IsMade {S : Type 0} (o : Object) (made : State S) : Type 0 where
  pub object : made.o ≡ o
  pub told : made.told ≡ true
  pub loaded : made.loaded ≡ []
  pub held : made.held ≡ []
  pub room : made.room ≡ []
  pub ready : made.ready ≡ false

-- created over these base bytes, which count
abbrev pub created_with_layout : Class → Order → List ℕ → Object
created_with_layout class order base = with_layout (created_over class order base) true

-- Created over the first bytes of another object's base, or over none: over a source that does not
-- tell its bytes the base has the stated length, and the stated bytes over one that does.
pub record IsMadeOver {S : Type 0} (told : Bool) (o : Object) (tail : Option ℕ) (made : State S)
    : Type 0 where
  pub base : List ℕ
  pub long : length base ≡ length (over_base o tail).base
  pub made_is : IsMade (record (over_base o tail) { base = base }) made
  pub exact : IsTrue told → made.o ≡ over_base o tail
