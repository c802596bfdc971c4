-- What is true of each descriptor.
use Rattle.std.specs.Prelude.{◌≡◌, ◌≤◌, ℕ, false, List, length, slice_get, Option, Some, IsSome, IfSome}
use Rattle.elf_types.specs.declared.records.Class.{Class}
use Rattle.elf_types.specs.declared.records.Order.{Order}
use Rattle.section_table.specs.elf_ident.Reading.{IsStored, IsPhdrTable, IsShdrTable}
use Rattle.section_table.specs.elf_object.Object.{Object}
use Rattle.section_table.specs.elf_object.Valid.{IsObject, IsTied}
use Rattle.law_object.specs.Writing.Based.{IsBased}
use Rattle.section_table.specs.section_data.Leaves.{LiesIn}
use Rattle.section_table.specs.section_data.Held.{HeldIs}
use Rattle.section_table.specs.Sections.{SectionView as Scn}
use Rattle.elf_descriptor.specs.declared.body.Written.{Written}
use Rattle.elf_descriptor.specs.declared.body.Body.{Body}
use Rattle.elf_descriptor.specs.declared.body.Base.{Base}
use Rattle.elf_descriptor.specs.declared.body.Base.TheVariants as bases
use Rattle.elf_descriptor.specs.Views.{object_of, is_of_source, has_mark, HasCounts}

-- how many bytes of the source are the base's
abbrev pub source_part : Base → ℕ
source_part (bases.Own bytes) = 0
source_part (bases.Source n) = n

-- the data of the section with a number: a home that is not loaded lies in that part of the source;
-- without one there are only empty homes; and the items that are held are those of its bytes
pub record CellIn (class : Class) (order : Order) (base : Base) (i : ℕ) (s : Scn) : Type 0 where
  pub number : s.cell.section ≡ i
  pub lies : LiesIn s.cell (source_part base)
  pub empty : is_of_source base ≡ false → s.cell.home.len ≡ 0
  pub items : HeldIs class order s.cell

-- a front as it stands in an image of that class and order: each number fits its place there
pub record IsStanding (class : Class) (order : Order) (front : Written) : Type 0 where
  pub class_is : front.header.class ≡ class
  pub order_is : front.header.order ≡ order
  pub header : IsStored front.header front.pad
  pub phdrs : IsPhdrTable class (length front.phdrs) front.phdrs
  pub shdrs : IsShdrTable class (length front.shdrs) front.shdrs

-- an object; where the source tells its bytes, what is not dirty stands in the base
pub record IsSound (image : Option (List ℕ)) (o : Object) : Type 0 where
  pub object : IsObject o
  pub tied : IsSome image → IsTied o
  pub based : IsSome image → IsBased o

pub record IsElf (image : Option (List ℕ)) (size : ℕ) (b : Body) : Type 0 where
  pub long : IfSome image (λ bytes. length bytes ≡ size)
  pub within : source_part b.base ≤ size
  pub whole : has_mark b ≡ false → b.base ≡ bases.Source size
  pub counts : HasCounts b
  pub cells : (i : ℕ) (s : Scn) → slice_get b.sections i ≡ Some s
      → CellIn b.header.class b.header.order b.base i s
  pub written : IfSome b.written (IsStanding b.header.class b.header.order)
  pub sound : IsSound image (object_of image size b)
