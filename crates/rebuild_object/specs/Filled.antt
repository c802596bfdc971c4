-- What steps leave of an object that is filled.
use Rattle.std.specs.Prelude.{◌≡◌, ℕ, Bool, List, length, IsTrue}
use Rattle.elf_types.specs.Lists.{AreBytes}
use Rattle.elf_types.specs.declared.records.Kind.{Kind}
use Rattle.elf_types.specs.declared.records.Shdr.{Shdr}
use Rattle.elf_xlate.specs.declared.content.Items.{Items}
use Rattle.elf_object.specs.Object.{Object, Section}
use Rattle.elf_object.specs.Steps.{with_ehdr, with_phdrs, with_sections}
use Rattle.rebuild_plan.specs.elf_descriptor.State.{State}
use Rattle.rebuild_plan.specs.rebuild_image.declared.ranges.ranges.ByteRange.{ByteRange}
use Rattle.rebuild_plan.specs.rebuild_image.Ranges.Ranges.{range_bytes}
use Rattle.rebuild_plan.specs.rebuild_making.Making.{sections_by}
use Rattle.rebuild_plan.specs.rebuild_making.Made.{with_more}
use Rattle.rebuild_plan.specs.declared.arranged.Arranged.{Arranged}
use Rattle.rebuild_object.specs.Objects.{Bases, AreBasesOf, arranged_header, arranged_items, items_over, range_items, sections_in, sections_over}

-- ---- What was read

-- bytes are those of a range, over some base as long as the stated one
pub record IsReadRange (held base : List ℕ) (range : ByteRange) (bytes : List ℕ) : Type 0 where
  pub over : List ℕ
  pub are : AreBytes over
  pub long : length over ≡ length base
  pub is : bytes ≡ range_bytes held over range

-- items are those of a section with a header and a range, over some base as long as an object's
pub record IsReadSection (o : Object) (held : List ℕ) (h : Shdr) (range : ByteRange) (kind : Kind)
    (items : Items) : Type 0 where
  pub over : List ℕ
  pub are : AreBytes over
  pub long : length over ≡ length o.base
  pub is : items ≡ range_items o.header.class o.header.order held over h range kind

-- sections are those with some numbers, over some bytes
pub record AreReadSections (o : Object) (x : Arranged) (numbers : List ℕ) (sections : List Section)
    : Type 0 where
  pub bases : Bases
  pub suit : AreBasesOf o bases
  pub is : sections ≡ sections_by (arranged_header x) (items_over bases o x) numbers

-- ---- Steps

-- the sections with some numbers were put behind those of an object: the stated ones over a source
-- that tells its bytes, and over every one those of some bytes
pub record HasSectionsOf {S : Type 0} (told : Bool) (o : Object) (x : Arranged) (numbers : List ℕ)
    (old new : State S) : Type 0 where
  pub sections : List Section
  pub object : new.o ≡ with_more old.o sections
  pub told_is : new.told ≡ old.told
  pub exact : IsTrue told
      → sections ≡ sections_by (arranged_header x) (arranged_items o x) numbers
  pub read : AreReadSections o x numbers sections

-- an object got all sections of a plan, in the same way
pub record HasPlanned {S : Type 0} (told : Bool) (o : Object) (x : Arranged) (old new : State S)
    : Type 0 where
  pub told_is : new.told ≡ old.told
  pub exact : IsTrue told → new.o ≡ with_sections old.o (sections_in o x)
  pub bases : Bases
  pub suit : AreBasesOf o bases
  pub read : new.o ≡ with_sections old.o (sections_over bases o x)

-- it got the program headers of another one, the sections and the header
pub record IsMadeBy {S : Type 0} (told : Bool) (o : Object) (x : Arranged)
    (old new : State S) : Type 0 where
  pub told_is : new.told ≡ old.told
  pub exact : IsTrue told → new.o
      ≡ with_ehdr (with_phdrs (with_sections old.o (sections_in o x)) o.phdrs) x.listed.header
  pub bases : Bases
  pub suit : AreBasesOf o bases
  pub read : new.o
      ≡ with_ehdr (with_phdrs (with_sections old.o (sections_over bases o x)) o.phdrs)
      x.listed.header
