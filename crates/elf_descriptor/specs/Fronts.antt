-- The front that an update writes: memory for it, and whether it is the one that stands in the
-- image (elf_update of elf(3E); gABI chapter 4, "ELF Header" and "Section Header").
use Rattle.std.specs.Prelude.{◌≡◌, ◌≢◌, ◌≤◌, ℕ, Bool, true, false, List, length, map, take, slice_get, is_some, Some, IfSome, IsTrue, All}
use Rattle.std.specs.List.{enumerate_from}
use Rattle.elf_types.specs.declared.records.Class.{Class}
use Rattle.elf_types.specs.declared.records.Order.{Order}
use Rattle.elf_types.specs.declared.records.Ehdr.{Ehdr}
use Rattle.elf_types.specs.declared.records.Phdr.{Phdr}
use Rattle.elf_types.specs.declared.records.Shdr.{Shdr}
use Rattle.elf_types.specs.declared.records.Part.{Part}
use Rattle.elf_types.specs.declared.records.Part.TheVariants as part
use Rattle.section_table.specs.elf_xlate.Headers.{ehdr_bytes, ehdr_fits, phdr_fits, shdr_fits}
use Rattle.section_table.specs.elf_ident.Reading.{IsStored, IsPhdrTable, IsShdrTable}
use Rattle.section_table.specs.elf_layout.declared.parts.Places.{Places}
use Rattle.section_table.specs.elf_object.Blocks.{Block, same_block}
use Rattle.section_table.specs.elf_object.Layout.{section_place}
use Rattle.section_table.specs.elf_object.Open.{phdrs_bytes, shdrs_bytes}
use Rattle.section_table.specs.elf_outside.declared.sources.Source.{Ghosts}
use Rattle.elf_descriptor.specs.declared.body.Body.{Body}
use Rattle.elf_descriptor.specs.declared.body.Written.{Written}
use Rattle.elf_descriptor.specs.State.{State}
use Rattle.elf_descriptor.specs.Views.{ready_of}
use Rattle.elf_descriptor.specs.Places.{stored_shdr}

-- ---- Memory

-- only the spare memory changed, and it is as long as the object's lists
pub record IsReserved (old new : Body) : Type 0 where
  pub rest : new ≡ record old { spare = new.spare; ready = true }
  pub ready : ready_of new ≡ true

-- the source begins with the base, and it is known whether it tells its bytes
pub record HoldsBase {S : Type 0} (g : Ghosts S) (state : State S) : Type 0 where
  pub told : state.told ≡ is_some (g.holds state.source)
  pub long : length state.o.base ≤ g.size state.source
  pub is : IfSome (g.holds state.source) (λ held. take (length state.o.base) held ≡ state.o.base)

-- the source is the base and no more
pub record HoldsBaseAlone {S : Type 0} (g : Ghosts S) (state : State S) : Type 0 where
  pub long : g.size state.source ≡ length state.o.base
  pub is : IfSome (g.holds state.source) (λ held. held ≡ state.o.base)

-- ---- Records in place of bytes

-- two lists have other items at some index, where that of the first is in its range
pub record DiffersAt {X : Type 0} (InRange : X → Type 0) (xs ys : List X) : Type 0 where
  pub index : ℕ
  pub one : X
  pub other : X
  pub first : slice_get xs index ≡ Some one
  pub second : slice_get ys index ≡ Some other
  pub differs : one ≢ other
  pub ranged : InRange one

-- whether two lists of records are the same
abbrev pub Compares : {X : Type 0} → (X → Type 0) → Bool → List X → List X → Type 0
Compares InRange true xs ys = xs ≡ ys
Compares InRange false xs ys = DiffersAt InRange xs ys

-- ---- Whether it is the one that stands in the image

-- the ELF header, the program header table or the section header table
abbrev pub IsOfFront : Part → Type 0
IsOfFront part.Header = Unit {0}
IsOfFront part.Segments = Unit {0}
IsOfFront part.Table = Unit {0}
IsOfFront _ = ⊥

-- the section headers, with places and sizes stored in them, beside an ELF header
abbrev pub stored_shdrs : Places → Ehdr → Body → List Shdr
stored_shdrs places h b =
    map
    (λ row. stored_shdr h row.0 (section_place places row.0) row.1)
    (enumerate_from 0 b.sections)

-- their blocks
abbrev pub header_block : Ehdr → List ℕ → Block
header_block h pad = record { at = 0; bytes = ehdr_bytes h pad }

abbrev pub segments_block : Class → Order → ℕ → List Phdr → Block
segments_block class order at phdrs = record { at = at; bytes = phdrs_bytes class order phdrs }

abbrev pub table_block : Class → Order → ℕ → List Shdr → Block
table_block class order at shdrs = record { at = at; bytes = shdrs_bytes class order shdrs }

-- whether an ELF header with that pad is the one of a front that stands in an image of its class
-- and order
abbrev pub TellsHeader : Bool → Ehdr → List ℕ → Written → Type 0
TellsHeader same h pad front =
    IsTrue (ehdr_fits h) → length pad ≡ 7
    → h.class ≡ front.header.class → h.order ≡ front.header.order
    → IsStored front.header front.pad
    → same ≡ same_block (header_block h pad) (header_block front.header front.pad)

-- whether a program header table at that place is the one of such a front
abbrev pub TellsSegments : Bool → ℕ → List Phdr → Written → Type 0
TellsSegments same at phdrs front =
    (class : Class) (order : Order) → All (λ p. IsTrue (phdr_fits class p)) phdrs
    → IsPhdrTable class (length front.phdrs) front.phdrs
    → same ≡ same_block (segments_block class order at phdrs)
    (segments_block class order front.header.phoff front.phdrs)

-- whether a section header table at that place is the one of such a front
abbrev pub TellsTable : Bool → ℕ → List Shdr → Written → Type 0
TellsTable same at shdrs front =
    (class : Class) (order : Order) → All (λ h. IsTrue (shdr_fits class h)) shdrs
    → IsShdrTable class (length front.shdrs) front.shdrs
    → same ≡ same_block (table_block class order at shdrs)
    (table_block class order front.header.shoff front.shdrs)
