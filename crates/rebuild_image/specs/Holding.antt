-- The front of an image among bytes that are held.
use Rattle.std.specs.Prelude.{◌≡◌, ℕ, List, ◌++◌}
use Rattle.elf_types.specs.declared.records.Phdr.{Phdr}
use Rattle.elf_xlate.specs.Headers.{ehdr_bytes}
use Rattle.rebuild_model.specs.elf_object.Object.{Object}
use Rattle.rebuild_model.specs.elf_object.Open.{phdrs_bytes, shdrs_bytes}
use Rattle.rebuild_model.specs.elf_object.Derived.{written_header}
use Rattle.rebuild_model.specs.elf_object.Image.{front_blocks}
use Rattle.rebuild_model.specs.elf_object.Valid.{IsObject}
use Rattle.rebuild_image.specs.declared.listed.listed.HeaderListing.{HeaderListing}
use Rattle.rebuild_image.specs.Listed.Listing.{IsHeaderListing}
use Rattle.rebuild_image.specs.Ranges.Ranges.{range_bytes}
use Rattle.rebuild_image.specs.declared.holding.FrontRanges.{FrontRanges}

-- it was appended, and these are its ranges, whatever is held behind it
pub record HoldsFront (x : HeaderListing) (pad : List ℕ) (phdrs : List Phdr) (old new : List ℕ)
    (ranges : FrontRanges) : Type 0 where
  pub bytes : List ℕ
  pub all : new ≡ old ++ bytes
  pub header : (more base : List ℕ) → range_bytes (new ++ more) base ranges.header
      ≡ ehdr_bytes (written_header x.header) pad
  pub segments : (more base : List ℕ) → range_bytes (new ++ more) base ranges.segments
      ≡ phdrs_bytes x.header.class x.header.order phdrs
  pub table : (more base : List ℕ) → range_bytes (new ++ more) base ranges.table
      ≡ shdrs_bytes x.header.class x.header.order x.headers

-- it is that of an object whose headers are listed
pub record IsHeldFrontOf (o : Object) (held base : List ℕ) (ranges : FrontRanges) : Type 0 where
  pub header : range_bytes held base ranges.header ≡ (front_blocks o).header.bytes
  pub segments : range_bytes held base ranges.segments ≡ (front_blocks o).segments.bytes
  pub table : range_bytes held base ranges.table ≡ (front_blocks o).table.bytes

abbrev pub HeldFrontsAreStored : Type 0
HeldFrontsAreStored =
    (o : Object) (x : HeaderListing) (old new more base : List ℕ)
    (ranges : FrontRanges) → IsObject o
    → IsHeaderListing o x → HoldsFront x o.pad o.phdrs old new ranges
    → IsHeldFrontOf o (new ++ more) base ranges
