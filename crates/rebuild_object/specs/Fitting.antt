-- When an object can be made of a plan, whatever bytes the source has.
use Rattle.std.specs.Prelude.{◌≡◌, ◌⊎◌, ℕ, ◌<◌, ◌≤◌, ◌^◌, true, List, length, slice_index, Option, None, IsTrue, IfSome}
use Rattle.elf_types.specs.Lists.{AreBytes}
use Rattle.elf_types.specs.declared.constants.TheConstants.{MAX_SECTIONS, SHT_STRTAB}
use Rattle.elf_types.specs.declared.records.Kind.{Kind}
use Rattle.elf_types.specs.declared.records.Kind.TheVariants as kinds
use Rattle.elf_types.specs.declared.records.Ehdr.{Ehdr}
use Rattle.elf_types.specs.declared.records.Shdr.{Shdr}
use Rattle.elf_xlate.specs.Headers.{IsEhdr, IsShdr, ehdr_fits, shdr_fits}
use Rattle.elf_xlate.specs.Translation.{is_whole}
use Rattle.elf_object.specs.elf_ident.Front.{zero_shdr}
use Rattle.elf_object.specs.Object.{Object, occupies_file}
use Rattle.elf_object.specs.Calls.{newphdr_refusal}
use Rattle.elf_object.specs.Refusal.{unfit_segment}
use Rattle.rebuild_plan.specs.rebuild_image.declared.ranges.ranges.ByteRange.{ByteRange}
use Rattle.rebuild_plan.specs.rebuild_image.Ranges.Ranges.{IsInside}
use Rattle.rebuild_plan.specs.declared.arranged.Arranged.{Arranged}
use Rattle.rebuild_plan.specs.Contents.{kept_size}
use Rattle.rebuild_object.specs.Objects.{arranged_header, range_in, arranged_kind}
use Rattle.rebuild_object.specs.Planned.{IsNewHeader}

-- ---- Sections

-- a section: its header fits the class, and its range lies in its bytes and has whole items. Where
-- it has bytes in the file they are items of some kind, and those of a string table are bytes.
pub record IsSectionReady (o : Object) (held : List ℕ) (h : Shdr) (range : ByteRange)
    (kind : Kind) : Type 0 where
  pub shdr : IsShdr h
  pub fits : shdr_fits o.header.class h ≡ true
  pub inside : IsInside held o.base range
  pub whole : is_whole kind o.header.class range.len ≡ true
  pub strings : h.stype ≡ SHT_STRTAB → kind ≡ kinds.Bytes
  pub kind_is : occupies_file h ≡ true → kind ≡ kinds.Empty → ⊥

-- the sections below a number
abbrev pub AreSectionsReady : Object → Arranged → ℕ → Type 0
AreSectionsReady o x n =
    (s : ℕ) → s < n → IsSectionReady o x.held (arranged_header x s) (range_in x s)
    (arranged_kind x s)

-- of each section below a number as many bytes are counted as it has in the file
abbrev pub AreSizesReady : Arranged → ℕ → Type 0
AreSizesReady x n =
    (s : ℕ) → s < n
    → slice_index x.listed.sizes s ≡ kept_size (arranged_header x s) (range_in x s).len

-- each section has a header, a size, a range and a kind, and there are not too many
pub record AreCounted (x : Arranged) : Type 0 where
  pub few : length x.listed.headers ≤ MAX_SECTIONS
  pub sized : length x.listed.sizes ≡ length x.listed.headers
  pub ranges : length x.ranges ≡ length x.listed.headers
  pub kinds_are : length x.kinds ≡ length x.listed.headers

-- ---- The front

-- the program headers can be counted and fit the class, and the base reaches to the tail
pub record IsFrontReady (o : Object) (tail : Option ℕ) : Type 0 where
  pub segments : newphdr_refusal (length o.phdrs) ≡ None
  pub fit : unfit_segment o ≡ None
  pub below : IfSome tail (λ n. n ≤ length o.base)

-- the header is that of a new object of the same class and order, with its program headers and so
-- many sections; it fits the class, and its string index is 0 or below the count
pub record IsHeaderReady (o : Object) (h : Ehdr) (count : ℕ) : Type 0 where
  pub ehdr : IsEhdr h
  pub class : h.class ≡ o.header.class
  pub order : h.order ≡ o.header.order
  pub new : IsNewHeader h
  pub phnum : h.phnum ≡ length o.phdrs
  pub shnum : h.shnum ≡ count
  pub fits : IsTrue (ehdr_fits h)
  pub index : (h.shstrndx ≡ 0) ⊎ (h.shstrndx < count)

-- ---- All of it

pub record IsArrangementReady (o : Object) (x : Arranged) : Type 0 where
  pub front : IsFrontReady o x.tail
  pub counted : AreCounted x
  pub header : IsHeaderReady o x.listed.header (length x.listed.headers)
  pub first : 0 < length x.listed.headers → arranged_header x 0 ≡ zero_shdr
  pub sections : AreSectionsReady o x (length x.listed.headers)
  pub sizes : AreSizesReady x (length x.listed.headers)
  pub held : AreBytes x.held
  pub small : length x.held < 2 ^ 64
