-- When what was gathered is that of an object which is made of another one, section by section
-- (gABI chapter 4, "Sections" and "String Table").
use Rattle.std.specs.Prelude.{◌≡◌, ℕ, ◌<◌, ◌^◌, ◌==◌, ◌&&◌, not, nat_le, nat_lt, Bool, true, false, List, ◌++◌, length, take, drop, slice_get, unwrap_or, Option, None, is_some}
use Rattle.std.proofs.Math.ListN.{replicate}
use Rattle.elf_types.specs.declared.constants.TheConstants.{PN_XNUM, SHT_STRTAB}
use Rattle.elf_types.specs.declared.records.Class.{Class}
use Rattle.elf_types.specs.declared.records.Order.{Order}
use Rattle.elf_types.specs.declared.records.Kind.{Kind}
use Rattle.elf_types.specs.declared.records.Kind.TheVariants as kinds
use Rattle.elf_types.specs.declared.records.Shdr.{Shdr}
use Rattle.elf_xlate.specs.declared.content.Items.{Items}
use Rattle.elf_xlate.specs.Translation.{AreItems, encoded, first_unfit, items_kind}
use Rattle.elf_ident.specs.Front.{zero_shdr}
use Rattle.elf_object.specs.Object.{Object, Section, header_of, section_at, new_section, occupies_file}
use Rattle.elf_object.specs.Open.{no_front}
use Rattle.elf_object.specs.Refusal.{unfit_segment}
use Rattle.elf_object.specs.Strings.{section_name, or_empty_name}
use Rattle.elf_object.specs.Valid.{IsObject}
use Rattle.rebuild_model.specs.Rebuilt.{made_section}
use Rattle.rebuild_edits.specs.gelf_view.Records.{string_front}
use Rattle.rebuild_plan.specs.rebuild_image.declared.ranges.ranges.ByteRange.{ByteRange}
use Rattle.rebuild_plan.specs.rebuild_image.Ranges.Ranges.{range_bytes}
use Rattle.rebuild_plan.specs.declared.arranged.Arranged.{Arranged}
use Rattle.rebuild_plan.specs.Contents.{kept_size}
use Rattle.rebuild_object.specs.Objects.{Bases, bases_of}
use Rattle.rebuild_object.specs.Planned.{IsNewHeader}

-- ---- What was gathered of one section

-- a range of no bytes
abbrev pub empty_held_range : ByteRange
empty_held_range = record { held = true; at = 0; len = 0 }

abbrev pub gathered_header : Arranged → ℕ → Shdr
gathered_header x s = unwrap_or (slice_get x.listed.headers s) zero_shdr

abbrev pub size_in : Arranged → ℕ → ℕ
size_in x s = unwrap_or (slice_get x.listed.sizes s) 0

abbrev pub gathered_range : Arranged → ℕ → ByteRange
gathered_range x s = unwrap_or (slice_get x.ranges s) empty_held_range

abbrev pub gathered_kind : Arranged → ℕ → Kind
gathered_kind x s = unwrap_or (slice_get x.kinds s) kinds.Empty

-- the bytes that are held of a range
abbrev pub held_in : Arranged → ByteRange → List ℕ
held_in x range = take range.len (drop range.at x.held)

-- a section, as elf_newscn and elf_newdata make it, has items of its own of a kind where it has
-- bytes in the file; these stand in a range, whatever is held behind what is held, and are as many
pub record IsGatheredSection (class : Class) (order : Order) (base held : List ℕ) (c : Section)
    (h : Shdr) (size : ℕ) (range : ByteRange) (kind : Kind) : Type 0 where
  pub header : h ≡ c.header
  pub own : Items
  pub section : c ≡ made_section c.header own
  pub kind_is : items_kind own ≡ kind
  pub are : AreItems own
  pub fits : first_unfit class own ≡ None
  pub strings : c.header.stype ≡ SHT_STRTAB → items_kind own ≡ kinds.Bytes
  pub size_is : size ≡ kept_size c.header (length (encoded class order own))
  pub small : size < 2 ^ 64
  pub range_is : occupies_file c.header ≡ true → (later : List ℕ)
      → range_bytes (held ++ later) base range ≡ encoded class order own

-- so it is of section s of an object
abbrev pub RowOf : Object → List ℕ → Arranged → ℕ → Type 0
RowOf p base x s =
    IsGatheredSection p.header.class p.header.order base x.held (section_at p s)
    (gathered_header x s) (size_in x s) (gathered_range x s) (gathered_kind x s)

-- ---- What was gathered of an object

-- what an image is made of: an object that was read, for a program the place from which on what is
-- not loaded stands, and the bytes that the source gave
pub record Origin : Type 0 where
  pub object : Object
  pub tail : Option ℕ
  pub bases : Bases

-- of a source that tells its bytes
abbrev pub origin : Object → Option ℕ → Origin
origin o tail = record { object = o; tail = tail; bases = bases_of o.base }

-- what no change of copy changes of the object that is made
pub record HasFrameOf (o : Origin) (p : Object) : Type 0 where
  pub class : p.header.class ≡ o.object.header.class
  pub order : p.header.order ≡ o.object.header.order
  pub new : IsNewHeader p.header
  pub layout : p.layout ≡ is_some o.tail
  pub long : length p.base ≡ unwrap_or o.tail 0
  pub pad : p.pad ≡ replicate 7 0
  pub phdrs : p.phdrs ≡ o.object.phdrs
  pub fill : p.fill ≡ 0
  pub base : take (unwrap_or o.tail 0) o.bases.front ≡ p.base
  pub front : p.written_front ≡ no_front
  pub unmarked : p.marked ≡ false
  pub marked : p.header_marked ≡ true
  pub segments_marked : p.segments_marked ≡ true
  pub few : nat_le PN_XNUM (length p.phdrs) ≡ false
  pub segments : unfit_segment p ≡ None

-- there are as many of each
pub record IsCountedAs (x : Arranged) : Type 0 where
  pub sized : length x.listed.sizes ≡ length x.listed.headers
  pub ranged : length x.ranges ≡ length x.listed.headers
  pub of_kinds : length x.kinds ≡ length x.listed.headers

-- that was gathered of an object p
pub record IsListedAs (o : Origin) (p : Object) (x : Arranged) : Type 0 where
  pub object : IsObject p
  pub frame : HasFrameOf o p
  pub tail_is : x.tail ≡ o.tail
  pub header : x.listed.header ≡ header_of p
  pub count : length x.listed.headers ≡ length p.sections
  pub counted : IsCountedAs x
  pub first : 0 < length p.sections → section_at p 0 ≡ new_section
  pub rows : (s : ℕ) → s < length p.sections → RowOf p (o.bases.each s) x s

-- and its table of names is held
pub record IsContents (o : Origin) (p : Object) (x : Arranged) : Type 0 where
  pub listed : IsListedAs o p x
  pub table : (gathered_header x x.listed.header.shstrndx).stype ≡ SHT_STRTAB
      → (gathered_range x x.listed.header.shstrndx).held ≡ true

-- ---- Sections and their names

-- the string index is that of a string table
abbrev pub has_strings : Arranged → Bool
has_strings x =
    not (x.listed.header.shstrndx == 0) && nat_lt x.listed.header.shstrndx x.listed.header.shnum
    && (gathered_header x x.listed.header.shstrndx).stype == SHT_STRTAB

-- the name at a place of these bytes, and the empty one where no NUL ends it
abbrev pub held_name : List ℕ → ℕ → List ℕ
held_name table at = or_empty_name (string_front (drop at table))

-- each section's name is the string at its place in these bytes, where a NUL ends it
abbrev pub HasNamesIn : Arranged → List ℕ → Type 0
HasNamesIn x table =
    (o : Origin) (p : Object) → IsContents o p x → (s : ℕ) → s < length p.sections
    → section_name p s ≡ string_front (drop (gathered_header x s).name table)
