-- The object of a plan of ranges: created over the base up to the tail, with the listed
-- headers, and in each section the bytes of its range, read as items of its kind (elf_newscn and
-- elf_newdata of elf(3E), gelf_update_ehdr of gelf(3E)).
use Rattle.std.specs.Prelude.{◌≡◌, ◌⊎◌, ℕ, ◌+◌, ◌-◌, ◌==◌, false, List, [], ◌∷◌, length, slice_index_or, sum_by, unwrap_or, if◌then◌else◌}
use Rattle.std.specs.List.{range_with_len}
use Rattle.elf_types.specs.declared.records.Class.{Class}
use Rattle.elf_types.specs.declared.records.Order.{Order}
use Rattle.elf_types.specs.declared.records.Kind.{Kind}
use Rattle.elf_types.specs.declared.records.Kind.TheVariants as kinds
use Rattle.elf_types.specs.declared.records.Shdr.{Shdr}
use Rattle.elf_types.specs.declared.errors.ElfError.{ElfError}
use Rattle.elf_types.specs.declared.errors.ElfError.TheVariants.{Memory, Read}
use Rattle.elf_types.specs.Lists.{AreBytes}
use Rattle.elf_xlate.specs.declared.content.Items.{Items}
use Rattle.elf_xlate.specs.declared.content.Items.TheVariants as items
use Rattle.elf_object.specs.elf_ident.Front.{zero_shdr}
use Rattle.elf_object.specs.Object.{Object, Section, new_section, occupies_file}
use Rattle.elf_object.specs.Steps.{with_ehdr, with_phdrs, with_sections}
use Rattle.rebuild_model.specs.Arranged.{over_base}
use Rattle.rebuild_plan.specs.rebuild_making.Making.{sections_by}
use Rattle.rebuild_plan.specs.rebuild_image.declared.ranges.ranges.ByteRange.{ByteRange}
use Rattle.rebuild_plan.specs.rebuild_image.Ranges.Ranges.{range_bytes, range_due}
use Rattle.rebuild_plan.specs.rebuild_keep.Homes.{decoded_items}
use Rattle.rebuild_plan.specs.declared.arranged.Arranged.{Arranged}

-- ---- A section

abbrev pub no_range : ByteRange
no_range = record { held = false; at = 0; len = 0 }

abbrev pub arranged_header : Arranged → ℕ → Shdr
arranged_header x s = slice_index_or x.listed.headers s zero_shdr

abbrev pub range_in : Arranged → ℕ → ByteRange
range_in x s = slice_index_or x.ranges s no_range

abbrev pub kind_at : List Kind → ℕ → Kind
kind_at ks s = slice_index_or ks s kinds.Empty

abbrev pub arranged_kind : Arranged → ℕ → Kind
arranged_kind x s = kind_at x.kinds s

-- what a section with a header has of a range, of held bytes or of a base
unfoldable pub range_items : Class → Order → List ℕ → List ℕ → Shdr → ByteRange → Kind → Items
range_items class order held base h range kind =
    if occupies_file h then decoded_items kind class order (range_bytes held base range)
    else items.Empty

-- ---- The bytes that were read

-- those of the front, and for each section those that its range is one of; a source that does not
-- tell its bytes may give others at each read
pub record Bases : Type 0 where
  pub front : List ℕ
  pub each : ℕ → List ℕ

-- one base for all
abbrev pub bases_of : List ℕ → Bases
bases_of base = record { front = base; each = λ s. base }

-- they are bytes, as many as an object's base has
pub record AreBasesOf (o : Object) (b : Bases) : Type 0 where
  pub front_bytes : AreBytes b.front
  pub front_long : length b.front ≡ length o.base
  pub bytes : (s : ℕ) → AreBytes (b.each s)
  pub long : (s : ℕ) → length (b.each s) ≡ length o.base

-- ---- The items of the section with a number

-- over the bytes that were read
abbrev pub items_over : Bases → Object → Arranged → ℕ → Items
items_over b o x s =
    range_items o.header.class o.header.order x.held (b.each s) (arranged_header x s) (range_in x s)
    (arranged_kind x s)

-- over the object's base
abbrev pub arranged_items : Object → Arranged → ℕ → Items
arranged_items o x s = items_over (bases_of o.base) o x s

-- ---- All sections

-- the numbers from 1 on
abbrev pub arranged_numbers : Arranged → List ℕ
arranged_numbers x = range_with_len 1 (length x.listed.headers - 1)

unfoldable pub sections_over : Bases → Object → Arranged → List Section
sections_over b o x =
    if length x.listed.headers == 0 then []
    else new_section ∷ sections_by (arranged_header x) (items_over b o x) (arranged_numbers x)

abbrev pub sections_in : Object → Arranged → List Section
sections_in o x = sections_over (bases_of o.base) o x

-- ---- The object

unfoldable pub object_over : Bases → Object → Arranged → Object
object_over b o x =
    with_ehdr
    (with_phdrs
    (with_sections (over_base (record o { base = b.front }) x.tail) (sections_over b o x)) o.phdrs)
    x.listed.header

-- where the object's base was read
abbrev pub object_from_arranged : Object → Arranged → Object
object_from_arranged o x = object_over (bases_of o.base) o x

-- an object is that of a plan, over some bytes
pub record IsObjectRead (o : Object) (x : Arranged) (q : Object) : Type 0 where
  pub bases : Bases
  pub suit : AreBasesOf o bases
  pub is : q ≡ object_over bases o x

-- ---- What is read

-- of a section: its range, where that is one of the base and the section has bytes in the file
abbrev pub due_of : Shdr → ByteRange → ℕ
due_of h range = if occupies_file h then range_due range else 0

abbrev pub section_range_due : Arranged → ℕ → ℕ
section_range_due x s = due_of (arranged_header x s) (range_in x s)

abbrev pub section_ranges_due : Arranged → ℕ → ℕ
section_ranges_due x n = sum_by (section_range_due x) (range_with_len 1 n)

-- in all: the base before the tail, and these ranges
unfoldable pub object_due : Arranged → ℕ
object_due x = unwrap_or x.tail 0 + section_ranges_due x (length x.listed.headers - 1)

-- ---- Errors

-- out of memory, and a read that failed: the two that no definition states
abbrev pub IsUnstated : ElfError → Type 0
IsUnstated e = (e ≡ Memory) ⊎ (e ≡ Read)
