-- What is known of the bytes of a section and of an image.
use Rattle.std.proofs.Common.{◌≡◌, ℕ, zero, suc, ◌+◌, ◌<◌, Bool, true, false, not, ◌&&◌, ◌||◌, List, [], ◌∷◌, length, get_or, Some, refl, sym, ap, ◌∙◌, subst, arith}
use Rattle.std.specs.Prelude.{slice_get, if◌then◌else◌, ◌==◌, Result, Ok, Err, IsErr}
use Rattle.std.specs.List.{AllByRecursion, enumerate_from}
use Rattle.std.proofs.lemmas.List.{get_or-map}
use Rattle.std.proofs.lemmas.List.FromFn.{get_or-enumerate_from, length-enumerate_from}
use Rattle.elf_types.specs.declared.records.Shdr.{Shdr}
use Rattle.elf_types.specs.declared.errors.ElfError.{ElfError}
use Rattle.elf_object.specs.elf_layout.declared.parts.PartAt.{PartAt}
use Rattle.elf_object.specs.elf_layout.declared.parts.Places.{Places}
use Rattle.elf_object.specs.elf_layout.Layout.{standing, in_order_from}
use Rattle.elf_object.specs.elf_layout.Meeting.{meets}
use Rattle.elf_object.specs.Blocks.{spread}
use Rattle.law_object.proofs.BlockLaws.{length-spread}
use Rattle.elf_object.specs.Object.{Object, Section, absent_section, section_at, has_file_bytes, occupies_file, is_null, is_dirty}
use Rattle.elf_object.specs.Joined.{piece_blocks, pieces_end, file_bytes}
use Rattle.elf_object.specs.Layout.{parts_of, placed_parts, places_of, placed_by, placed, placed_section, placed_shdr, placed_header, section_place}
use Rattle.elf_object.specs.Derived.{numbered_shdr}
use Rattle.elf_object.specs.Image.{image, image_length, uncovered_byte, part_blocks}
use Rattle.elf_object.specs.Calls.{Call, step, after_answer}
use Rattle.law_object.proofs.PlaceLaws.{AreInOrder, IsBehind, in_order, behind_apart}
use Rattle.elf_object.specs.Settled.{settle}

-- ---- A refused call

refused_stays : {A : Type 0} (r : Result A ElfError) (old stepped : Object) → IsErr r → after_answer r old stepped ≡ old
refused_stays (Ok x) old stepped h = cc
refused_stays (Err e) old stepped h = refl

pub step-refused : {A : Type 0} (c : Call A) (o : Object) → IsErr (c.answer o) → step c o ≡ o
unfolding step
step-refused c o h = refused_stays (c.answer o) o (c.after o) h

-- ---- Nothing is dirty

pub image-clean : (o : Object) → is_dirty o ≡ false → image o ≡ o.base
unfolding image
image-clean o h = rw h refl

pub placed-clean : (o : Object) → is_dirty o ≡ false → placed o ≡ o
unfolding placed
placed-clean o h = rw h refl

pub settle-clean : (o : Object) → is_dirty o ≡ false → settle o ≡ o
unfolding settle
settle-clean o h = rw h refl

pub image-dirty : (o : Object) → is_dirty o ≡ true → image o ≡ spread (image_length o) (uncovered_byte o) (part_blocks (placed o))
unfolding image
image-dirty o h = rw h refl

pub placed-dirty : (o : Object) → is_dirty o ≡ true → placed o ≡ placed_by (places_of o) o
unfolding placed
placed-dirty o h = rw h refl

-- the image is as long as is said
pub length-image : (o : Object) → length (image o) ≡ image_length o
unfolding image image_length
length-image o = by_test (is_dirty o)
  where
    by_test : (b : Bool) → length (if b then spread (if b then (places_of o).end else length o.base) (uncovered_byte o) (part_blocks (placed o)) else o.base) ≡ (if b then (places_of o).end else length o.base)
    by_test true = length-spread (places_of o).end (uncovered_byte o) (part_blocks (placed o))
    by_test false = refl

-- ---- The bytes of a section

pub length-joined : (o : Object) (s : ℕ) → has_file_bytes s (section_at o s) ≡ true → length (file_bytes o s) ≡ pieces_end o s
unfolding file_bytes
length-joined o s h = rw h (length-spread (pieces_end o s) (λ _. o.fill) (piece_blocks o s))

pub joined-none : (o : Object) (s : ℕ) → has_file_bytes s (section_at o s) ≡ false → file_bytes o s ≡ []
unfolding file_bytes
joined-none o s h = rw h refl

-- a section of the placed object
pub section_at-placed : (places : Places) (o : Object) (s : ℕ) → s < length o.sections → section_at (placed_by places o) s ≡ placed_section places o s (section_at o s)
unfolding section_at placed_by
section_at-placed places o s h =
    let count = length-enumerate_from 0 o.sections in
    let row : get_or (enumerate_from 0 o.sections) s (0, absent_section) ≡ (0 + s, get_or o.sections s absent_section) = get_or-enumerate_from 0 o.sections s (0, absent_section) h in
    let number : 0 + s ≡ s = omega arith in
    get_or-map (λ r. placed_section places o r.0 r.1) (enumerate_from 0 o.sections) s (0, absent_section) absent_section (omega arith)
    ∙ ap (λ (r : ℕ × Section). placed_section places o r.0 r.1) row
    ∙ ap (λ (k : ℕ). placed_section places o k (get_or o.sections s absent_section)) number

pub file_bytes_from : (s : ℕ) (c : Section) → has_file_bytes s c ≡ true → (s == 0 ≡ false) × (occupies_file c.header ≡ true)
unfolding has_file_bytes
file_bytes_from s c h = by_test (s == 0) (occupies_file c.header) h
  where
    by_test : (a b : Bool) → (not a && b) ≡ true → (a ≡ false) × (b ≡ true)
    by_test true b e = cc
    by_test false b e = (refl, e)

-- a header that occupies the file is not of type SHT_NULL
pub not_null : (h : Shdr) → occupies_file h ≡ true → is_null h ≡ false
not_null h filled = by_test (h.stype == 0) (h.stype == 8) filled
  where
    by_test : (a b : Bool) → not (a || b) ≡ true → a ≡ false
    by_test true b e = cc
    by_test false b e = refl

sized : (first empty filled : Bool) (numbered h : Shdr) (offset n : ℕ) → first ≡ false → empty ≡ false → filled ≡ true → (if first then numbered else (if empty then h else (record h { offset = offset; size = if filled then n else h.size }))).size ≡ n
sized false false true numbered h offset n a b c = refl
sized true empty filled numbered h offset n a b c = cc
sized false true filled numbered h offset n a b c = cc
sized false false false numbered h offset n a b c = cc

-- sh_size is stored as the number of the section's bytes
pub size-placed : (places : Places) (o : Object) (s : ℕ) → s < length o.sections → has_file_bytes s (section_at o s) ≡ true → (section_at (placed_by places o) s).header.size ≡ length (file_bytes o s)
unfolding placed_section placed_shdr
size-placed places o s inside filled =
    let parts = file_bytes_from s (section_at o s) filled in
    let full = not_null (section_at o s).header parts.1 in
    ap (λ (c : Section). c.header.size) (section_at-placed places o s inside)
    ∙ sized (s == 0) (is_null (section_at o s).header) (occupies_file (section_at o s).header) (numbered_shdr (placed_header places o) (section_at o s).header) (section_at o s).header (section_place places s) (length (file_bytes o s)) parts.0 full parts.1

-- ---- Parts

from_order : (l : List PartAt) (i j : ℕ) (p q : PartAt) → AreInOrder l → i < j → slice_get l i ≡ Some p → slice_get l j ≡ Some q → meets p q ≡ false
from_order [] i j p q order below first second = cc
from_order (x ∷ l) i zero p q order below first second = absurd (omega arith)
from_order (x ∷ l) zero (suc j) p q order below first second =
    let same : x ≡ p = cc in
    let R : PartAt → Type 0 = λ y. meets y q ≡ false in
    subst R same (behind l j order.0 second)
  where
    behind : (l : List PartAt) (j : ℕ) → AllByRecursion (IsBehind x) l → slice_get l j ≡ Some q → meets x q ≡ false
    behind [] j each at = cc
    behind (y ∷ l) zero each at =
        let same : y ≡ q = cc in
        let R : PartAt → Type 0 = λ z. meets x z ≡ false in
        subst R same (behind_apart x y each.0)
    behind (y ∷ l) (suc j) each at = behind l j each.1 at
from_order (x ∷ l) (suc i) (suc j) p q order below first second = from_order l i j p q order.1 (omega arith) first second

-- without ELF_F_LAYOUT no two parts share a byte
pub parts_apart : (o : Object) (i j : ℕ) (p q : PartAt) → o.layout ≡ false → i < j → slice_get (placed_parts o) i ≡ Some p → slice_get (placed_parts o) j ≡ Some q → meets p q ≡ false
unfolding placed_parts standing
parts_apart o i j p q plain below first second =
    let same : (if o.layout then parts_of o else in_order_from 0 (parts_of o)) ≡ in_order_from 0 (parts_of o) = rw plain refl in
    from_order (in_order_from 0 (parts_of o)) i j p q (in_order 0 (parts_of o)) below
    (ap (λ (l : List PartAt). slice_get l i) (sym same) ∙ first) (ap (λ (l : List PartAt). slice_get l j) (sym same) ∙ second)
