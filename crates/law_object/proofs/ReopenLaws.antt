-- The image of an object, opened again, is that object settled: what of the image the front reads.
use Rattle.std.proofs.Common.{◌≡◌, ℕ, zero, suc, ◌+◌, ◌-◌, ◌*◌, ◌<◌, ◌≤◌, true, List, [], ◌∷◌, ◌++◌, length, take, drop, get_or, Some, None, refl, sym, ap, ◌∙◌, subst, arith, lit<, ⊎_elim}
use Rattle.std.specs.Prelude.{All, IsTrue, if◌then◌else◌, map, flat_map, slice_get}
use Rattle.std.specs.List.{range_with_len}
use Rattle.std.proofs.lemmas.Bool.{cases_lt}
use Rattle.std.proofs.lemmas.List.{length-map, ext_get_or, take_at, drop_at, drop-drop}
use Rattle.std.proofs.lemmas.List.FromFn.{length-map-range_with_len, get_or-map-range_with_len}
use Rattle.elf_types.specs.declared.records.Class.{Class}
use Rattle.elf_types.specs.declared.records.Class.TheVariants.{C32, C64}
use Rattle.elf_types.specs.declared.records.Order.{Order}
use Rattle.elf_types.specs.declared.records.Ehdr.{Ehdr}
use Rattle.elf_types.specs.declared.records.Phdr.{Phdr}
use Rattle.elf_types.specs.declared.records.Shdr.{Shdr}
use Rattle.elf_object.specs.elf_xlate.Headers.{ehdr_size, ehdr_bytes, ehdr_fits, IsEhdr, HasNarrowCounts, HoldsEhdr, phdr_size, phdr_of, phdr_bytes, phdr_fits, IsPhdr, shdr_size, shdr_of, shdr_bytes, shdr_fits, IsShdr}
use Rattle.elf_object.specs.elf_xlate.Translation.{items_of}
use Rattle.elf_object.specs.elf_layout.Layout.{limit_of, length_of, places_of as parts_places}
use Rattle.elf_object.specs.Blocks.{Block, block_end}
use Rattle.law_object.proofs.BlockLaws.{AreApart, AllApart, covers_at}
use Rattle.elf_object.specs.Object.{Object, is_dirty}
use Rattle.elf_object.specs.Open.{front_in_image, phdrs_bytes, shdrs_bytes}
use Rattle.elf_object.specs.Derived.{written_header}
use Rattle.elf_object.specs.Layout.{section_numbers, parts_of, places_of, placed}
use Rattle.elf_object.specs.Image.{front_blocks, section_block, part_blocks, image_length, image}
use Rattle.elf_object.specs.Refusal.{placing_refusal, refusal}
use Rattle.elf_object.specs.Valid.{IsObject}
use Rattle.law_object.proofs.ImageLaws.{length-image, placed-dirty}
use Rattle.law_object.proofs.PlaceLaws.{not_too_large}
use Rattle.law_object.proofs.PlacedLaws.{update_passes, placed_is}
use Rattle.law_object.proofs.AgainLaws.{class-placed}
use Rattle.law_object.proofs.LengthLaws.{length-ehdr_bytes, length-phdrs_bytes, length-shdrs_bytes}
use Rattle.law_object.proofs.StandLaws.{parts_are_apart, part_in_image, get_each}

-- ---- What is taken of the translation of headers

-- headers that fit are read as they were written
pub record ReadsBack : Type 0 where
  pub ehdr : (h : Ehdr) (pad : List ℕ) → IsEhdr h → HasNarrowCounts h → IsTrue (ehdr_fits h) → length pad ≡ 7 → HoldsEhdr h pad (ehdr_bytes h pad)
  pub phdr : (class : Class) (order : Order) (p : Phdr) → IsPhdr p → IsTrue (phdr_fits class p) → phdr_of class order (phdr_bytes class order p) ≡ p
  pub shdr : (class : Class) (order : Order) (h : Shdr) → IsShdr h → IsTrue (shdr_fits class h) → shdr_of class order (shdr_bytes class order h) ≡ h

-- ---- Tables

-- an entry of a table
pub entry_bytes : {X : Type 0} (enc : X → List ℕ) (size : ℕ) → ((x : X) → length (enc x) ≡ size) → (l : List X) (i : ℕ) (d : X) → i < length l → take size (drop (i * size) (flat_map enc l)) ≡ enc (get_or l i d)
entry_bytes enc size len [] i d h = absurd (omega arith)
entry_bytes enc size len (x ∷ l) zero d h =
    let none : 0 * size ≡ 0 = omega arith in
    ap (λ (n : ℕ). take size (drop n (enc x ++ flat_map enc l))) none ∙ take_at (enc x) (flat_map enc l) size (len x)
entry_bytes enc size len (x ∷ l) (suc i) d h =
    let skip : suc i * size ≡ size + i * size = omega arith in
    let past : drop (size + i * size) (enc x ++ flat_map enc l) ≡ drop (i * size) (flat_map enc l) = sym (drop-drop (i * size) size (enc x ++ flat_map enc l)) ∙ ap (drop (i * size)) (drop_at (enc x) (flat_map enc l) size (len x)) in
    ap (λ (n : ℕ). take size (drop n (enc x ++ flat_map enc l))) skip ∙ ap (take size) past ∙ entry_bytes enc size len l i d (omega arith)

-- a table is read as it was written
pub table_read : {X : Type 0} (read : List ℕ → X) (enc : X → List ℕ) (size : ℕ) (P : X → Type 0) → ((x : X) → length (enc x) ≡ size) → ((x : X) → P x → read (enc x) ≡ x) → (l : List X) → All P l → items_of read size (length l) (flat_map enc l) ≡ l
unfolding items_of
table_read read enc size P len back [] each = refl
table_read read enc size P len back (x ∷ l) each =
    let count = length-map-range_with_len (λ i. read (take size (drop (i * size) (flat_map enc (x ∷ l))))) 0 (length (x ∷ l)) in
    ext_get_or x (map (λ i. read (take size (drop (i * size) (flat_map enc (x ∷ l))))) (range_with_len 0 (length (x ∷ l)))) (x ∷ l) count (λ i h.
    let inside : i < length (x ∷ l) = omega arith in
    get_or-map-range_with_len (λ k. read (take size (drop (k * size) (flat_map enc (x ∷ l))))) 0 (length (x ∷ l)) i i x inside (omega arith)
    ∙ ap read (entry_bytes enc size len (x ∷ l) i x inside)
    ∙ back (get_or (x ∷ l) i x) (each i x inside))

-- ---- What stands in the image

-- header and tables as they stand in an image
pub record StandsIn (image : List ℕ) (q : Object) : Type 0 where
  pub long : ehdr_size q.header.class ≤ length image
  pub small : length image ≤ limit_of q.header.class
  pub header : take (ehdr_size q.header.class) image ≡ ehdr_bytes (written_header q.header) q.pad
  pub segments : take (length q.phdrs * phdr_size q.header.class) (drop q.header.phoff image) ≡ phdrs_bytes q.header.class q.header.order q.phdrs
  pub segments_end : 0 < length q.phdrs → q.header.phoff + length q.phdrs * phdr_size q.header.class ≤ length image
  pub table : take (length q.sections * shdr_size q.header.class) (drop q.header.shoff image) ≡ shdrs_bytes q.header.class q.header.order (map (λ c. c.header) q.sections)
  pub table_end : 0 < length q.sections → q.header.shoff + length q.sections * shdr_size q.header.class ≤ length image
  pub table_behind : 0 < length q.sections → 0 < q.header.shoff

sizes_positive : (class : Class) → (0 < ehdr_size class) × (0 < phdr_size class) × (0 < shdr_size class)
sizes_positive C32 = (lit< tt, lit< tt, lit< tt)
sizes_positive C64 = (lit< tt, lit< tt, lit< tt)

-- the table is the last part
last_part : (q : Object) → slice_get (part_blocks q) (length q.sections - 1 + 2) ≡ Some (front_blocks q).table
unfolding part_blocks
last_part q =
    let index : length q.sections - 1 + 2 ≡ suc (suc (length q.sections - 1)) = omega arith in
    ap (λ (i : ℕ). slice_get ((front_blocks q).header ∷ (front_blocks q).segments ∷ map (section_block q) (section_numbers q) ++ (front_blocks q).table ∷ []) i) index
    ∙ after_row (section_block q) 1 (length q.sections - 1) (front_blocks q).table
  where
    after_row : (f : ℕ → Block) (a m : ℕ) (last : Block) → slice_get (map f (range_with_len a m) ++ last ∷ []) m ≡ Some last
    after_row f a zero last = refl
    after_row f a (suc m) last = after_row f (a + 1) m last

-- ---- Of the image of an object

-- the blocks of the front at their indexes
header_block : (q : Object) → slice_get (part_blocks q) 0 ≡ Some (front_blocks q).header
unfolding part_blocks
header_block q = refl

segments_block : (q : Object) → slice_get (part_blocks q) 1 ≡ Some (front_blocks q).segments
unfolding part_blocks
segments_block q = refl

-- what the blocks of the front are
header_is : (q : Object) → (front_blocks q).header ≡ record { at = 0; bytes = ehdr_bytes (written_header q.header) q.pad }
unfolding front_blocks front_in_image
header_is q = refl

segments_is : (q : Object) → (front_blocks q).segments ≡ record { at = q.header.phoff; bytes = phdrs_bytes q.header.class q.header.order q.phdrs }
unfolding front_blocks front_in_image written_header
segments_is q = refl

table_is : (q : Object) → (front_blocks q).table ≡ record { at = q.header.shoff; bytes = shdrs_bytes q.header.class q.header.order (map (λ c. c.header) q.sections) }
unfolding front_blocks front_in_image written_header
table_is q = refl

written_class : (h : Ehdr) → (written_header h).class ≡ h.class
unfolding written_header
written_class h = refl

-- two blocks that are apart, at their indexes
pub pairs_apart : (bs : List Block) (i j : ℕ) (b c : Block) → AllApart bs → i < j → slice_get bs i ≡ Some b → slice_get bs j ≡ Some c → AreApart b c
pairs_apart [] i j b c apart below first second = cc
pairs_apart (x ∷ bs) i zero b c apart below first second = absurd (omega arith)
pairs_apart (x ∷ bs) zero (suc j) b c apart below first second =
    let same : x ≡ b = cc in
    let R : Block → Type 0 = λ y. AreApart y c in
    subst R same (get_each (AreApart x) bs j c apart.0 second)
pairs_apart (x ∷ bs) (suc i) (suc j) b c apart below first second = pairs_apart bs i j b c apart.1 (omega arith) first second

-- a block that is apart from one at 0 begins behind it
not_at_start : (a n : ℕ) (xs ys : List ℕ) → 0 < length xs → 0 < length ys → AreApart (record { at = 0; bytes = xs }) (record { at = n; bytes = ys }) → 0 < n
not_at_start a n xs ys some other apart = ⊎_elim (λ h. h)
    (λ h.
    let start : n ≡ 0 = omega arith in
    let R : ℕ → Type 0 = λ m. AreApart (record { at = 0; bytes = xs }) (record { at = m; bytes = ys }) in
    let at_zero = subst R start apart in
    absurd (at_zero 0 (covers_at (record { at = 0; bytes = xs }) 0 some) (covers_at (record { at = 0; bytes = ys }) 0 other)))
    (cases_lt 0 n)

positive_size : (count size : ℕ) → 0 < count → 0 < size → 0 < count * size
positive_size zero size a b = absurd (omega arith)
positive_size (suc count) size a b = omega arith

limit_passed : (o : Object) → is_dirty o ≡ true → refusal o ≡ None → length (image o) ≤ limit_of o.header.class
unfolding image_length places_of parts_places placing_refusal
limit_passed o dirty passed =
    let both = update_passes o dirty passed in
    let small = (not_too_large (parts_of o) o.layout (length o.base) o.header.class both.1).length in
    let len = length-image o in
    let end : (if is_dirty o then length_of (parts_of o) o.layout (length o.base) else length o.base) ≡ length_of (parts_of o) o.layout (length o.base) = rw dirty refl in
    omega arith

class_placed : (o : Object) → is_dirty o ≡ true → (placed o).header.class ≡ o.header.class
class_placed o dirty = ap (λ (q : Object). q.header.class) (placed-dirty o dirty) ∙ class-placed (places_of o) o

pub image_stands : (o : Object) → IsObject o → is_dirty o ≡ true → refusal o ≡ None → StandsIn (image o) (placed o)
unfolding block_end
image_stands o ok dirty passed =
    let parts = parts_are_apart o ok dirty passed in
    let ok_placed = placed_is o ok passed in
    let len = length-image o in
    let size = sizes_positive (placed o).header.class in
    let header_at = header_block (placed o) ∙ ap Some (header_is (placed o)) in
    let segments_at = segments_block (placed o) ∙ ap Some (segments_is (placed o)) in
    let table_at = last_part (placed o) ∙ ap Some (table_is (placed o)) in
    let header_len : length (ehdr_bytes (written_header (placed o).header) (placed o).pad) ≡ ehdr_size (placed o).header.class = length-ehdr_bytes (written_header (placed o).header) (placed o).pad ok_placed.pad ∙ ap ehdr_size (written_class (placed o).header) in
    let segments_len = length-phdrs_bytes (placed o).header.class (placed o).header.order (placed o).phdrs in
    let table_len : length (shdrs_bytes (placed o).header.class (placed o).header.order (map (λ c. c.header) (placed o).sections)) ≡ length (placed o).sections * shdr_size (placed o).header.class = length-shdrs_bytes (placed o).header.class (placed o).header.order (map (λ c. c.header) (placed o).sections) ∙ ap (λ (n : ℕ). n * shdr_size (placed o).header.class) (length-map (placed o).sections (λ c. c.header)) in
    let header_end = get_each (λ (b : Block). 0 < length b.bytes → block_end b ≤ image_length o) (part_blocks (placed o)) 0 (record { at = 0; bytes = ehdr_bytes (written_header (placed o).header) (placed o).pad }) parts.within header_at (omega arith) in
    let stands = λ (i : ℕ) (b : Block) (at : slice_get (part_blocks (placed o)) i ≡ Some b). part_in_image o i b ok dirty passed at in
    let small = limit_passed o dirty passed in
    let class = class_placed o dirty in
    record {
      long = omega arith;
      small = let R : Class → Type 0 = λ c. length (image o) ≤ limit_of c in subst R (sym class) small;
      header = ap (λ (n : ℕ). take n (image o)) (sym header_len) ∙ stands 0 (record { at = 0; bytes = ehdr_bytes (written_header (placed o).header) (placed o).pad }) header_at;
      segments = ap (λ (n : ℕ). take n (drop (placed o).header.phoff (image o))) (sym segments_len) ∙ stands 1 (record { at = (placed o).header.phoff; bytes = phdrs_bytes (placed o).header.class (placed o).header.order (placed o).phdrs }) segments_at;
      segments_end = λ some.
          let full = positive_size (length (placed o).phdrs) (phdr_size (placed o).header.class) some size.1 in
          let end = get_each (λ (b : Block). 0 < length b.bytes → block_end b ≤ image_length o) (part_blocks (placed o)) 1 (record { at = (placed o).header.phoff; bytes = phdrs_bytes (placed o).header.class (placed o).header.order (placed o).phdrs }) parts.within segments_at (omega arith) in
          omega arith;
      table = ap (λ (n : ℕ). take n (drop (placed o).header.shoff (image o))) (sym table_len) ∙ stands (length (placed o).sections - 1 + 2) (record { at = (placed o).header.shoff; bytes = shdrs_bytes (placed o).header.class (placed o).header.order (map (λ c. c.header) (placed o).sections) }) table_at;
      table_end = λ some.
          let full = positive_size (length (placed o).sections) (shdr_size (placed o).header.class) some size.2 in
          let end = get_each (λ (b : Block). 0 < length b.bytes → block_end b ≤ image_length o) (part_blocks (placed o)) (length (placed o).sections - 1 + 2) (record { at = (placed o).header.shoff; bytes = shdrs_bytes (placed o).header.class (placed o).header.order (map (λ c. c.header) (placed o).sections) }) parts.within table_at (omega arith) in
          omega arith;
      table_behind = λ some.
          let full = positive_size (length (placed o).sections) (shdr_size (placed o).header.class) some size.2 in
          not_at_start 0 (placed o).header.shoff (ehdr_bytes (written_header (placed o).header) (placed o).pad) (shdrs_bytes (placed o).header.class (placed o).header.order (map (λ c. c.header) (placed o).sections)) (omega arith) (omega arith)
          (pairs_apart (part_blocks (placed o)) 0 (length (placed o).sections - 1 + 2) (record { at = 0; bytes = ehdr_bytes (written_header (placed o).header) (placed o).pad }) (record { at = (placed o).header.shoff; bytes = shdrs_bytes (placed o).header.class (placed o).header.order (map (λ c. c.header) (placed o).sections) }) parts.apart (omega arith) header_at table_at);
    }
