-- The parts stand in the image where their headers say, each with all of its bytes, where the update is not refused.
use Rattle.std.proofs.Common.{◌≡◌, ℕ, zero, suc, ◌+◌, ◌-◌, ◌*◌, ◌<◌, ◌≤◌, Bool, true, false, not, ◌&&◌, ◌||◌, List, [], ◌∷◌, ◌++◌, length, take, drop, get_or, Some, None, refl, sym, ap, ◌∙◌, subst, arith, ⊎_elim}
use Rattle.std.specs.Prelude.{nat_lt, nat_le, if◌then◌else◌, ◌==◌, map, slice_get}
use Rattle.std.specs.List.{range_with_len, enumerate_from, AllByRecursion}
use Rattle.std.proofs.lemmas.Bool.{ltb-true, leb-true, cases_lt, lt-ltb, eqb-true}
use Rattle.std.proofs.lemmas.List.{length-map, length-append, get_or-map, get_or_append_left, get_or-append-add, get_or_past, nil_from_length}
use Rattle.std.proofs.lemmas.List.FromFn.{length-map-range_with_len, get_or-map-range_with_len, length-enumerate_from}
use Rattle.elf_types.specs.declared.records.Class.{Class}
use Rattle.elf_types.specs.declared.records.Order.{Order}
use Rattle.elf_types.specs.declared.records.Shdr.{Shdr}
use Rattle.elf_object.specs.elf_xlate.Headers.{phdr_size, shdr_size}
use Rattle.elf_object.specs.elf_layout.declared.parts.PartAt.{PartAt}
use Rattle.elf_object.specs.elf_layout.declared.parts.Places.{Places}
use Rattle.elf_object.specs.elf_layout.Layout.{rounded_up, place_of, end_after, standing, in_order_from, length_from, length_of, positions, places_of as parts_places}
use Rattle.elf_object.specs.elf_layout.Meeting.{has_bytes, end_of, meets}
use Rattle.elf_object.specs.Blocks.{Block, block_end, block_covers, spread, stacked, last_end}
use Rattle.law_object.proofs.BlockLaws.{AreApart, AllApart, take-drop-spread}
use Rattle.elf_object.specs.Object.{Object, Section, absent_section, section_at, header_of, has_file_bytes, occupies_file, is_null, is_dirty}
use Rattle.elf_object.specs.Open.{front_in_image, no_block}
use Rattle.elf_object.specs.Joined.{aligned_pieces, piece_blocks, pieces_end, file_bytes}
use Rattle.elf_object.specs.Derived.{where_any, derived_header, written_header, numbered_shdr}
use Rattle.elf_object.specs.Layout.{header_part, segments_part, section_part, table_part, section_numbers, parts_of, places_of, section_place, size_in_file, placed_header, placed_shdr, placed_section, placed_by, placed}
use Rattle.elf_object.specs.Image.{front_blocks, section_block, part_blocks, uncovered_byte, image_length, image}
use Rattle.elf_object.specs.Refusal.{refusal, placing_refusal}
use Rattle.law_object.proofs.ImageLaws.{section_at-placed, joined-none, not_null, file_bytes_from, image-dirty, placed-dirty}
use Rattle.law_object.proofs.PlaceLaws.{Pairs, ends_within, standing_apart}
use Rattle.law_object.proofs.PlacedLaws.{update_passes}
use Rattle.law_object.proofs.LengthLaws.{length-ehdr_bytes, length-phdrs_bytes, length-shdrs_bytes}
use Rattle.elf_object.specs.Valid.{IsObject}

-- ---- A block and its part

-- a block is that of a part: it has as many bytes as the image has of the part, and, if it is not empty, stands there
pub record IsBlockOf (b : Block) (p : PartAt) : Type 0 where
  pub len : length b.bytes ≡ (if p.filled then p.len else 0)
  pub at : 0 < length b.bytes → b.at ≡ p.at

pub record IsCovered (b : Block) (k : ℕ) : Type 0 where
  pub from : b.at ≤ k
  pub below : k < b.at + length b.bytes

pub covered_from : (b : Block) (k : ℕ) → block_covers b k ≡ true → IsCovered b k
unfolding block_covers block_end
covered_from b k h = by_test (nat_le b.at k) (nat_lt k (b.at + length b.bytes)) refl refl h
  where
    by_test : (x y : Bool) → nat_le b.at k ≡ x → nat_lt k (b.at + length b.bytes) ≡ y → (x && y) ≡ true → IsCovered b k
    by_test true true e f g = record { from = leb-true b.at k e; below = ltb-true k (b.at + length b.bytes) f }
    by_test true false e f g = cc
    by_test false y e f g = cc

-- a block that is not empty is that of a part that is not
pub record IsFull (b : Block) (p : PartAt) : Type 0 where
  pub full : has_bytes p ≡ true
  pub len : length b.bytes ≡ p.len
  pub at : b.at ≡ p.at

pub full_from : (b : Block) (p : PartAt) → IsBlockOf b p → 0 < length b.bytes → IsFull b p
unfolding has_bytes
full_from b p of some = by_test p.filled refl of.len
  where
    by_test : (f : Bool) → p.filled ≡ f → length b.bytes ≡ (if f then p.len else 0) → IsFull b p
    by_test true e len = record { full = rw (e, lt-ltb 0 p.len (omega arith)) refl; len = len; at = of.at some }
    by_test false e len = absurd (omega arith)

meet_at : (p q : PartAt) (k : ℕ) → has_bytes p ≡ true → has_bytes q ≡ true → p.at ≤ k → k < p.at + p.len → q.at ≤ k → k < q.at + q.len → meets p q ≡ true
unfolding meets end_of
meet_at p q k some other a b c d =
    rw (some, other, lt-ltb p.at (q.at + q.len) (omega arith), lt-ltb q.at (p.at + p.len) (omega arith)) refl

-- blocks of parts that do not meet are apart
pub blocks_apart : (b c : Block) (p q : PartAt) → IsBlockOf b p → IsBlockOf c q → meets p q ≡ false → AreApart b c
blocks_apart b c p q first second apart k here there =
    let x = covered_from b k here in
    let y = covered_from c k there in
    let from = x.from in
    let below = x.below in
    let after = y.from in
    let before = y.below in
    let full = full_from b p first (omega arith) in
    let other = full_from c q second (omega arith) in
    let same_at = full.at in
    let same_len = full.len in
    let other_at = other.at in
    let other_len = other.len in
    let met : meets p q ≡ true = meet_at p q k full.full other.full (omega arith) (omega arith) (omega arith) (omega arith) in
    let clash : false ≡ true = sym apart ∙ met in cc

-- the blocks of a list of parts
unfoldable pub AreBlocksOf : List Block → List PartAt → Type 0
AreBlocksOf [] [] = Unit {0}
AreBlocksOf [] (p ∷ ps) = ⊥
AreBlocksOf (b ∷ bs) [] = ⊥
AreBlocksOf (b ∷ bs) (p ∷ ps) = IsBlockOf b p × AreBlocksOf bs ps

each_apart : (b : Block) (p : PartAt) → IsBlockOf b p → (bs : List Block) (ps : List PartAt) → AreBlocksOf bs ps → AllByRecursion (λ q. meets p q ≡ false) ps → AllByRecursion (AreApart b) bs
unfolding AreBlocksOf
each_apart b p of [] [] are apart = tt
each_apart b p of [] (q ∷ ps) are apart = tt
each_apart b p of (c ∷ bs) [] are apart = absurd are
each_apart b p of (c ∷ bs) (q ∷ ps) are apart = (blocks_apart b c p q of are.0 apart.0, each_apart b p of bs ps are.1 apart.1)

pub all_apart : (bs : List Block) (ps : List PartAt) → AreBlocksOf bs ps → Pairs (λ p q. meets p q ≡ false) ps → AllApart bs
unfolding AreBlocksOf
all_apart [] [] are apart = tt
all_apart [] (p ∷ ps) are apart = tt
all_apart (b ∷ bs) [] are apart = absurd are
all_apart (b ∷ bs) (p ∷ ps) are apart = (each_apart b p are.0 bs ps are.1 apart.0, all_apart bs ps are.1 apart.1)

-- and they end where the parts do
pub all_within : (n : ℕ) (bs : List Block) (ps : List PartAt) → AreBlocksOf bs ps → AllByRecursion (λ p. has_bytes p ≡ true → end_of p ≤ n) ps → AllByRecursion (λ b. 0 < length b.bytes → block_end b ≤ n) bs
unfolding AreBlocksOf block_end end_of
all_within n [] [] are ends = tt
all_within n [] (p ∷ ps) are ends = tt
all_within n (b ∷ bs) [] are ends = absurd are
all_within n (b ∷ bs) (p ∷ ps) are ends =
    ((λ some. let full = full_from b p are.0 some in let end = ends.0 full.full in let len = full.len in let at = full.at in omega arith), all_within n bs ps are.1 ends.1)

-- the blocks of parts at each index
pub are_blocks_of : (bs : List Block) (ps : List PartAt) (b : Block) (p : PartAt) → length bs ≡ length ps → ((i : ℕ) → i < length bs → IsBlockOf (get_or bs i b) (get_or ps i p)) → AreBlocksOf bs ps
unfolding AreBlocksOf
are_blocks_of [] [] b p len each = tt
are_blocks_of [] (q ∷ ps) b p len each = absurd (omega arith)
are_blocks_of (c ∷ bs) [] b p len each = absurd (omega arith)
are_blocks_of (c ∷ bs) (q ∷ ps) b p len each =
    (each 0 (omega arith), are_blocks_of bs ps b p (omega arith) (λ i h. each (suc i) (omega arith)))

-- ---- Parts before and after they are placed

pub length-in_order : (end : ℕ) (ps : List PartAt) → length (in_order_from end ps) ≡ length ps
unfolding in_order_from
length-in_order end [] = refl
length-in_order end (p ∷ ps) = ap suc (length-in_order (end_after end p) ps)

pub length-standing : (layout : Bool) (ps : List PartAt) → length (standing ps layout) ≡ length ps
unfolding standing
length-standing true ps = refl
length-standing false ps = length-in_order 0 ps

-- a placed part is the part at another place
in_order-same : (end : ℕ) (ps : List PartAt) (i : ℕ) (d : PartAt) → i < length ps → (get_or (in_order_from end ps) i d).len ≡ (get_or ps i d).len × (get_or (in_order_from end ps) i d).filled ≡ (get_or ps i d).filled
unfolding in_order_from
in_order-same end [] i d h = absurd (omega arith)
in_order-same end (p ∷ ps) zero d h = (refl, refl)
in_order-same end (p ∷ ps) (suc i) d h = in_order-same (end_after end p) ps i d (omega arith)

standing-same : (layout : Bool) (ps : List PartAt) (i : ℕ) (d : PartAt) → i < length ps → (get_or (standing ps layout) i d).len ≡ (get_or ps i d).len × (get_or (standing ps layout) i d).filled ≡ (get_or ps i d).filled
unfolding standing
standing-same true ps i d h = (refl, refl)
standing-same false ps i d h = in_order-same 0 ps i d h

-- a block has as many bytes as the part, and stands at a place
pub record IsBlockAt (b : Block) (p : PartAt) (place : ℕ) : Type 0 where
  pub len : length b.bytes ≡ (if p.filled then p.len else 0)
  pub at : 0 < length b.bytes → b.at ≡ place

from_place : (layout : Bool) (ps : List PartAt) (i : ℕ) (b : Block) (d : PartAt) → i < length ps → IsBlockAt b (get_or ps i d) (get_or (positions (standing ps layout)) i 0) → IsBlockOf b (get_or (standing ps layout) i d)
unfolding positions
from_place layout ps i b d h of =
    let same = standing-same layout ps i d h in
    let count = length-standing layout ps in
    let place = get_or-map (λ (p : PartAt). p.at) (standing ps layout) i d 0 (omega arith) in
    record {
      len = of.len ∙ sized (get_or ps i d).filled (get_or (standing ps layout) i d).filled (get_or ps i d).len (get_or (standing ps layout) i d).len same.1 same.0;
      at = λ some. of.at some ∙ place;
    }
  where
    sized : (f g : Bool) (m n : ℕ) → g ≡ f → n ≡ m → (if f then m else 0) ≡ (if g then n else 0)
    sized f g m n e k = rw (e, k) refl

-- ---- The parts of an object

abbrev PlacesOf : Object → ℕ → ℕ
PlacesOf o i = get_or (places_of o).at i 0

-- the blocks of the object whose places are stored
header_stands : (o : Object) (d : PartAt) → length o.pad ≡ 7 → IsBlockAt (front_blocks (placed_by (places_of o) o)).header (header_part o) 0
unfolding front_blocks front_in_image placed_by written_header placed_header derived_header header_of
header_stands o d seven = record {
  len = length-ehdr_bytes (written_header (placed_header (places_of o) o)) o.pad seven;
  at = λ some. refl;
}

pub where_some : (count n : ℕ) → 0 < count → where_any count n ≡ n
where_some count n h = by_test (count == 0) refl
  where
    by_test : (b : Bool) → (count == 0) ≡ b → (if b then 0 else n) ≡ n
    by_test true e = let none = eqb-true count 0 e in absurd (omega arith)
    by_test false e = refl

pub some_of : (count size : ℕ) → 0 < count * size → 0 < count
some_of zero size h = absurd (omega arith)
some_of (suc count) size h = omega arith

segments_stand : (o : Object) → IsBlockAt (front_blocks (placed_by (places_of o) o)).segments (segments_part o) (PlacesOf o 1)
unfolding front_blocks front_in_image placed_by written_header placed_header derived_header header_of
segments_stand o =
    let len = length-phdrs_bytes o.header.class o.header.order o.phdrs in
    record {
      len = len;
      at = λ some. where_some (length o.phdrs) (PlacesOf o 1) (some_of (length o.phdrs) (phdr_size o.header.class) (omega arith));
    }

table_stands : (o : Object) → IsBlockAt (front_blocks (placed_by (places_of o) o)).table (table_part o) (PlacesOf o (length o.sections - 1 + 2))
unfolding front_blocks front_in_image placed_by written_header placed_header derived_header header_of
table_stands o =
    let sections = map (λ r. placed_section (places_of o) o r.0 r.1) (enumerate_from 0 o.sections) in
    let len = length-shdrs_bytes o.header.class o.header.order (map (λ c. c.header) sections) in
    let count : length (map (λ c. c.header) sections) ≡ length o.sections = length-map sections (λ c. c.header) ∙ length-map (enumerate_from 0 o.sections) (λ r. placed_section (places_of o) o r.0 r.1) ∙ length-enumerate_from 0 o.sections in
    let size : length (map (λ c. c.header) sections) * shdr_size o.header.class ≡ length o.sections * shdr_size o.header.class = ap (λ (n : ℕ). n * shdr_size o.header.class) count in
    record {
      len = len ∙ size;
      at = λ some. where_some (length o.sections) (PlacesOf o (length o.sections - 1 + 2)) (some_of (length o.sections) (shdr_size o.header.class) (omega arith));
    }

-- ---- Sections of the placed object

-- the bytes of a section by what they are made of
joined_of : Class → Order → ℕ → ℕ → Section → List ℕ
unfolding aligned_pieces
joined_of class order fill s c =
    if has_file_bytes s c
    then spread (last_end 0 (stacked 0 (aligned_pieces class order c))) (λ _. fill) (stacked 0 (aligned_pieces class order c))
    else []

joined_of-header : (class : Class) (order : Order) (fill s : ℕ) (c : Section) (h : Shdr) → h.stype ≡ c.header.stype → joined_of class order fill s (record c { header = h }) ≡ joined_of class order fill s c
unfolding joined_of has_file_bytes aligned_pieces
joined_of-header class order fill s c h e =
    ap (λ (t : ℕ). if not (s == 0) && not (t == 0 || t == 8) then spread (last_end 0 (stacked 0 (aligned_pieces class order c))) (λ _. fill) (stacked 0 (aligned_pieces class order c)) else []) e

pub type-placed : (places : Places) (o : Object) (s : ℕ) (h : Shdr) → (placed_shdr places o s h).stype ≡ h.stype
unfolding placed_shdr numbered_shdr
type-placed places o s h = by_test (s == 0) (is_null h)
  where
    by_test : (a b : Bool) → (if a then numbered_shdr (placed_header places o) h else (if b then h else (record h { offset = section_place places s; size = size_in_file o s h }))).stype ≡ h.stype
    by_test true b = refl
    by_test false true = refl
    by_test false false = refl

-- an index past the sections
pub section_at-past : (o : Object) (s : ℕ) → length o.sections ≤ s → section_at o s ≡ absent_section
unfolding section_at
section_at-past o s h = get_or_past o.sections s absent_section h

pub section_count-placed : (places : Places) (o : Object) → length (placed_by places o).sections ≡ length o.sections
unfolding placed_by
section_count-placed places o = length-map (enumerate_from 0 o.sections) (λ r. placed_section places o r.0 r.1) ∙ length-enumerate_from 0 o.sections

-- the bytes of a section stay when places are stored
pub joined-placed : (places : Places) (o : Object) (s : ℕ) → file_bytes (placed_by places o) s ≡ file_bytes o s
unfolding file_bytes pieces_end piece_blocks placed_by placed_header derived_header header_of placed_section joined_of
joined-placed places o s = ⊎_elim
    (λ h. ap (joined_of o.header.class o.header.order o.fill s) (section_at-placed places o s h) ∙ joined_of-header o.header.class o.header.order o.fill s (section_at o s) (placed_shdr places o s (section_at o s).header) (type-placed places o s (section_at o s).header))
    (λ h. let count = section_count-placed places o in
    ap (joined_of o.header.class o.header.order o.fill s) (section_at-past (placed_by places o) s (omega arith) ∙ sym (section_at-past o s h)))
    (cases_lt s (length o.sections))

placed_offset : (first empty : Bool) (numbered h : Shdr) (offset n : ℕ) → first ≡ false → empty ≡ false → (if first then numbered else (if empty then h else (record h { offset = offset; size = n }))).offset ≡ offset
placed_offset false false numbered h offset n a b = refl
placed_offset true empty numbered h offset n a b = cc
placed_offset false true numbered h offset n a b = cc

-- a section with file bytes stands at its place
pub offset-placed : (places : Places) (o : Object) (s : ℕ) → s < length o.sections → has_file_bytes s (section_at o s) ≡ true → (section_at (placed_by places o) s).header.offset ≡ section_place places s
unfolding placed_section placed_shdr
offset-placed places o s inside filled =
    let parts = file_bytes_from s (section_at o s) filled in
    let full = not_null (section_at o s).header parts.1 in
    ap (λ (c : Section). c.header.offset) (section_at-placed places o s inside)
    ∙ placed_offset (s == 0) (is_null (section_at o s).header) (numbered_shdr (placed_header places o) (section_at o s).header) (section_at o s).header (section_place places s) (size_in_file o s (section_at o s).header) parts.0 full

pub file_bytes_when : (s : ℕ) (c : Section) → 0 < s → has_file_bytes s c ≡ occupies_file c.header
unfolding has_file_bytes
file_bytes_when s c positive = by_test (s == 0) refl
  where
    by_test : (b : Bool) → (s == 0) ≡ b → (not b && occupies_file c.header) ≡ occupies_file c.header
    by_test true e = let none = eqb-true s 0 e in absurd (omega arith)
    by_test false e = refl

section_stands : (o : Object) (s : ℕ) → 0 < s → s < length o.sections → IsBlockAt (section_block (placed_by (places_of o) o) s) (section_part o s) (PlacesOf o (s + 1))
unfolding section_block section_part
section_stands o s positive inside =
    let same = joined-placed (places_of o) o s in
    let test = file_bytes_when s (section_at o s) positive in
    record {
      len = ap length same ∙ by_test (occupies_file (section_at o s).header) test;
      at = λ some. by_bytes (has_file_bytes s (section_at o s)) refl (subst (λ (l : List ℕ). 0 < length l) same some);
    }
  where
    by_test : (b : Bool) → has_file_bytes s (section_at o s) ≡ b → length (file_bytes o s) ≡ (if b then length (file_bytes o s) else 0)
    by_test true e = refl
    by_test false e = ap length (joined-none o s e)

    by_bytes : (b : Bool) → has_file_bytes s (section_at o s) ≡ b → 0 < length (file_bytes o s) → (section_at (placed_by (places_of o) o) s).header.offset ≡ PlacesOf o (s + 1)
    by_bytes true e some = offset-placed (places_of o) o s inside e
    by_bytes false e some = let none = ap length (joined-none o s e) in absurd (omega arith)

-- ---- All parts

header_place : (o : Object) → PlacesOf o 0 ≡ 0
unfolding places_of parts_places positions standing parts_of in_order_from place_of rounded_up
header_place o = by_test o.layout
  where
    rest : List PartAt
    rest = segments_part o ∷ map (section_part o) (section_numbers o) ++ table_part o ∷ []

    by_test : (b : Bool) → get_or (map (λ p. p.at) (if b then header_part o ∷ rest else in_order_from 0 (header_part o ∷ rest))) 0 0 ≡ 0
    by_test true = refl
    by_test false = refl

-- a list of two, a row of many, and one more, at an index past the two
pub row_left : {X : Type 0} (f : ℕ → X) (m : ℕ) (last : X) (j : ℕ) (d : X) → j < m → get_or (map f (range_with_len 1 m) ++ last ∷ []) j d ≡ f (1 + j)
row_left f m last j d h =
    let count = length-map-range_with_len f 1 m in
    get_or_append_left (map f (range_with_len 1 m)) (last ∷ []) d j (omega arith) ∙ get_or-map-range_with_len f 1 m j (1 + j) d h refl

pub row_last : {X : Type 0} (f : ℕ → X) (m : ℕ) (last : X) (j : ℕ) (d : X) → j ≡ m → get_or (map f (range_with_len 1 m) ++ last ∷ []) j d ≡ last
row_last f m last j d h =
    let count = length-map-range_with_len f 1 m in
    let place : j ≡ length (map f (range_with_len 1 m)) + 0 = omega arith in
    ap (λ (k : ℕ). get_or (map f (range_with_len 1 m) ++ last ∷ []) k d) place ∙ get_or-append-add (map f (range_with_len 1 m)) (last ∷ []) 0 d

pub length-row : {X : Type 0} (f : ℕ → X) (m : ℕ) (last : X) → length (map f (range_with_len 1 m) ++ last ∷ []) ≡ m + 1
length-row f m last = let count = length-map-range_with_len f 1 m in length-append (map f (range_with_len 1 m)) (last ∷ []) ∙ omega arith

table_place_is : (o : Object) (b : Block) (p : PartAt) (j : ℕ) → IsBlockAt b p (PlacesOf o (length o.sections - 1 + 2)) → j ≡ length o.sections - 1 → IsBlockAt b p (PlacesOf o (suc (suc j)))
table_place_is o b p j of e = record {
  len = of.len;
  at = λ full. let index : length o.sections - 1 + 2 ≡ suc (suc j) = omega arith in of.at full ∙ ap (PlacesOf o) index;
}

part_stands : (o : Object) (i : ℕ) (b : Block) (d : PartAt) → length o.pad ≡ 7 → i < length (parts_of o) → IsBlockAt (get_or (part_blocks (placed_by (places_of o) o)) i b) (get_or (parts_of o) i d) (PlacesOf o i)
unfolding part_blocks parts_of
part_stands o zero b d seven h = subst (IsBlockAt (front_blocks (placed_by (places_of o) o)).header (header_part o)) (sym (header_place o)) (header_stands o d seven)
part_stands o (suc zero) b d seven h = segments_stand o
part_stands o (suc (suc j)) b d seven h =
    let q = placed_by (places_of o) o in
    let m = length o.sections - 1 in
    let count = length-row (section_part o) (length o.sections - 1) (table_part o) in
    let same : length (placed_by (places_of o) o).sections ≡ length o.sections = section_count-placed (places_of o) o in
    let numbers : length (placed_by (places_of o) o).sections - 1 ≡ length o.sections - 1 = ap (λ (n : ℕ). n - 1) same in
    let R : ℕ → Type 0 = λ n. IsBlockAt (get_or (map (section_block (placed_by (places_of o) o)) (range_with_len 1 n) ++ (front_blocks (placed_by (places_of o) o)).table ∷ []) j b) (get_or (map (section_part o) (range_with_len 1 (length o.sections - 1)) ++ table_part o ∷ []) j d) (PlacesOf o (suc (suc j))) in
    subst R (sym numbers) (⊎_elim
    (λ below.
    let left = row_left (section_block (placed_by (places_of o) o)) (length o.sections - 1) (front_blocks (placed_by (places_of o) o)).table j b below in
    let right = row_left (section_part o) (length o.sections - 1) (table_part o) j d below in
    let index : 1 + j + 1 ≡ suc (suc j) = omega arith in
    let stands = section_stands o (1 + j) (omega arith) (omega arith) in
    subst (λ (x : Block). IsBlockAt x (get_or (map (section_part o) (range_with_len 1 (length o.sections - 1)) ++ table_part o ∷ []) j d) (PlacesOf o (suc (suc j)))) (sym left)
    (subst (λ (x : PartAt). IsBlockAt (section_block (placed_by (places_of o) o) (1 + j)) x (PlacesOf o (suc (suc j)))) (sym right)
    (subst (λ (k : ℕ). IsBlockAt (section_block (placed_by (places_of o) o) (1 + j)) (section_part o (1 + j)) (PlacesOf o k)) index stands)))
    (λ past.
    let last : j ≡ length o.sections - 1 = omega arith in
    let left = row_last (section_block (placed_by (places_of o) o)) (length o.sections - 1) (front_blocks (placed_by (places_of o) o)).table j b last in
    let right = row_last (section_part o) (length o.sections - 1) (table_part o) j d last in
    let stands = table_place_is o (front_blocks (placed_by (places_of o) o)).table (table_part o) j (table_stands o) last in
    subst (λ (x : Block). IsBlockAt x (get_or (map (section_part o) (range_with_len 1 (length o.sections - 1)) ++ table_part o ∷ []) j d) (PlacesOf o (suc (suc j)))) (sym left)
    (subst (λ (x : PartAt). IsBlockAt (front_blocks (placed_by (places_of o) o)).table x (PlacesOf o (suc (suc j)))) (sym right) stands))
    (cases_lt j (length o.sections - 1)))

length-part_blocks : (o : Object) → length (part_blocks (placed_by (places_of o) o)) ≡ length (parts_of o)
unfolding part_blocks parts_of
length-part_blocks o =
    let same : length (placed_by (places_of o) o).sections ≡ length o.sections = section_count-placed (places_of o) o in
    let left = length-row (section_block (placed_by (places_of o) o)) (length (placed_by (places_of o) o).sections - 1) (front_blocks (placed_by (places_of o) o)).table in
    let right = length-row (section_part o) (length o.sections - 1) (table_part o) in
    omega arith

-- the blocks of the placed object are those of its parts
pub placed_blocks : (o : Object) → length o.pad ≡ 7 → AreBlocksOf (part_blocks (placed_by (places_of o) o)) (standing (parts_of o) o.layout)
unfolding places_of parts_places
placed_blocks o seven =
    let count = length-part_blocks o in
    let parts = length-standing o.layout (parts_of o) in
    are_blocks_of (part_blocks (placed_by (places_of o) o)) (standing (parts_of o) o.layout) no_block (header_part o) (count ∙ sym parts)
    (λ i h. from_place o.layout (parts_of o) i (get_or (part_blocks (placed_by (places_of o) o)) i no_block) (header_part o) (omega arith)
    (part_stands o i no_block (header_part o) seven (omega arith)))

-- ---- The image

pub get_each : {X : Type 0} (P : X → Type 0) (l : List X) (i : ℕ) (x : X) → AllByRecursion P l → slice_get l i ≡ Some x → P x
get_each P [] i x each at = cc
get_each P (y ∷ l) zero x each at = let same : y ≡ x = cc in subst P same each.0
get_each P (y ∷ l) (suc i) x each at = get_each P l i x each.1 at

-- the parts of an image are apart and within it
pub record PartsAreApart (o : Object) : Type 0 where
  pub apart : AllApart (part_blocks (placed o))
  pub within : AllByRecursion (λ b. 0 < length b.bytes → block_end b ≤ image_length o) (part_blocks (placed o))

pub parts_are_apart : (o : Object) → IsObject o → is_dirty o ≡ true → refusal o ≡ None → PartsAreApart o
unfolding image_length places_of parts_places length_of placing_refusal
parts_are_apart o ok dirty passed =
    let both = update_passes o dirty passed in
    let blocks = placed_blocks o ok.pad in
    let pairs = standing_apart (parts_of o) o.layout (length o.base) o.header.class both.1 in
    let ends = ends_within (if o.layout then length o.base else 0) (standing (parts_of o) o.layout) in
    let same = placed-dirty o dirty in
    let len : (if is_dirty o then length_from (if o.layout then length o.base else 0) (standing (parts_of o) o.layout) else length o.base) ≡ length_from (if o.layout then length o.base else 0) (standing (parts_of o) o.layout) = rw dirty refl in
    let within = all_within (length_from (if o.layout then length o.base else 0) (standing (parts_of o) o.layout)) (part_blocks (placed_by (places_of o) o)) (standing (parts_of o) o.layout) blocks ends in
    record {
      apart = subst (λ (q : Object). AllApart (part_blocks q)) (sym same) (all_apart (part_blocks (placed_by (places_of o) o)) (standing (parts_of o) o.layout) blocks pairs);
      within = subst (λ (q : Object). AllByRecursion (λ b. 0 < length b.bytes → block_end b ≤ image_length o) (part_blocks q)) (sym same)
          (subst (λ (n : ℕ). AllByRecursion (λ b. 0 < length b.bytes → block_end b ≤ n) (part_blocks (placed_by (places_of o) o))) (sym len) within);
    }

-- each part stands in the image with all of its bytes
pub part_in_image : (o : Object) (i : ℕ) (b : Block) → IsObject o → is_dirty o ≡ true → refusal o ≡ None → slice_get (part_blocks (placed o)) i ≡ Some b → take (length b.bytes) (drop b.at (image o)) ≡ b.bytes
part_in_image o i b ok dirty passed at =
    let parts = parts_are_apart o ok dirty passed in
    let end = get_each (λ (x : Block). 0 < length x.bytes → block_end x ≤ image_length o) (part_blocks (placed o)) i b parts.within at in
    ap (λ (l : List ℕ). take (length b.bytes) (drop b.at l)) (image-dirty o dirty)
    ∙ ⊎_elim
    (λ some. take-drop-spread (image_length o) (uncovered_byte o) (part_blocks (placed o)) i b parts.apart at (end some))
    (λ none.
    let empty : b.bytes ≡ [] = nil_from_length b.bytes (omega arith) in
    rw empty refl)
    (cases_lt 0 (length b.bytes))
