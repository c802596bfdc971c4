-- Places that are stored stay when they are stored again, and the image stays.
use Rattle.std.proofs.Common.{◌≡◌, ℕ, suc, ◌+◌, ◌-◌, ◌<◌, Bool, true, false, not, ◌||◌, List, [], ◌∷◌, ◌++◌, length, get_or, refl, sym, ap, ◌∙◌, subst, arith, ⊎_elim}
use Rattle.std.specs.Prelude.{if◌then◌else◌, ◌==◌, map}
use Rattle.std.specs.List.{range_with_len}
use Rattle.std.proofs.lemmas.Bool.{cases_lt, eq-eqb}
use Rattle.std.proofs.lemmas.List.{get_or-map}
use Rattle.elf_types.specs.declared.records.Class.{Class}
use Rattle.elf_types.specs.declared.records.Ehdr.{Ehdr}
use Rattle.elf_types.specs.declared.records.Shdr.{Shdr}
use Rattle.elf_object.specs.elf_layout.declared.parts.PartAt.{PartAt}
use Rattle.elf_object.specs.elf_layout.declared.parts.Places.{Places}
use Rattle.elf_object.specs.elf_layout.Layout.{in_order_from, standing, length_of, positions, places_of as parts_places, refusal_of}
use Rattle.elf_object.specs.Object.{Object, Section, absent_section, section_at, header_of, is_null, is_dirty}
use Rattle.elf_object.specs.Joined.{file_bytes}
use Rattle.elf_object.specs.Derived.{where_any, derived_header, numbered_shdr}
use Rattle.elf_object.specs.Layout.{header_part, segments_part, section_part, table_part, section_numbers, parts_of, places_of, segments_place, section_place, table_place, size_in_file, placed_header, placed_shdr, placed_section, placed_by, placed}
use Rattle.elf_object.specs.Image.{front_blocks, section_block, part_blocks, uncovered_byte, image_length, image}
use Rattle.law_object.proofs.StandLaws.{where_some, row_left, row_last, section_count-placed, joined-placed, offset-placed, type-placed, section_at-past}
use Rattle.law_object.proofs.ImageLaws.{section_at-placed, image-dirty, placed-dirty}
use Rattle.elf_object.specs.Blocks.{Block, spread, is_covered}
use Rattle.law_object.proofs.BlockLaws.{spread-same}
use Rattle.elf_object.specs.Refusal.{placing_refusal}
use Rattle.law_object.proofs.PartLaws.{in_order_from-same, length_of-same, refusal_of-same, refusal_of-base, length_of-base, SamePlan, length-parts_of, parts_of-same}

-- ---- The placed object has the same parts

caller_place : (o : Object) (i : ℕ) (d : PartAt) → o.layout ≡ true → i < length (parts_of o) → get_or (places_of o).at i 0 ≡ (get_or (parts_of o) i d).at
unfolding places_of parts_places positions standing
caller_place o i d lay h =
    ap (λ (b : Bool). get_or (map (λ p. p.at) (if b then parts_of o else in_order_from 0 (parts_of o))) i 0) lay
    ∙ get_or-map (λ (p : PartAt). p.at) (parts_of o) i d 0 h

get_table : (o : Object) (d : PartAt) → get_or (parts_of o) (length o.sections - 1 + 2) d ≡ table_part o
unfolding parts_of
get_table o d =
    let index : length o.sections - 1 + 2 ≡ suc (suc (length o.sections - 1)) = omega arith in
    ap (λ (i : ℕ). get_or (header_part o ∷ segments_part o ∷ map (section_part o) (section_numbers o) ++ table_part o ∷ []) i d) index
    ∙ row_last (section_part o) (length o.sections - 1) (table_part o) (length o.sections - 1) d refl

get_section : (o : Object) (s : ℕ) (d : PartAt) → 0 < s → s < length o.sections → get_or (parts_of o) (s + 1) d ≡ section_part o s
unfolding parts_of
get_section o s d positive inside =
    let index : s + 1 ≡ suc (suc (s - 1)) = omega arith in
    let number : 1 + (s - 1) ≡ s = omega arith in
    ap (λ (i : ℕ). get_or (header_part o ∷ segments_part o ∷ map (section_part o) (section_numbers o) ++ table_part o ∷ []) i d) index
    ∙ row_left (section_part o) (length o.sections - 1) (table_part o) (s - 1) d (omega arith)
    ∙ ap (section_part o) number

get_segments : (o : Object) (d : PartAt) → get_or (parts_of o) 1 d ≡ segments_part o
unfolding parts_of
get_segments o d = refl

pub stype-placed : (places : Places) (o : Object) (s : ℕ) → (section_at (placed_by places o) s).header.stype ≡ (section_at o s).header.stype
unfolding placed_section
stype-placed places o s = ⊎_elim
    (λ h. ap (λ (c : Section). c.header.stype) (section_at-placed places o s h) ∙ type-placed places o s (section_at o s).header)
    (λ h. let count = section_count-placed places o in
    ap (λ (c : Section). c.header.stype) (section_at-past (placed_by places o) s (omega arith) ∙ sym (section_at-past o s h)))
    (cases_lt s (length o.sections))

align-placed : (places : Places) (o : Object) (s : ℕ) (h : Shdr) → (placed_shdr places o s h).addralign ≡ h.addralign
unfolding placed_shdr numbered_shdr
align-placed places o s h = by_test (s == 0) (is_null h)
  where
    by_test : (a b : Bool) → (if a then numbered_shdr (placed_header places o) h else (if b then h else (record h { offset = section_place places s; size = size_in_file o s h }))).addralign ≡ h.addralign
    by_test true b = refl
    by_test false true = refl
    by_test false false = refl

addralign-placed : (places : Places) (o : Object) (s : ℕ) → (section_at (placed_by places o) s).header.addralign ≡ (section_at o s).header.addralign
unfolding placed_section
addralign-placed places o s = ⊎_elim
    (λ h. ap (λ (c : Section). c.header.addralign) (section_at-placed places o s h) ∙ align-placed places o s (section_at o s).header)
    (λ h. let count = section_count-placed places o in
    ap (λ (c : Section). c.header.addralign) (section_at-past (placed_by places o) s (omega arith) ∙ sym (section_at-past o s h)))
    (cases_lt s (length o.sections))

phoff-placed : (places : Places) (o : Object) → (placed_by places o).header.phoff ≡ where_any (length o.phdrs) (segments_place places)
unfolding placed_by placed_header derived_header header_of
phoff-placed places o = refl

shoff-placed : (places : Places) (o : Object) → (placed_by places o).header.shoff ≡ where_any (length o.sections) (table_place places (length o.sections))
unfolding placed_by placed_header derived_header header_of
shoff-placed places o = refl

pub class-placed : (places : Places) (o : Object) → (placed_by places o).header.class ≡ o.header.class
unfolding placed_by placed_header derived_header header_of
class-placed places o = refl

pub phdrs-placed : (places : Places) (o : Object) → (placed_by places o).phdrs ≡ o.phdrs
unfolding placed_by
phdrs-placed places o = refl

pub plan-placed : (o : Object) → SamePlan o.layout (placed_by (places_of o) o) o
unfolding section_part
plan-placed o =
    let parts = length-parts_of o in
    record {
      class = class-placed (places_of o) o;
      phdrs = ap length (phdrs-placed (places_of o) o);
      count = section_count-placed (places_of o) o;
      bytes = λ s. ap length (joined-placed (places_of o) o s);
      stype = stype-placed (places_of o) o;
      addralign = addralign-placed (places_of o) o;
      segments = λ lay some.
          phoff-placed (places_of o) o ∙ where_some (length o.phdrs) (segments_place (places_of o)) some ∙ caller_place o 1 (header_part o) lay (omega arith)
          ∙ ap (λ (p : PartAt). p.at) (get_segments o (header_part o));
      table = λ lay some.
          shoff-placed (places_of o) o ∙ where_some (length o.sections) (table_place (places_of o) (length o.sections)) some
          ∙ caller_place o (length o.sections - 1 + 2) (header_part o) lay (omega arith) ∙ ap (λ (p : PartAt). p.at) (get_table o (header_part o));
      offset = λ lay s positive inside filled.
          offset-placed (places_of o) o s inside filled ∙ caller_place o (s + 1) (header_part o) lay (omega arith)
          ∙ ap (λ (p : PartAt). p.at) (get_section o s (header_part o) positive inside) ∙ part_offset o s;
    }
  where
    part_offset : (x : Object) (n : ℕ) → (section_part x n).at ≡ (section_at x n).header.offset
    part_offset x n = refl

-- ---- Placed again

-- an object with the headers and the section bytes of the object whose places are stored
pub record SameFront (t o : Object) : Type 0 where
  pub layout : t.layout ≡ o.layout
  pub header : t.header ≡ (placed_by (places_of o) o).header
  pub pad : t.pad ≡ o.pad
  pub phdrs : t.phdrs ≡ o.phdrs
  pub count : length t.sections ≡ length o.sections
  pub headers : (s : ℕ) → (section_at t s).header ≡ (section_at (placed_by (places_of o) o) s).header
  pub bytes : (s : ℕ) → file_bytes t s ≡ file_bytes o s

-- it has the same parts
pub plan-front : (t o : Object) → SameFront t o → SamePlan o.layout t o
plan-front t o same =
    let q = placed_by (places_of o) o in
    let plan = plan-placed o in
    record {
      class = ap (λ (h : Ehdr). h.class) same.header ∙ plan.class;
      phdrs = ap length same.phdrs;
      count = same.count;
      bytes = λ s. ap length (same.bytes s);
      stype = λ s. ap (λ (h : Shdr). h.stype) (same.headers s) ∙ plan.stype s;
      addralign = λ s. ap (λ (h : Shdr). h.addralign) (same.headers s) ∙ plan.addralign s;
      segments = λ lay some. ap (λ (h : Ehdr). h.phoff) same.header ∙ plan.segments lay some;
      table = λ lay some. ap (λ (h : Ehdr). h.shoff) same.header ∙ plan.table lay some;
      offset = λ lay s positive inside filled. ap (λ (h : Shdr). h.offset) (same.headers s) ∙ plan.offset lay s positive inside filled;
    }

-- without the caller's places each place is the same
ordered_place : (t o : Object) (i : ℕ) → SameFront t o → o.layout ≡ false → get_or (places_of t).at i 0 ≡ get_or (places_of o).at i 0
unfolding places_of parts_places positions standing
ordered_place t o i same plain =
    let plan : SamePlan false t o = subst (λ (b : Bool). SamePlan b t o) plain (plan-front t o same) in
    let parts = in_order_from-same false 0 (parts_of t) (parts_of o) (parts_of-same false t o plan) in
    let left : t.layout ≡ false = same.layout ∙ plain in
    ap (λ (b : Bool). get_or (map (λ p. p.at) (if b then parts_of t else in_order_from 0 (parts_of t))) i 0) left
    ∙ ap (λ (l : List PartAt). get_or (map (λ p. p.at) l) i 0) parts
    ∙ sym (ap (λ (b : Bool). get_or (map (λ p. p.at) (if b then parts_of o else in_order_from 0 (parts_of o))) i 0) plain)

where_twice : (count n : ℕ) → where_any count (where_any count n) ≡ where_any count n
where_twice count n = by_test (count == 0)
  where
    by_test : (b : Bool) → (if b then 0 else (if b then 0 else n)) ≡ (if b then 0 else n)
    by_test true = refl
    by_test false = refl

where_same : (count m n : ℕ) → (0 < count → m ≡ n) → where_any count m ≡ where_any count n
where_same count m n h = ⊎_elim (λ some. ap (where_any count) (h some)) (λ none. let zero_count : (count == 0) ≡ true = eq-eqb count 0 (omega arith) in rw zero_count refl) (cases_lt 0 count)

-- the tables stand where they stood
segments_again : (t o : Object) → SameFront t o → where_any (length o.phdrs) (segments_place (places_of t)) ≡ where_any (length o.phdrs) (segments_place (places_of o))
segments_again t o same = by_test o.layout refl
  where
    by_test : (b : Bool) → o.layout ≡ b → where_any (length o.phdrs) (segments_place (places_of t)) ≡ where_any (length o.phdrs) (segments_place (places_of o))
    by_test false plain = ap (where_any (length o.phdrs)) (ordered_place t o 1 same plain)
    by_test true lay =
        let parts = length-parts_of t in
        let left : get_or (places_of t).at 1 0 ≡ t.header.phoff = caller_place t 1 (header_part t) (same.layout ∙ lay) (omega arith) ∙ ap (λ (p : PartAt). p.at) (get_segments t (header_part t)) in
        let stored : t.header.phoff ≡ where_any (length o.phdrs) (segments_place (places_of o)) = ap (λ (h : Ehdr). h.phoff) same.header ∙ phoff-placed (places_of o) o in
        ap (where_any (length o.phdrs)) (left ∙ stored) ∙ where_twice (length o.phdrs) (segments_place (places_of o))

table_again : (t o : Object) → SameFront t o → where_any (length o.sections) (table_place (places_of t) (length t.sections)) ≡ where_any (length o.sections) (table_place (places_of o) (length o.sections))
table_again t o same = by_test o.layout refl
  where
    by_test : (b : Bool) → o.layout ≡ b → where_any (length o.sections) (table_place (places_of t) (length t.sections)) ≡ where_any (length o.sections) (table_place (places_of o) (length o.sections))
    by_test false plain = ap (where_any (length o.sections)) (ordered_place t o (length t.sections - 1 + 2) same plain ∙ ap (λ (n : ℕ). get_or (places_of o).at (n - 1 + 2) 0) same.count)
    by_test true lay =
        let stored : t.header.shoff ≡ where_any (length o.sections) (table_place (places_of o) (length o.sections)) = ap (λ (h : Ehdr). h.shoff) same.header ∙ shoff-placed (places_of o) o in
        where_same (length o.sections) (table_place (places_of t) (length t.sections)) t.header.shoff (λ some.
        let parts = length-parts_of t in
        let count = same.count in
        caller_place t (length t.sections - 1 + 2) (header_part t) (same.layout ∙ lay) (omega arith) ∙ ap (λ (p : PartAt). p.at) (get_table t (header_part t)))
        ∙ ap (where_any (length o.sections)) stored ∙ where_twice (length o.sections) (table_place (places_of o) (length o.sections))

-- derived values that are derived again
pub derived_again : (h : Ehdr) (a b c d : ℕ) → where_any h.phnum c ≡ where_any h.phnum a → where_any h.shnum d ≡ where_any h.shnum b → derived_header c d (derived_header a b h) ≡ derived_header a b h
unfolding derived_header
derived_again h a b c d e f = let index = where_twice h.shnum h.shstrndx in cc

-- an object's header with its true counts, where the header has them
header_of-same : (t o : Object) → SameFront t o → header_of t ≡ (placed_by (places_of o) o).header
unfolding header_of placed_by placed_header derived_header
header_of-same t o same =
    let header = same.header in let phdrs = same.phdrs in let count = same.count in cc

pub header_again : (t o : Object) → SameFront t o → placed_header (places_of t) t ≡ (placed_by (places_of o) o).header
unfolding placed_header placed_by header_of
header_again t o same =
    ap (derived_header (segments_place (places_of t)) (table_place (places_of t) (length t.sections))) (header_of-same t o same)
    ∙ derived_again (header_of o) (segments_place (places_of o)) (table_place (places_of o) (length o.sections)) (segments_place (places_of t)) (table_place (places_of t) (length t.sections)) (segments_again t o same) (table_again t o same)

-- a section header that is placed again
shdr_again : (first empty filled : Bool) (h : Shdr) (before after : Ehdr) (a b m n : ℕ) → after ≡ before → n ≡ m → (first ≡ false → empty ≡ false → b ≡ a) → (let x = (if first then numbered_shdr before h else (if empty then h else (record h { offset = a; size = if filled then m else h.size }))) in (if first then numbered_shdr after x else (if empty then x else (record x { offset = b; size = if filled then n else x.size }))) ≡ x)
unfolding numbered_shdr
shdr_again true empty filled h before after a b m n e f g =
    ap (λ (y : Ehdr). numbered_shdr y (numbered_shdr before h)) e
shdr_again false true filled h before after a b m n e f g = refl
shdr_again false false true h before after a b m n e f g = let place = g refl refl in cc
shdr_again false false false h before after a b m n e f g = let place = g refl refl in cc

offset_of : (first empty filled : Bool) (h : Shdr) (before : Ehdr) (a m : ℕ) → first ≡ false → empty ≡ false → (if first then numbered_shdr before h else (if empty then h else (record h { offset = a; size = if filled then m else h.size }))).offset ≡ a
offset_of false false filled h before a m e f = refl
offset_of true empty filled h before a m e f = cc
offset_of false true filled h before a m e f = cc

-- by the type of the header before
retyped : (places : Places) (t : Object) (s : ℕ) (x : Shdr) (stype : ℕ) → x.stype ≡ stype → placed_shdr places t s x ≡ (if s == 0 then numbered_shdr (placed_header places t) x else (if stype == 0 then x else (record x { offset = section_place places s; size = if not (stype == 0 || stype == 8) then length (file_bytes t s) else x.size })))
unfolding placed_shdr
retyped places t s x stype e = ap (λ (k : ℕ). if s == 0 then numbered_shdr (placed_header places t) x else (if k == 0 then x else (record x { offset = section_place places s; size = if not (k == 0 || k == 8) then length (file_bytes t s) else x.size }))) e

caller_offset : (t : Object) (s : ℕ) → (section_part t s).at ≡ (section_at t s).header.offset
unfolding section_part
caller_offset t s = refl

placed_section_offset : (places : Places) (o : Object) (s : ℕ) (c : Section) → (placed_section places o s c).header.offset ≡ (placed_shdr places o s c.header).offset
unfolding placed_section
placed_section_offset places o s c = refl

pub section_again_at : (t o : Object) (s : ℕ) → SameFront t o → s < length o.sections → placed_shdr (places_of t) t s (placed_shdr (places_of o) o s (section_at o s).header) ≡ placed_shdr (places_of o) o s (section_at o s).header
unfolding placed_shdr placed_by
section_again_at t o s same inside =
    let h = (section_at o s).header in
    let x = placed_shdr (places_of o) o s (section_at o s).header in
    let type_same = type-placed (places_of o) o s (section_at o s).header in
    retyped (places_of t) t s (placed_shdr (places_of o) o s (section_at o s).header) (section_at o s).header.stype type_same
    ∙ shdr_again (s == 0) ((section_at o s).header.stype == 0) (not ((section_at o s).header.stype == 0 || (section_at o s).header.stype == 8)) (section_at o s).header (placed_header (places_of o) o) (placed_header (places_of t) t) (section_place (places_of o) s) (section_place (places_of t) s) (length (file_bytes o s)) (length (file_bytes t s)) (header_again t o same) (ap length (same.bytes s)) (place o.layout refl)
  where
    place : (b : Bool) → o.layout ≡ b → (s == 0) ≡ false → ((section_at o s).header.stype == 0) ≡ false → section_place (places_of t) s ≡ section_place (places_of o) s
    place false plain first full = ordered_place t o (s + 1) same plain
    place true lay first full =
        let positive : 0 < s = ⊎_elim (λ h. h) (λ h. let none : (s == 0) ≡ true = eq-eqb s 0 (omega arith) in absurd (let clash : true ≡ false = sym none ∙ first in cc)) (cases_lt 0 s) in
        let parts = length-parts_of t in
        let count = same.count in
        caller_place t (s + 1) (header_part t) (same.layout ∙ lay) (omega arith)
        ∙ ap (λ (p : PartAt). p.at) (get_section t s (header_part t) positive (omega arith))
        ∙ caller_offset t s
        ∙ ap (λ (c : Shdr). c.offset) (same.headers s)
        ∙ ap (λ (c : Section). c.header.offset) (section_at-placed (places_of o) o s inside)
        ∙ placed_section_offset (places_of o) o s (section_at o s)
        ∙ offset_of (s == 0) ((section_at o s).header.stype == 0) (not ((section_at o s).header.stype == 0 || (section_at o s).header.stype == 8)) (section_at o s).header (placed_header (places_of o) o) (section_place (places_of o) s) (length (file_bytes o s)) first full

pub placed_section_header : (places : Places) (o : Object) (s : ℕ) (c : Section) → (placed_section places o s c).header ≡ placed_shdr places o s c.header
unfolding placed_section
placed_section_header places o s c = refl

pub headers_again : (t o : Object) (s : ℕ) → SameFront t o → (section_at (placed_by (places_of t) t) s).header ≡ (section_at (placed_by (places_of o) o) s).header
headers_again t o s same = ⊎_elim
    (λ h.
    let count = same.count in
    ap (λ (c : Section). c.header) (section_at-placed (places_of t) t s (omega arith))
    ∙ placed_section_header (places_of t) t s (section_at t s)
    ∙ ap (placed_shdr (places_of t) t s) (same.headers s ∙ ap (λ (c : Section). c.header) (section_at-placed (places_of o) o s h) ∙ placed_section_header (places_of o) o s (section_at o s))
    ∙ section_again_at t o s same h
    ∙ sym (ap (λ (c : Section). c.header) (section_at-placed (places_of o) o s h) ∙ placed_section_header (places_of o) o s (section_at o s)))
    (λ h.
    let count = same.count in
    let left = section_count-placed (places_of t) t in
    let right = section_count-placed (places_of o) o in
    ap (λ (c : Section). c.header) (section_at-past (placed_by (places_of t) t) s (omega arith) ∙ sym (section_at-past (placed_by (places_of o) o) s (omega arith))))
    (cases_lt s (length o.sections))

-- ---- The same image

map_same : {X Y : Type 0} (f g : X → Y) (l : List X) → ((x : X) → f x ≡ g x) → map f l ≡ map g l
map_same f g [] h = refl
map_same f g (x ∷ l) h = let here = h x in let rest = map_same f g l h in cc

-- the headers of sections with the same ones
headers_same : (l m : List Section) (d : Section) → length l ≡ length m → ((i : ℕ) → (get_or l i d).header ≡ (get_or m i d).header) → map (λ c. c.header) l ≡ map (λ c. c.header) m
headers_same [] [] d len each = refl
headers_same [] (c ∷ m) d len each = absurd (omega arith)
headers_same (b ∷ l) [] d len each = absurd (omega arith)
headers_same (b ∷ l) (c ∷ m) d len each =
    let here = each 0 in let rest = headers_same l m d (omega arith) (λ i. each (suc i)) in cc

header_placed : (places : Places) (o : Object) → (placed_by places o).header ≡ placed_header places o
unfolding placed_by
header_placed places o = refl

pad_placed : (places : Places) (o : Object) → (placed_by places o).pad ≡ o.pad
unfolding placed_by
pad_placed places o = refl

section_headers : (t o : Object) (s : ℕ) → SameFront t o → (get_or (placed_by (places_of t) t).sections s absent_section).header ≡ (get_or (placed_by (places_of o) o).sections s absent_section).header
unfolding section_at
section_headers t o s same = headers_again t o s same

pub front_again : (t o : Object) → SameFront t o → front_blocks (placed_by (places_of t) t) ≡ front_blocks (placed_by (places_of o) o)
unfolding front_blocks
front_again t o same =
    let left = section_count-placed (places_of t) t in
    let right = section_count-placed (places_of o) o in
    let count = same.count in
    let header : (placed_by (places_of t) t).header ≡ (placed_by (places_of o) o).header = header_placed (places_of t) t ∙ header_again t o same in
    let pad : (placed_by (places_of t) t).pad ≡ (placed_by (places_of o) o).pad = pad_placed (places_of t) t ∙ same.pad ∙ sym (pad_placed (places_of o) o) in
    let phdrs : (placed_by (places_of t) t).phdrs ≡ (placed_by (places_of o) o).phdrs = phdrs-placed (places_of t) t ∙ same.phdrs ∙ sym (phdrs-placed (places_of o) o) in
    let shdrs = headers_same (placed_by (places_of t) t).sections (placed_by (places_of o) o).sections absent_section (omega arith) (λ s. section_headers t o s same) in
    cc

section_again : (t o : Object) (s : ℕ) → SameFront t o → section_block (placed_by (places_of t) t) s ≡ section_block (placed_by (places_of o) o) s
unfolding section_block
section_again t o s same =
    let header = headers_again t o s same in
    let bytes : file_bytes (placed_by (places_of t) t) s ≡ file_bytes (placed_by (places_of o) o) s = joined-placed (places_of t) t s ∙ same.bytes s ∙ sym (joined-placed (places_of o) o s) in
    cc

pub part_blocks-again : (t o : Object) → SameFront t o → part_blocks (placed_by (places_of t) t) ≡ part_blocks (placed_by (places_of o) o)
unfolding part_blocks
part_blocks-again t o same =
    let front = front_again t o same in
    let left = section_count-placed (places_of t) t in
    let right = section_count-placed (places_of o) o in
    let count = same.count in
    let sections = map_same (section_block (placed_by (places_of t) t)) (section_block (placed_by (places_of o) o)) (section_numbers (placed_by (places_of t) t)) (λ s. section_again t o s same) in
    let numbers : section_numbers (placed_by (places_of t) t) ≡ section_numbers (placed_by (places_of o) o) = ap (λ (n : ℕ). range_with_len 1 (n - 1)) (left ∙ count ∙ sym right) in
    let moved = ap (map (section_block (placed_by (places_of o) o))) numbers in
    cc

-- what an image of the same parts needs besides: marks, fill byte, and the base where no part stands
pub record SameGround (t o : Object) : Type 0 where
  pub dirty : is_dirty t ≡ true
  pub other_dirty : is_dirty o ≡ true
  pub base : o.layout ≡ true → length t.base ≡ length o.base
  pub bytes : (k : ℕ) → k < image_length o → is_covered (part_blocks (placed o)) k ≡ false → uncovered_byte t k ≡ uncovered_byte o k

pub image_length-again : (t o : Object) → SameFront t o → SameGround t o → image_length t ≡ image_length o
unfolding image_length places_of parts_places
image_length-again t o same basis =
    let parts = parts_of-same o.layout t o (plan-front t o same) in
    when_dirty (is_dirty t) (length_of (parts_of t) t.layout (length t.base)) (length t.base) basis.dirty
    ∙ ap (λ (b : Bool). length_of (parts_of t) b (length t.base)) same.layout
    ∙ length_of-base o.layout (parts_of t) (length t.base) (length o.base) basis.base
    ∙ length_of-same o.layout (parts_of t) (parts_of o) (length o.base) parts
    ∙ sym (when_dirty (is_dirty o) (length_of (parts_of o) o.layout (length o.base)) (length o.base) basis.other_dirty)
  where
    when_dirty : (b : Bool) (m n : ℕ) → b ≡ true → (if b then m else n) ≡ m
    when_dirty true m n e = refl
    when_dirty false m n e = cc

pub image-again : (t o : Object) → SameFront t o → SameGround t o → image t ≡ image o
image-again t o same basis =
    let left = image-dirty t basis.dirty in
    let right = image-dirty o basis.other_dirty in
    let len = image_length-again t o same basis in
    let blocks : part_blocks (placed t) ≡ part_blocks (placed o) =
    ap part_blocks (placed-dirty t basis.dirty) ∙ part_blocks-again t o same ∙ sym (ap part_blocks (placed-dirty o basis.other_dirty)) in
    left
    ∙ ap (λ (bs : List Block). spread (image_length t) (uncovered_byte t) bs) blocks
    ∙ ap (λ (n : ℕ). spread n (uncovered_byte t) (part_blocks (placed o))) len
    ∙ spread-same (image_length o) (uncovered_byte t) (uncovered_byte o) (part_blocks (placed o)) basis.bytes
    ∙ sym right

pub placing-again : (t o : Object) → SameFront t o → (o.layout ≡ true → length t.base ≡ length o.base) → placing_refusal t ≡ placing_refusal o
unfolding placing_refusal
placing-again t o same base =
    let plan = plan-front t o same in
    let parts = parts_of-same o.layout t o plan in
    ap (λ (b : Bool). refusal_of (parts_of t) b (length t.base) t.header.class) same.layout
    ∙ ap (λ (c : Class). refusal_of (parts_of t) o.layout (length t.base) c) plan.class
    ∙ refusal_of-base o.layout (parts_of t) (length t.base) (length o.base) o.header.class base
    ∙ refusal_of-same o.layout (parts_of t) (parts_of o) (length o.base) o.header.class parts
