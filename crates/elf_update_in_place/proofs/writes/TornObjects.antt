-- The object that an update in place writes: places are stored, and what moves is marked.
use Rattle.std.proofs.Common.{◌≡◌, ℕ, ◌+◌, ◌<◌, Bool, true, false, not, ◌&&◌, ◌||◌, List, [], ◌∷◌, length, map, get_or, Some, None, refl, sym, ap, ◌∙◌, arith, ⊎_elim}
use Rattle.std.specs.Prelude.{if◌then◌else◌, ◌==◌}
use Rattle.std.specs.List.{enumerate_from, list_any}
use Rattle.std.proofs.lemmas.Bool.{cases_lt}
use Rattle.std.proofs.lemmas.List.{length-map, get_or-map}
use Rattle.std.proofs.lemmas.List.FromFn.{length-enumerate_from, get_or-enumerate_from}
use Rattle.elf_types.specs.declared.records.Class.{Class}
use Rattle.elf_types.specs.declared.records.Order.{Order}
use Rattle.elf_types.specs.declared.records.Ehdr.{Ehdr}
use Rattle.elf_types.specs.declared.records.Shdr.{Shdr}
use Rattle.elf_types.specs.declared.records.Part.{Part}
use Rattle.elf_types.specs.declared.records.Part.TheVariants as part
use Rattle.elf_layout.specs.declared.parts.Places.{Places}
use Rattle.elf_update_to.specs.elf_object.Object.{Object, Section, Piece, WrittenFront, absent_section, section_at, has_file_bytes, is_dirty}
use Rattle.elf_update_to.specs.elf_object.Joined.{aligned_pieces, piece_bytes}
use Rattle.elf_xlate.specs.Translation.{encoded}
use Rattle.elf_update_to.specs.elf_object.Layout.{places_of, placed_section, placed_by, placed}
use Rattle.elf_update_to.specs.elf_object.Image.{front_blocks, kept_base}
use Rattle.elf_update_to.specs.elf_object.Changed.{is_moved, marked_piece, torn_section, torn_over, torn}
use Rattle.elf_update_to.proofs.elf_object.ChangedLaws.{torn-dirty}
use Rattle.elf_update_to.proofs.law_object.ImageLaws.{placed-dirty, section_at-placed}
use Rattle.elf_update_to.proofs.law_object.StandLaws.{section_count-placed, section_at-past}
use Rattle.elf_update_to.proofs.law_object.AgainLaws.{front_again}
use Rattle.elf_update_to.proofs.law_object.TornLaws.{torn-is, torn_front}
use Rattle.elf_update_to.specs.law_object.Writing.Based.{some_unmarked}
use Rattle.elf_update_to.specs.Descriptors.{stored_pieces}
use Rattle.elf_update_in_place.proofs.moves.TornLaws.{over_placed}

-- ---- Its base

over_rebased : (moved : ℕ → Bool) (a b : List ℕ) (q : Object)
    → ◌≡◌ {A = Object} (record (torn_over moved a q) { base = b }) (torn_over moved b q)
unfolding torn_over
over_rebased moved a b q = refl

over_base : (moved : ℕ → Bool) (a : List ℕ) (q : Object) → (torn_over moved a q).base ≡ a
unfolding torn_over
over_base moved a q = refl

pub torn_rebased : (o : Object) (a b : List ℕ) → is_dirty o ≡ true
    → ◌≡◌ {A = Object} (record (torn o a) { base = b }) (torn o b)
torn_rebased o a b dirty =
    ap (λ (q : Object). record q { base = b }) (torn-dirty o a dirty)
    ∙ over_rebased (is_moved o) a b (placed o) ∙ sym (torn-dirty o b dirty)

pub torn_base : (o : Object) (a : List ℕ) → is_dirty o ≡ true → (torn o a).base ≡ a
torn_base o a dirty =
    ap (λ (q : Object). q.base) (torn-dirty o a dirty) ∙ over_base (is_moved o) a (placed o)

-- ---- Its sections

module _ (moved : ℕ → Bool) (bytes : List ℕ) (q : Object) where
  count_over : length (torn_over moved bytes q).sections ≡ length q.sections
  unfolding torn_over
  count_over =
      length-map (enumerate_from 0 q.sections) (λ row. torn_section (moved row.0) row.1)
      ∙ length-enumerate_from 0 q.sections

  section_over : (s : ℕ) → s < length q.sections
      → section_at (torn_over moved bytes q) s ≡ torn_section (moved s) (section_at q s)
  unfolding torn_over section_at
  section_over s h =
      let count = length-enumerate_from 0 q.sections in
      let row : get_or (enumerate_from 0 q.sections) s (0, absent_section)
      ≡ (0 + s, get_or q.sections s absent_section) =
      get_or-enumerate_from 0 q.sections s (0, absent_section) h in
      let number : 0 + s ≡ s = omega arith in
      get_or-map (λ (r : ℕ × Section). torn_section (moved r.0) r.1) (enumerate_from 0 q.sections) s
      (0, absent_section) absent_section (omega (arith, count, h))
      ∙ ap (λ (r : ℕ × Section). torn_section (moved r.0) r.1) row
      ∙ ap (λ (k : ℕ). torn_section (moved k) (get_or q.sections s absent_section)) number

  -- what marks do not change
  facts_over : {A : Type 0} (f : Section → A) (s : ℕ)
      → ((b : Bool) (c : Section) → f (torn_section b c) ≡ f c)
      → f (section_at (torn_over moved bytes q) s) ≡ f (section_at q s)
  facts_over f s same = ⊎_elim
      (λ h. ap f (section_over s h) ∙ same (moved s) (section_at q s))
      (λ h.
      let count = count_over in
      ap f (section_at-past (torn_over moved bytes q) s (omega (arith, count, h))
      ∙ sym (section_at-past q s h)))
      (cases_lt s (length q.sections))

header_marked : (b : Bool) (c : Section) → (torn_section b c).header ≡ c.header
unfolding torn_section
header_marked true c = refl
header_marked false c = refl

home_marked : (b : Bool) (c : Section) → (torn_section b c).home ≡ c.home
unfolding torn_section
home_marked true c = refl
home_marked false c = refl

map_map_same : {X Y : Type 0} (f : X → Y) (g : X → X) (l : List X) → ((x : X) → f (g x) ≡ f x)
    → map f (map g l) ≡ map f l
map_map_same f g [] same = refl
map_map_same f g (x ∷ l) same = let here = same x in let rest = map_map_same f g l same in cc

aligned_marked : (class : Class) (order : Order) (b : Bool) (c : Section)
    → aligned_pieces class order (torn_section b c) ≡ aligned_pieces class order c
unfolding torn_section aligned_pieces piece_bytes
aligned_marked class order true c =
    map_map_same (λ p. (p.align, elim (p.own) [ None ↦ c.raw | Some items ↦ encoded class order items ]))
    marked_piece c.pieces (λ p. refl)
aligned_marked class order false c = refl

filled_marked : (s : ℕ) (b : Bool) (c : Section)
    → has_file_bytes s (torn_section b c) ≡ has_file_bytes s c
unfolding has_file_bytes
filled_marked s b c =
    ap (λ (h : Shdr). not (s == 0) && not (h.stype == 0 || h.stype == 8)) (header_marked b c)

all_marked : (l : List Piece) → list_any (λ p. not p.marked) (map marked_piece l) ≡ false
all_marked [] = refl
all_marked (p ∷ l) = all_marked l

marked_yes : (c : Section)
    → list_any (λ p. not p.marked) (torn_section true c).pieces ≡ false
unfolding torn_section
marked_yes c = all_marked c.pieces

-- a section that moves has a mark on each piece
pub moved_marked : (o : Object) (bytes : List ℕ) (s : ℕ) → is_dirty o ≡ true → is_moved o s ≡ true
    → some_unmarked (section_at (torn o bytes) s) ≡ false
unfolding some_unmarked
moved_marked o bytes s dirty moves = ⊎_elim
    (λ h.
    ap (λ (q : Object). list_any (λ p. not p.marked) (section_at q s).pieces)
    (torn-dirty o bytes dirty)
    ∙ ap (λ (c : Section). list_any (λ p. not p.marked) c.pieces)
    (section_over (is_moved o) bytes (placed o) s h)
    ∙ marked_if (is_moved o s) (section_at (placed o) s) moves)
    (λ h.
    let count = count_over (is_moved o) bytes (placed o) in
    ap (λ (q : Object). list_any (λ p. not p.marked) (section_at q s).pieces)
    (torn-dirty o bytes dirty)
    ∙ ap (λ (c : Section). list_any (λ p. not p.marked) c.pieces)
    (section_at-past (torn_over (is_moved o) bytes (placed o)) s (omega (arith, count, h))))
    (cases_lt s (length (placed o).sections))
  where
    marked_if : (b : Bool) (c : Section) → b ≡ true
        → list_any (λ p. not p.marked) (torn_section b c).pieces ≡ false
    marked_if true c e = marked_yes c
    marked_if false c e = cc

home_by : (places : Places) (o : Object) (s : ℕ)
    → (section_at (placed_by places o) s).home ≡ (section_at o s).home
unfolding placed_section
home_by places o s = ⊎_elim
    (λ h. ap (λ (c : Section). c.home) (section_at-placed places o s h))
    (λ h.
    let count = section_count-placed places o in
    ap (λ (c : Section). c.home) (section_at-past (placed_by places o) s (omega (arith, count, h))
    ∙ sym (section_at-past o s h)))
    (cases_lt s (length o.sections))

pub home_placed : (o : Object) (s : ℕ) → is_dirty o ≡ true
    → (section_at (placed o) s).home ≡ (section_at o s).home
home_placed o s dirty =
    ap (λ (q : Object). (section_at q s).home) (placed-dirty o dirty) ∙ home_by (places_of o) o s

pub home_torn : (o : Object) (bytes : List ℕ) (s : ℕ) → is_dirty o ≡ true
    → (section_at (torn o bytes) s).home ≡ (section_at o s).home
home_torn o bytes s dirty =
    ap (λ (q : Object). (section_at q s).home) (torn-dirty o bytes dirty)
    ∙ facts_over (is_moved o) bytes (placed o) (λ c. c.home) s home_marked
    ∙ home_placed o s dirty

-- ---- The bytes of its parts

front_over : (o : Object) (bytes : List ℕ)
    → front_blocks (torn_over (is_moved o) bytes (placed_by (places_of o) o))
    ≡ front_blocks (placed_by (places_of o) o)
front_over o bytes =
    sym (ap front_blocks (over_placed o bytes))
    ∙ front_again (torn_over (is_moved o) bytes (placed_by (places_of o) o)) o
    (torn_front o (is_moved o) bytes)

section_pieces : Class → Order → ℕ → Section → List (ℕ × List ℕ)
section_pieces class order s c = if has_file_bytes s c then aligned_pieces class order c else []

pieces_marked : (class : Class) (order : Order) (s : ℕ) (b : Bool) (c : Section)
    → section_pieces class order s (torn_section b c) ≡ section_pieces class order s c
unfolding section_pieces
pieces_marked class order s b c =
    ap (λ (t : Bool). if t then aligned_pieces class order (torn_section b c) else [])
    (filled_marked s b c)
    ∙ ap (λ (l : List (ℕ × List ℕ)). if has_file_bytes s c then l else [])
    (aligned_marked class order b c)

class_over : (moved : ℕ → Bool) (bytes : List ℕ) (q : Object)
    → (torn_over moved bytes q).header ≡ q.header
unfolding torn_over
class_over moved bytes q = refl

section_over_pieces : (moved : ℕ → Bool) (bytes : List ℕ) (q : Object) (s : ℕ)
    → stored_pieces (torn_over moved bytes q) (part.Section s) ≡ stored_pieces q (part.Section s)
unfolding section_pieces
section_over_pieces moved bytes q s =
    ap (λ (h : Ehdr). section_pieces h.class h.order s (section_at (torn_over moved bytes q) s))
    (class_over moved bytes q)
    ∙ facts_over moved bytes q (section_pieces q.header.class q.header.order s) s
    (pieces_marked q.header.class q.header.order s)

over_pieces : (o : Object) (bytes : List ℕ) (p : Part)
    → stored_pieces (torn_over (is_moved o) bytes (placed_by (places_of o) o)) p
    ≡ stored_pieces (placed_by (places_of o) o) p
over_pieces o bytes part.Header =
    ap (λ (f : WrittenFront). (1, f.header.bytes) ∷ []) (front_over o bytes)
over_pieces o bytes part.Segments =
    ap (λ (f : WrittenFront). (1, f.segments.bytes) ∷ []) (front_over o bytes)
over_pieces o bytes part.Table =
    ap (λ (f : WrittenFront). (1, f.table.bytes) ∷ []) (front_over o bytes)
over_pieces o bytes (part.Section s) =
    section_over_pieces (is_moved o) bytes (placed_by (places_of o) o) s
over_pieces o bytes part.Object = refl
over_pieces o bytes (part.Piece s p) = refl

pub torn_pieces : (o : Object) (bytes : List ℕ) (p : Part) → is_dirty o ≡ true
    → stored_pieces (torn o bytes) p ≡ stored_pieces (placed o) p
torn_pieces o bytes p dirty =
    ap (λ (q : Object). stored_pieces q p) (torn-is o bytes dirty)
    ∙ over_pieces o bytes p
    ∙ sym (ap (λ (q : Object). stored_pieces q p) (placed-dirty o dirty))

-- ---- What counts besides

over_kept : (moved : ℕ → Bool) (places : Places) (o : Object)
    → kept_base (torn_over moved o.base (placed_by places o)) ≡ kept_base o
unfolding kept_base torn_over placed_by
over_kept moved places o = refl

over_fill : (moved : ℕ → Bool) (bytes : List ℕ) (places : Places) (o : Object)
    → (torn_over moved bytes (placed_by places o)).fill ≡ o.fill
unfolding torn_over placed_by
over_fill moved bytes places o = refl

over_mark : (moved : ℕ → Bool) (bytes : List ℕ) (q : Object)
    → (torn_over moved bytes q).marked ≡ true
unfolding torn_over
over_mark moved bytes q = refl

pub torn_kept : (o : Object) → is_dirty o ≡ true → kept_base (torn o o.base) ≡ kept_base o
torn_kept o dirty =
    ap kept_base (torn-is o o.base dirty) ∙ over_kept (is_moved o) (places_of o) o

pub torn_fill : (o : Object) (bytes : List ℕ) → is_dirty o ≡ true → (torn o bytes).fill ≡ o.fill
torn_fill o bytes dirty =
    ap (λ (q : Object). q.fill) (torn-is o bytes dirty)
    ∙ over_fill (is_moved o) bytes (places_of o) o

pub torn_marked : (o : Object) (bytes : List ℕ) → is_dirty o ≡ true → (torn o bytes).marked ≡ true
torn_marked o bytes dirty =
    ap (λ (q : Object). q.marked) (torn-is o bytes dirty)
    ∙ over_mark (is_moved o) bytes (placed_by (places_of o) o)

fill_by : (places : Places) (o : Object) → (placed_by places o).fill ≡ o.fill
unfolding placed_by
fill_by places o = refl

pub placed_fill : (o : Object) → is_dirty o ≡ true → (placed o).fill ≡ o.fill
placed_fill o dirty = ap (λ (q : Object). q.fill) (placed-dirty o dirty) ∙ fill_by (places_of o) o

pub torn_count : (o : Object) (bytes : List ℕ) → is_dirty o ≡ true
    → length (torn o bytes).sections ≡ length o.sections
torn_count o bytes dirty =
    ap (λ (q : Object). length q.sections) (torn-is o bytes dirty)
    ∙ count_over (is_moved o) bytes (placed_by (places_of o) o)
    ∙ section_count-placed (places_of o) o
