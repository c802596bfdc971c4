-- Marks that are set one after the other, and what they make of an object whose places are stored.
use Rattle.std.proofs.Common.{◌≡◌, ℕ, zero, suc, ◌+◌, ◌<◌, Bool, true, false, List, [], ◌∷◌, ◌++◌, length, set, get_or, None, refl, sym, ap, ◌∙◌, arith}
use Rattle.std.specs.Prelude.{map, cond, flat_map}
use Rattle.std.specs.List.{range_with_len, filter}
use Rattle.std.proofs.lemmas.Bool.{lt-leb}
use Rattle.std.proofs.lemmas.List.{length-set, append-nil}
use Rattle.std.proofs.lemmas.List.Concat.{flat_map-append}
use Rattle.std.proofs.lemmas.List.Elements.{filter-append}
use Rattle.std.proofs.lemmas.List.FromFn.{get_or-map-range_with_len, map-range_with_len_more}
use Rattle.elf_types.specs.declared.records.Part.{Part}
use Rattle.elf_types.specs.declared.records.Part.TheVariants as part
use Rattle.elf_types.specs.declared.records.TheConstants.{DIRTY}
use Rattle.elf_object.specs.Answers.{piece_refusal, piece_count}
use Rattle.elf_object.specs.Object.{Object, Section, absent_section, section_at, piece_at, is_dirty}
use Rattle.elf_object.specs.Steps.{with_section, with_piece_at, with_mark, with_flags}
use Rattle.elf_object.specs.Layout.{places_of, placed}
use Rattle.elf_object.specs.Changed.{is_moved, torn}
use Rattle.law_object.proofs.ImageLaws.{placed-dirty}
use Rattle.law_object.proofs.StandLaws.{section_count-placed}
use Rattle.elf_update_to.specs.elf_descriptor.State.{State}
use Rattle.elf_update_to.specs.law_object.Writing.Marks.{marked_all, pieces_of, moved_pieces}
use Rattle.elf_update_to.proofs.law_object.writing.GapLaws.{split_range, filter_range}
use Rattle.elf_update_to.proofs.law_object.writing.MarkLaws.{marks_are_torn}
use Rattle.elf_update_in_place.specs.Rooms.{tells}
use Rattle.elf_update_in_place.specs.Loads.{told_sections}
use Rattle.elf_update_in_place.specs.Marks.{told_parts}

-- ---- One mark

pub mark_alone : (o : Object) (p : Part) → with_flags o p true DIRTY ≡ with_mark o p
unfolding with_flags
mark_alone o part.Object = refl
mark_alone o part.Table = refl
mark_alone o part.Header = refl
mark_alone o part.Segments = refl
mark_alone o (part.Section s) = refl
mark_alone o (part.Piece s p) = refl

-- as many sections, each of as many pieces
pub record SameShape (q o : Object) : Type 0 where
  pub count : length q.sections ≡ length o.sections
  pub pieces : (k : ℕ) → length (section_at q k).pieces ≡ length (section_at o k).pieces

same_pieces : (l : List Section) (s : ℕ) (c : Section) (k : ℕ)
    → length c.pieces ≡ length (get_or l s absent_section).pieces
    → length (get_or (set l s c) k absent_section).pieces
    ≡ length (get_or l k absent_section).pieces
same_pieces [] s c k same = refl
same_pieces (x ∷ l) zero c zero same = same
same_pieces (x ∷ l) zero c (suc k) same = refl
same_pieces (x ∷ l) (suc s) c zero same = refl
same_pieces (x ∷ l) (suc s) c (suc k) same = same_pieces l s c k same

shape_section : (o : Object) (s : ℕ) (c : Section)
    → length c.pieces ≡ length (section_at o s).pieces → SameShape (with_section o s c) o
unfolding with_section section_at
shape_section o s c same = record {
  count = length-set o.sections s c;
  pieces = λ k. same_pieces o.sections s c k same;
}

shape_mark : (o : Object) (p : Part) → SameShape (with_mark o p) o
unfolding with_mark with_piece_at section_at
shape_mark o part.Object = record { count = refl; pieces = λ k. refl }
shape_mark o part.Table = record { count = refl; pieces = λ k. refl }
shape_mark o part.Header = record { count = refl; pieces = λ k. refl }
shape_mark o part.Segments = record { count = refl; pieces = λ k. refl }
shape_mark o (part.Section s) =
    shape_section o s (record (section_at o s) { marked = true }) refl
shape_mark o (part.Piece s p) =
    shape_section o s
    (record (section_at o s) {
      pieces = set (section_at o s).pieces p (record (piece_at o s p) { marked = true });
    })
    (length-set (section_at o s).pieces p (record (piece_at o s p) { marked = true }))

pub shape_all : (o : Object) (ps : List Part) → SameShape (marked_all o ps) o
shape_all o [] = record { count = refl; pieces = λ k. refl }
shape_all o (p ∷ ps) =
    let rest = shape_all (with_mark o p) ps in
    let here = shape_mark o p in
    record { count = rest.count ∙ here.count; pieces = λ k. rest.pieces k ∙ here.pieces k }

-- ---- One after the other

pub marked_append : (o : Object) (ps qs : List Part)
    → marked_all o (ps ++ qs) ≡ marked_all (marked_all o ps) qs
marked_append o [] qs = refl
marked_append o (p ∷ ps) qs = marked_append (with_mark o p) ps qs

-- the pieces before a number
abbrev pub pieces_before : ℕ → ℕ → List Part
pieces_before s p = map (part.Piece s) (range_with_len 0 p)

pub piece_there : (o q : Object) (s p : ℕ) → q ≡ marked_all o (pieces_before s p)
    → s < length o.sections → p < piece_count o s → piece_refusal q s p ≡ None
unfolding piece_refusal piece_count
piece_there o q s p is there below =
    let shape = shape_all o (pieces_before s p) in
    let count : length q.sections ≡ length o.sections =
    ap (λ (x : Object). length x.sections) is ∙ shape.count in
    let pieces : length (section_at q s).pieces ≡ length (section_at o s).pieces =
    ap (λ (x : Object). length (section_at x s).pieces) is ∙ shape.pieces s in
    rw (
      lt-leb (length q.sections) s (omega (arith, count, there)),
      lt-leb (length (section_at q s).pieces) p (omega (arith, pieces, below)),
    ) refl

pub pieces_more : (o q r : Object) (s p : ℕ) → q ≡ marked_all o (pieces_before s p)
    → r ≡ with_mark q (part.Piece s p) → r ≡ marked_all o (pieces_before s (p + 1))
pieces_more o q r s p is more =
    let at : 0 + p ≡ p = omega arith in
    more
    ∙ ap (λ (x : Object). with_mark x (part.Piece s p)) is
    ∙ sym (marked_append o (pieces_before s p) (part.Piece s p ∷ []))
    ∙ ap (marked_all o) (sym (map-range_with_len_more (part.Piece s) 0 p p at))

pub pieces_all : (o q : Object) (s p : ℕ) → q ≡ marked_all o (pieces_before s p)
    → p ≡ piece_count o s → q ≡ marked_all o (pieces_of o s)
unfolding pieces_of piece_count
pieces_all o q s p is all =
    is ∙ ap (λ (k : ℕ). marked_all o (map (part.Piece s) (range_with_len 0 k))) all

-- the object and the pieces of the sections before a number
abbrev pub parts_before : Object → List Bool → ℕ → List Part
parts_before o moves s = part.Object ∷ flat_map (pieces_of o) (told_sections moves s)

pub same_count : (o q : Object) (moves : List Bool) (s : ℕ)
    → q ≡ marked_all o (parts_before o moves s) → length q.sections ≡ length o.sections
same_count o q moves s is =
    ap (λ (x : Object). length x.sections) is ∙ (shape_all o (parts_before o moves s)).count

next_sections : (moves : List Bool) (s : ℕ) (b : Bool) → tells moves s ≡ b
    → told_sections moves (s + 1) ≡ told_sections moves s ++ cond b (s ∷ []) []
next_sections moves s b e =
    let at : 0 + s ≡ s = omega arith in
    ap (filter (tells moves)) (split_range 0 s 1)
    ∙ filter-append (tells moves) (range_with_len 0 s) (range_with_len (0 + s) 1)
    ∙ ap (λ (k : ℕ). told_sections moves s ++ filter (tells moves) (range_with_len k 1)) at
    ∙ ap (λ (t : Bool). told_sections moves s ++ cond t (s ∷ []) []) e

pub parts_more : (o q r : Object) (moves : List Bool) (s : ℕ)
    → q ≡ marked_all o (parts_before o moves s) → tells moves s ≡ true
    → r ≡ marked_all q (pieces_of q s) → r ≡ marked_all o (parts_before o moves (s + 1))
unfolding pieces_of
parts_more o q r moves s is told more =
    let f : ℕ → List Part = λ k. map (part.Piece k) (range_with_len 0 (length (section_at o k).pieces)) in
    let pieces : length (section_at q s).pieces ≡ length (section_at o s).pieces =
    ap (λ (x : Object). length (section_at x s).pieces) is
    ∙ (shape_all o (parts_before o moves s)).pieces s in
    more
    ∙ ap (λ (n : ℕ). marked_all q (map (part.Piece s) (range_with_len 0 n))) pieces
    ∙ ap (λ (x : Object). marked_all x (pieces_of o s)) is
    ∙ sym (marked_append o (parts_before o moves s) (pieces_of o s))
    ∙ ap (λ (l : List Part). marked_all o (part.Object ∷ (flat_map (pieces_of o) (told_sections moves s) ++ l)))
    (sym (append-nil (pieces_of o s)))
    ∙ ap (λ (l : List Part). marked_all o (part.Object ∷ l))
    (sym (flat_map-append (pieces_of o) (told_sections moves s) (s ∷ [])))
    ∙ ap (λ (l : List ℕ). marked_all o (part.Object ∷ flat_map (pieces_of o) l))
    (sym (next_sections moves s true told))

pub parts_skip : (o q : Object) (moves : List Bool) (s : ℕ)
    → q ≡ marked_all o (parts_before o moves s) → tells moves s ≡ false
    → q ≡ marked_all o (parts_before o moves (s + 1))
parts_skip o q moves s is none =
    is ∙ ap (λ (l : List ℕ). marked_all o (part.Object ∷ flat_map (pieces_of o) l))
    (sym (next_sections moves s false none ∙ append-nil (told_sections moves s)))

pub parts_all : (o q : Object) (moves : List Bool) (s : ℕ)
    → q ≡ marked_all o (parts_before o moves s) → s ≡ length o.sections
    → q ≡ marked_all o (told_parts o moves)
parts_all o q moves s is all =
    is ∙ ap (λ (k : ℕ). marked_all o (parts_before o moves k)) all

-- ---- Of an object whose places are stored

pub tells_moved : (o : Object) (moves : List Bool) (k : ℕ)
    → moves ≡ map (is_moved o) (range_with_len 0 (length o.sections))
    → k < length o.sections → tells moves k ≡ is_moved o k
tells_moved o moves k is there =
    let at : 0 + k ≡ k = omega arith in
    ap (λ (l : List Bool). get_or l k false) is
    ∙ get_or-map-range_with_len (is_moved o) 0 (length o.sections) k k false there at

pub count_placed : (o : Object) → is_dirty o ≡ true
    → length (placed o).sections ≡ length o.sections
count_placed o dirty =
    ap (λ (q : Object). length q.sections) (placed-dirty o dirty)
    ∙ section_count-placed (places_of o) o

pub marks_torn : (o : Object) (moves : List Bool) → is_dirty o ≡ true
    → moves ≡ map (is_moved o) (range_with_len 0 (length o.sections))
    → marked_all (placed o) (told_parts (placed o) moves) ≡ torn o o.base
unfolding moved_pieces
marks_torn o moves dirty is =
    let count = count_placed o dirty in
    ap (λ (l : List ℕ). marked_all (placed o) (part.Object ∷ flat_map (pieces_of (placed o)) l))
    (filter_range (tells moves) (is_moved o) 0 (length (placed o).sections)
    (λ k from below. tells_moved o moves k is (omega (arith, below, count))))
    ∙ marks_are_torn o dirty

-- ---- The descriptor

abbrev with_object : {S : Type 0} → State S → Object → State S
with_object e o = record e { o = o }

pub state_is : {S : Type 0} (old now : State S) (o p : Object) → now ≡ record old { o = o }
    → o ≡ p → now ≡ record old { o = p }
state_is {S} old now o p is same = is ∙ ap (λ (x : Object). with_object old x) same

pub state_marked : {S : Type 0} (old now next : State S) (o p q : Object)
    → now ≡ record old { o = o } → next ≡ record now { o = p } → p ≡ q
    → next ≡ record old { o = q }
state_marked {S} old now next o p q is more same =
    more ∙ ap (λ (e : State S). with_object e p) is ∙ ap (λ (x : Object). with_object old x) same
