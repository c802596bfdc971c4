-- Marks on the object and on each piece of each section that moves make it torn over its own base.
use Rattle.std.proofs.Common.{◌≡◌, ℕ, zero, suc, ◌+◌, ◌<◌, ◌≤◌, Bool, true, false, List, [], ◌∷◌, ◌++◌, length, set, get_or, refl, sym, ap, ◌∙◌, subst, arith, ⊎_elim}
use Rattle.std.specs.Prelude.{if◌then◌else◌, map, flat_map, cond}
use Rattle.std.specs.List.{range_with_len, enumerate_from, filter}
use Rattle.std.proofs.lemmas.Bool.{cases_lt}
use Rattle.std.proofs.lemmas.List.{length-map, length-set, set-set, set-get_or, get_or-set_same, get_or-set_other, get_or-map, ext_get_or}
use Rattle.std.proofs.lemmas.List.FromFn.{length-enumerate_from, get_or-enumerate_from}
use Rattle.elf_types.specs.declared.records.Part.{Part}
use Rattle.elf_types.specs.declared.records.Part.TheVariants as part
use Rattle.elf_object.specs.Object.{Object, Section, Piece, absent_section, home_piece, section_at, piece_at, is_dirty}
use Rattle.elf_object.specs.Steps.{with_section, with_piece_at, with_mark}
use Rattle.elf_object.specs.Layout.{places_of, placed_by, placed}
use Rattle.elf_object.proofs.ChangedLaws.{torn-dirty}
use Rattle.elf_object.specs.Changed.{torn_over, is_moved, marked_piece, torn_section}
use Rattle.elf_object.proofs.StepLaws.{section_count-with_section, section_at-with_section}
use Rattle.law_object.specs.Writing.Marks.{marked_all, pieces_of, moved_pieces}
use Rattle.law_object.specs.Writing.Writing.{MarksAreTorn}

marked_append : (o : Object) (ps qs : List Part) → marked_all o (ps ++ qs) ≡ marked_all (marked_all o ps) qs
marked_append o [] qs = refl
marked_append o (p ∷ ps) qs = marked_append (with_mark o p) ps qs

-- ---- Items that are changed one after the other

-- each item from a place on, so many of them
abbrev changed_from : {X : Type 0} → (ℕ → X → X) → X → ℕ → ℕ → List X → List X
changed_from f d a zero l = l
changed_from f d a (suc n) l = changed_from f d (a + 1) n (set l a (f a (get_or l a d)))

length-changed_from : {X : Type 0} (f : ℕ → X → X) (d : X) (a n : ℕ) (l : List X) → length (changed_from f d a n l) ≡ length l
length-changed_from f d a zero l = refl
length-changed_from f d a (suc n) l = length-changed_from f d (a + 1) n (set l a (f a (get_or l a d))) ∙ length-set l a (f a (get_or l a d))

before_changed : {X : Type 0} (f : ℕ → X → X) (d : X) (a n : ℕ) (l : List X) (k : ℕ) → k < a → get_or (changed_from f d a n l) k d ≡ get_or l k d
before_changed f d a zero l k before = refl
before_changed f d a (suc n) l k before =
    before_changed f d (a + 1) n (set l a (f a (get_or l a d))) k (omega arith)
    ∙ get_or-set_other l a k (f a (get_or l a d)) d (λ e. omega arith)

in_changed : {X : Type 0} (f : ℕ → X → X) (d : X) (a n : ℕ) (l : List X) (k : ℕ) → a ≤ k → k < a + n → k < length l → get_or (changed_from f d a n l) k d ≡ f k (get_or l k d)
in_changed f d a zero l k from below inside = absurd (omega arith)
in_changed {X} f d a (suc n) l k from below inside = ⊎_elim
    (λ later.
    let count = length-set l a (f a (get_or l a d)) in
    in_changed f d (a + 1) n (set l a (f a (get_or l a d))) k (omega arith) (omega arith) (omega arith)
    ∙ ap (f k) (get_or-set_other l a k (f a (get_or l a d)) d (λ e. omega arith)))
    (λ here.
    let same : a ≡ k = omega arith in
    let R : ℕ → Type 0 = λ j. get_or (changed_from f d (a + 1) n (set l a (f a (get_or l a d)))) j d ≡ f j (get_or l j d) in
    subst R same (before_changed f d (a + 1) n (set l a (f a (get_or l a d))) a (omega arith) ∙ get_or-set_same l a (f a (get_or l a d)) d (omega arith)))
    (cases_lt a k)

-- all of them
all_changed : {X : Type 0} (f : ℕ → X → X) (d : X) (l : List X) → changed_from f d 0 (length l) l ≡ map (λ row. f row.0 row.1) (enumerate_from 0 l)
all_changed {X} f d l =
    let left = length-changed_from f d 0 (length l) l in
    let count = length-enumerate_from 0 l in
    let right = length-map (enumerate_from 0 l) (λ (row : ℕ × X). f row.0 row.1) in
    ext_get_or d (changed_from f d 0 (length l) l) (map (λ row. f row.0 row.1) (enumerate_from 0 l)) (omega arith) (λ k h.
    let inside : k < length l = omega arith in
    let row : get_or (enumerate_from 0 l) k (0, d) ≡ (0 + k, get_or l k d) = get_or-enumerate_from 0 l k (0, d) inside in
    let number : 0 + k ≡ k = omega arith in
    in_changed f d 0 (length l) l k (omega arith) (omega arith) inside
    ∙ sym (get_or-map (λ (r : ℕ × X). f r.0 r.1) (enumerate_from 0 l) k (0, d) d (omega arith)
    ∙ ap (λ (r : ℕ × X). f r.0 r.1) row
    ∙ ap (λ (i : ℕ). f i (get_or l k d)) number))

rows_of : {X : Type 0} (f : X → X) (n : ℕ) (l : List X) → map (λ row. f row.1) (enumerate_from n l) ≡ map f l
rows_of f n [] = refl
rows_of {X} f n (x ∷ l) = ap (λ (m : List X). f x ∷ m) (rows_of f (n + 1) l)

-- ---- One section

abbrev mark_at : ℕ → Piece → Piece
mark_at i p = marked_piece p

same_section : (o : Object) (s : ℕ) → with_section o s (section_at o s) ≡ o
unfolding with_section section_at
same_section o s = ap (λ (l : List Section). record o { sections = l }) (set-get_or o.sections s absent_section)

section_twice : (o : Object) (s : ℕ) (c d : Section) → with_section (with_section o s c) s d ≡ with_section o s d
unfolding with_section
section_twice o s c d = ap (λ (l : List Section). record o { sections = l }) (set-set o.sections s c d)

mark_is : (o : Object) (s a : ℕ) → with_mark o (part.Piece s a) ≡ with_section o s (record (section_at o s) { pieces = set (section_at o s).pieces a (marked_piece (get_or (section_at o s).pieces a home_piece)) })
unfolding with_mark with_piece_at piece_at
mark_is o s a = refl

marked_pieces : (o : Object) (s a n : ℕ) → s < length o.sections → marked_all o (map (part.Piece s) (range_with_len a n)) ≡ with_section o s (record (section_at o s) { pieces = changed_from mark_at home_piece a n (section_at o s).pieces })
marked_pieces o s a zero inside = sym (same_section o s)
marked_pieces o s a (suc n) inside =
    let c : Section = record (section_at o s) { pieces = set (section_at o s).pieces a (marked_piece (get_or (section_at o s).pieces a home_piece)) } in
    let step : with_mark o (part.Piece s a) ≡ with_section o s c = mark_is o s a in
    let count : length (with_section o s c).sections ≡ length o.sections = section_count-with_section o s c in
    let at : section_at (with_section o s c) s ≡ c = section_at-with_section o s c inside in
    ap (λ (q : Object). marked_all q (map (part.Piece s) (range_with_len (a + 1) n))) step
    ∙ marked_pieces (with_section o s c) s (a + 1) n (omega arith)
    ∙ ap (λ (d : Section). with_section (with_section o s c) s (record d { pieces = changed_from mark_at home_piece (a + 1) n d.pieces })) at
    ∙ section_twice o s c (record c { pieces = changed_from mark_at home_piece (a + 1) n c.pieces })

-- ---- All sections

marked_same : (q : Object) (k : ℕ) → section_at (record q { marked = true }) k ≡ section_at q k
unfolding section_at
marked_same q k = refl

torn_at : (ℕ → Bool) → ℕ → Section → Section
torn_at moved s c = torn_section (moved s) c

-- a section whose pieces are all marked
torn_pieces : (moved : ℕ → Bool) (s : ℕ) (c : Section) → moved s ≡ true → record c { pieces = changed_from mark_at home_piece 0 (length c.pieces) c.pieces } ≡ torn_at moved s c
unfolding torn_at torn_section
torn_pieces moved s c e =
    ap (λ (l : List Piece). record c { pieces = l }) (all_changed mark_at home_piece c.pieces ∙ rows_of marked_piece 0 c.pieces)
    ∙ ap (λ (b : Bool). if b then (record c { pieces = map marked_piece c.pieces }) else c) (sym e)

still_at : (moved : ℕ → Bool) (s : ℕ) (c : Section) → moved s ≡ false → torn_at moved s c ≡ c
unfolding torn_at torn_section
still_at moved s c e = ap (λ (b : Bool). if b then (record c { pieces = map marked_piece c.pieces }) else c) e

abbrev with_sections : Object → List Section → Object
with_sections o l = record o { sections = l }

other_section : (o : Object) (s k : ℕ) (c : Section) → s + 1 ≤ k → section_at (with_section o s c) k ≡ section_at o k
unfolding with_section section_at
other_section o s k c later = get_or-set_other o.sections s k c absent_section (λ e. omega arith)

-- a section that moves
section_marked : (q o : Object) (moved : ℕ → Bool) (a : ℕ) → a < length o.sections → section_at o a ≡ section_at q a → moved a ≡ true → marked_all o (pieces_of q a) ≡ with_section o a (torn_at moved a (section_at o a))
unfolding pieces_of
section_marked q o moved a inside same e =
    ap (λ (x : Section). marked_all o (map (part.Piece a) (range_with_len 0 (length x.pieces)))) (sym same)
    ∙ marked_pieces o a 0 (length (section_at o a).pieces) inside
    ∙ ap (with_section o a) (torn_pieces moved a (section_at o a) e)

sections_folded : (o : Object) (moved : ℕ → Bool) (a n : ℕ) → with_sections (with_section o a (torn_at moved a (section_at o a))) (changed_from (torn_at moved) absent_section (a + 1) n (with_section o a (torn_at moved a (section_at o a))).sections) ≡ with_sections o (changed_from (torn_at moved) absent_section a (suc n) o.sections)
unfolding with_section section_at
sections_folded o moved a n = refl

sections_still : (o : Object) (moved : ℕ → Bool) (a n : ℕ) → moved a ≡ false → with_sections o (changed_from (torn_at moved) absent_section (a + 1) n o.sections) ≡ with_sections o (changed_from (torn_at moved) absent_section a (suc n) o.sections)
sections_still o moved a n e =
    let here : set o.sections a (torn_at moved a (get_or o.sections a absent_section)) ≡ o.sections = ap (set o.sections a) (still_at moved a (get_or o.sections a absent_section) e) ∙ set-get_or o.sections a absent_section in
    ap (λ (l : List Section). with_sections o (changed_from (torn_at moved) absent_section (a + 1) n l)) (sym here)

-- what is marked of the sections from one on, the sections behind it being as they were
marked_sections : (q o : Object) (moved : ℕ → Bool) (a n : ℕ) → a + n ≤ length o.sections → ((k : ℕ) → a ≤ k → section_at o k ≡ section_at q k) → marked_all o (flat_map (pieces_of q) (filter moved (range_with_len a n))) ≡ with_sections o (changed_from (torn_at moved) absent_section a n o.sections)
marked_sections q o moved a zero fits same = refl
marked_sections q o moved a (suc n) fits same =
    let inside : a < length o.sections = omega arith in
    by_test (moved a) refl inside (λ p count later. marked_sections q p moved (a + 1) n (omega arith) later)
  where
    by_test : (b : Bool) → moved a ≡ b → a < length o.sections → ((p : Object) → length p.sections ≡ length o.sections → ((k : ℕ) → a + 1 ≤ k → section_at p k ≡ section_at q k) → marked_all p (flat_map (pieces_of q) (filter moved (range_with_len (a + 1) n))) ≡ with_sections p (changed_from (torn_at moved) absent_section (a + 1) n p.sections)) → marked_all o (flat_map (pieces_of q) (cond b (a ∷ filter moved (range_with_len (a + 1) n)) (filter moved (range_with_len (a + 1) n)))) ≡ with_sections o (changed_from (torn_at moved) absent_section a (suc n) o.sections)
    by_test true e inside rest =
        marked_append o (pieces_of q a) (flat_map (pieces_of q) (filter moved (range_with_len (a + 1) n)))
        ∙ ap (λ (p : Object). marked_all p (flat_map (pieces_of q) (filter moved (range_with_len (a + 1) n)))) (section_marked q o moved a inside (same a (omega arith)) e)
        ∙ rest (with_section o a (torn_at moved a (section_at o a))) (section_count-with_section o a (torn_at moved a (section_at o a))) (λ k later. other_section o a k (torn_at moved a (section_at o a)) later ∙ same k (omega arith))
        ∙ sections_folded o moved a n
    by_test false e inside rest = rest o refl (λ k later. same k (omega arith)) ∙ sections_still o moved a n e

-- ---- The law

base_placed : (o : Object) → (placed o).base ≡ o.base
unfolding placed placed_by
base_placed o = by_test (is_dirty o)
  where
    by_test : (b : Bool) → (if b then placed_by (places_of o) o else o).base ≡ o.base
    by_test true = refl
    by_test false = refl

pub marks_are_torn : (o : Object) → MarksAreTorn o
unfolding moved_pieces with_mark torn_over torn_at
marks_are_torn o dirty =
    let q = placed o in
    let start : Object = record (placed o) { marked = true } in
    marked_sections (placed o) start (is_moved o) 0 (length (placed o).sections) (omega arith) (λ k from. marked_same (placed o) k)
    ∙ ap (with_sections start) (all_changed (torn_at (is_moved o)) absent_section (placed o).sections)
    ∙ ap (λ (bytes : List ℕ). record (placed o) { base = bytes; marked = true; sections = map (λ row. torn_section (is_moved o row.0) row.1) (enumerate_from 0 (placed o).sections) }) (base_placed o)
    ∙ sym (torn-dirty o o.base dirty)
