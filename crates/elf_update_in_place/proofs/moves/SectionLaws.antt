-- Sections: their marks, their lengths and their places.
use Rattle.std.proofs.Common.{◌≡◌, ℕ, zero, suc, ◌+◌, ◌-◌, ◌^◌, ◌<◌, ◌≤◌, min, Bool, true, false, ◌||◌, List, [], ◌∷◌, ◌++◌, map, length, get_or, take, None, Ok, refl, sym, ap, ◌∙◌, subst, arith}
use Rattle.std.specs.Prelude.{if◌then◌else◌}
use Rattle.std.proofs.lemmas.Bool.{lt-leb}
use Rattle.std.specs.List.{list_any, range_with_len}
use Rattle.std.proofs.lemmas.List.FromFn.{map-range_with_len_more}
use Rattle.std.proofs.lemmas.List.{length-map, take_all, get_or_default}
use Rattle.std.proofs.lemmas.List.Folds.{list_any_more, list_any_at}
use Rattle.elf_types.specs.Answers.{answered}
use Rattle.elf_types.specs.declared.records.Part.TheVariants as part
use Rattle.elf_update_to.specs.elf_object.Answers.{no_section, piece_refusal, piece_count, has_dirty, flag_bits, flags_of}
use Rattle.elf_update_to.specs.elf_object.Blocks.{same_extent}
use Rattle.elf_update_to.specs.elf_object.Object.{Object, Section, Piece, absent_section, home_piece, section_at, piece_at, has_file_bytes, some_piece_marked}
use Rattle.elf_update_to.specs.elf_object.Joined.{file_bytes, pieces_end}
use Rattle.elf_layout.specs.declared.parts.PartAt.{PartAt}
use Rattle.elf_layout.specs.declared.parts.Places.{Places}
use Rattle.elf_layout.specs.Layout.{positions, standing, length_of, places_of as parts_places}
use Rattle.elf_update_to.specs.elf_object.Layout.{section_part, table_part, parts_of, places_of, placed}
use Rattle.elf_update_to.specs.elf_object.Image.{section_block, image_length}
use Rattle.elf_update_to.specs.elf_object.Refusal.{placing_refusal}
use Rattle.elf_update_to.specs.elf_object.Changed.{is_at_home}
use Rattle.elf_update_to.proofs.law_object.ImageLaws.{placed-dirty, file_bytes_from}
use Rattle.elf_update_to.proofs.law_object.PlaceLaws.{not_too_large, within_limit}
use Rattle.elf_update_to.proofs.law_object.PlacedLaws.{size_fits, update_passes}
use Rattle.elf_update_to.proofs.law_object.StandLaws.{length-row, length-standing, offset-placed}
use Rattle.elf_update_to.specs.law_object.Writing.Ready.{IsReady}
use Rattle.elf_update_to.proofs.elf_update_plan.PartLaws.{file_some}

-- ---- Marks

pub dirty_bits : (marked layout : Bool) → has_dirty (flag_bits marked layout) ≡ marked
dirty_bits true true = refl
dirty_bits true false = refl
dirty_bits false true = refl
dirty_bits false false = refl

module _ {X : Type 0} (f : X → Bool) (xs : List X) (d : X) where
  pub none_first : list_any f (take 0 xs) ≡ false
  none_first = refl

  pub none_next : (i : ℕ) → i < length xs → list_any f (take i xs) ≡ false
      → f (get_or xs i d) ≡ false → list_any f (take (i + 1) xs) ≡ false
  none_next i there before here =
      list_any_more f xs i d there
      ∙ ap (λ (t : Bool). t || f (get_or xs i d)) before ∙ here

  pub none_last : (i : ℕ) → length xs ≤ i → list_any f (take i xs) ≡ false
      → false ≡ list_any f xs
  none_last i all before =
      sym (ap (list_any f) (sym (take_all i xs all)) ∙ before)

  pub some_here : (i : ℕ) → i < length xs → f (get_or xs i d) ≡ true → true ≡ list_any f xs
  some_here i there here = sym (list_any_at f xs i d there here)

-- ---- Lengths and places

first_is : (s : ℕ) (o : Object) → has_file_bytes s (section_at o s) ≡ true → 0 < s
unfolding has_file_bytes
first_is zero o e = cc
first_is (suc s) o e = omega arith

pub length_is : (o : Object) (s size : ℕ) → IsReady o → s < length o.sections
    → has_file_bytes s (section_at o s) ≡ true
    → Ok size ≡ answered (no_section o s) (min (pieces_end o s) (2 ^ 64 - 1))
    → size ≡ length (file_bytes o s)
unfolding placing_refusal
length_is o s size ready there filled told =
    let is = file_some o s size filled told in
    let bytes = file_bytes_from s (section_at o s) filled in
    let passed = update_passes o ready.dirty ready.passed in
    let fits = size_fits o s
    (not_too_large (parts_of o) o.layout (length o.base) o.header.class passed.1)
    (first_is s o filled) there bytes.1 in
    let small = fits.range in
    omega (arith, is, small)

pub at_home_is : (o : Object) (s at len home size : ℕ) (r : Bool) → IsReady o
    → s < length o.sections → has_file_bytes s (section_at o s) ≡ true
    → at ≡ get_or (places_of o).at (s + 1) 0 → len ≡ length (file_bytes o s)
    → home ≡ (section_at o s).home.at → size ≡ (section_at o s).home.len
    → r ≡ same_extent at len home size → r ≡ is_at_home o s
unfolding is_at_home section_block
at_home_is o s at len home size r ready there filled place long first last told =
    let offset : (section_at (placed o) s).header.offset ≡ at =
    ap (λ (q : Object). (section_at q s).header.offset) (placed-dirty o ready.dirty)
    ∙ offset-placed (places_of o) o s there filled ∙ sym place in
    told
    ∙ ap (λ (n : ℕ). same_extent n len home size) (sym offset)
    ∙ ap (λ (n : ℕ). same_extent (section_at (placed o) s).header.offset n home size) long
    ∙ ap (λ (n : ℕ). same_extent (section_at (placed o) s).header.offset
    (length (file_bytes o s)) n size) first
    ∙ ap (λ (n : ℕ). same_extent (section_at (placed o) s).header.offset
    (length (file_bytes o s)) (section_at o s).home.at n) last

-- ---- Where places are listed

length-places : (o : Object) → length (places_of o).at ≡ length (parts_of o)
unfolding places_of parts_places positions
length-places o =
    length-map (standing (parts_of o) o.layout) (λ (p : PartAt). p.at)
    ∙ length-standing o.layout (parts_of o)

length-parts : (o : Object) → length (parts_of o) ≡ 2 + (length o.sections - 1 + 1)
unfolding parts_of
length-parts o =
    let row = length-row (section_part o) (length o.sections - 1) (table_part o) in
    omega (arith, row)

pub place_there : (o : Object) (s : ℕ) (at : List ℕ) (places : Places) → at ≡ places.at
    → places ≡ places_of o → s < length o.sections → s + 1 < length at
place_there o s at places listed is there =
    let same : length at ≡ length (places_of o).at =
    ap (λ (l : List ℕ). length l) (listed ∙ ap (λ (p : Places). p.at) is) in
    let all = length-places o in
    let count = length-parts o in
    omega (arith, same, all, count, there)

pub place_read : (o : Object) (s : ℕ) (at : List ℕ) (places : Places) (d : ℕ) → at ≡ places.at
    → places ≡ places_of o → s + 1 < length at → get_or at (s + 1) d ≡ get_or (places_of o).at (s + 1) 0
place_read o s at places d listed is there =
    get_or_default at (s + 1) d 0 there
    ∙ ap (λ (l : List ℕ). get_or l (s + 1) 0) (listed ∙ ap (λ (p : Places). p.at) is)

-- ---- Parts that are there, and their marks

pub line_section_there : (o : Object) (s : ℕ) → s < length o.sections → no_section o s ≡ None
line_section_there o s there = rw (lt-leb (length o.sections) s there) refl

pub piece_there : (o : Object) (s p n : ℕ) → s < length o.sections → p < n
    → n ≡ piece_count o s → piece_refusal o s p ≡ None
unfolding piece_refusal
piece_there o s p n there below count =
    rw (lt-leb (length o.sections) s there, lt-leb (piece_count o s) p (omega (arith, below, count))) refl

pub some_section : (o : Object) (s : ℕ) (r : Bool) → s < length o.sections
    → r ≡ has_dirty (flags_of o (part.Section s)) → r ≡ true
    → true ≡ list_any (λ c. c.marked) o.sections
unfolding section_at flags_of
some_section o s r there told is =
    some_here (λ (c : Section). c.marked) o.sections absent_section s there
    (sym (dirty_bits (section_at o s).marked false) ∙ sym told ∙ is)

pub more_sections : (o : Object) (s : ℕ) (r : Bool) → s < length o.sections
    → list_any (λ c. c.marked) (take s o.sections) ≡ false
    → r ≡ has_dirty (flags_of o (part.Section s)) → r ≡ false
    → list_any (λ c. c.marked) (take (s + 1) o.sections) ≡ false
unfolding section_at flags_of
more_sections o s r there before told is =
    none_next (λ (c : Section). c.marked) o.sections absent_section s there before
    (sym (dirty_bits (section_at o s).marked false) ∙ sym told ∙ is)

pub no_line_sections : (o : Object) (s : ℕ) → length o.sections ≤ s
    → list_any (λ c. c.marked) (take s o.sections) ≡ false
    → false ≡ list_any (λ c. c.marked) o.sections
no_line_sections o s all before =
    none_last (λ (c : Section). c.marked) o.sections absent_section s all before

pub some_piece : (o : Object) (s p n : ℕ) (r : Bool) → p < n → n ≡ piece_count o s
    → r ≡ has_dirty (flags_of o (part.Piece s p)) → r ≡ true
    → true ≡ some_piece_marked (section_at o s)
unfolding piece_at flags_of piece_count some_piece_marked
some_piece o s p n r below count told is =
    some_here (λ (q : Piece). q.marked) (section_at o s).pieces home_piece p
    (omega (arith, below, count))
    (sym (dirty_bits (piece_at o s p).marked false) ∙ sym told ∙ is)

pub more_pieces : (o : Object) (s p n : ℕ) (r : Bool) → p < n → n ≡ piece_count o s
    → list_any (λ q. q.marked) (take p (section_at o s).pieces) ≡ false
    → r ≡ has_dirty (flags_of o (part.Piece s p)) → r ≡ false
    → list_any (λ q. q.marked) (take (p + 1) (section_at o s).pieces) ≡ false
unfolding piece_at flags_of piece_count
more_pieces o s p n r below count before told is =
    none_next (λ (q : Piece). q.marked) (section_at o s).pieces home_piece p
    (omega (arith, below, count)) before
    (sym (dirty_bits (piece_at o s p).marked false) ∙ sym told ∙ is)

pub no_line_pieces : (o : Object) (s p n : ℕ) → n ≤ p → n ≡ piece_count o s
    → list_any (λ q. q.marked) (take p (section_at o s).pieces) ≡ false
    → false ≡ some_piece_marked (section_at o s)
unfolding piece_count some_piece_marked
no_line_pieces o s p n all count before =
    none_last (λ (q : Piece). q.marked) (section_at o s).pieces home_piece p
    (omega (arith, all, count)) before

-- ---- An image that is written is small

pub image_small : (o : Object) → IsReady o → image_length o < 2 ^ 64
unfolding placing_refusal image_length places_of parts_places
image_small o ready =
    let passed = update_passes o ready.dirty ready.passed in
    let large = not_too_large (parts_of o) o.layout (length o.base) o.header.class passed.1 in
    let fits = within_limit o.header.class (length_of (parts_of o) o.layout (length o.base)) large.length in
    subst (λ (b : Bool). (if b then length_of (parts_of o) o.layout (length o.base) else length o.base) < 2 ^ 64)
    (sym ready.dirty) fits.range

-- ---- Lists of answers

pub answers_more : (f : ℕ → Bool) (s : ℕ) (old new : List Bool) (x : Bool)
    → old ≡ map f (range_with_len 0 s) → x ≡ f s → new ≡ old ++ x ∷ []
    → new ≡ map f (range_with_len 0 (s + 1))
answers_more f s old new x are is more =
    let at : 0 + s ≡ s = omega arith in
    more
    ∙ ap (λ (l : List Bool). l ++ x ∷ []) are
    ∙ ap (λ (y : Bool). map f (range_with_len 0 s) ++ y ∷ []) is
    ∙ sym (map-range_with_len_more f 0 s s at)
