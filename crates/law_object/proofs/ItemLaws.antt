-- Settling keeps the items of a piece that stands alone in its section.
use Rattle.std.proofs.Common.{◌≡◌, ◌≢◌, ℕ, zero, suc, ◌+◌, ◌<◌, Bool, true, false, not, ◌&&◌, ◌||◌, List, [], ◌∷◌, length, take, drop, get_or, Option, Some, None, Result, Ok, Err, refl, sym, ap, ◌∙◌, subst, arith}
use Rattle.std.specs.Prelude.{All, IfSome, IsTrue, nat_lt, if◌then◌else◌, ◌==◌, map}
use Rattle.std.specs.List.{enumerate_from, list_any}
use Rattle.std.specs.Option.{option_map}
use Rattle.std.proofs.lemmas.Bool.{eq-eqb, ne_eqb}
use Rattle.std.proofs.lemmas.List.{take_all}
use Rattle.std.proofs.lemmas.List.Elements.{All-head}
use Rattle.std.proofs.lemmas.List.Folds.{list_any_at}
use Rattle.elf_types.specs.Kinds.{section_kind}
use Rattle.elf_types.specs.declared.records.Class.{Class}
use Rattle.elf_types.specs.declared.records.Order.{Order}
use Rattle.elf_types.specs.declared.records.Kind.{Kind}
use Rattle.elf_types.specs.declared.records.Kind.TheVariants as kinds
use Rattle.elf_types.specs.declared.records.Shdr.{Shdr}
use Rattle.elf_types.specs.declared.records.Part.TheVariants as part
use Rattle.elf_types.specs.declared.errors.ElfError.{ElfError}
use Rattle.elf_types.specs.declared.errors.ElfError.TheVariants.{OutOfFile, Ragged, Unfit}
use Rattle.elf_object.specs.elf_xlate.declared.content.Items.{Items}
use Rattle.elf_object.specs.elf_xlate.Translation.{DecodesAsEncoded, decoded, encoded, first_unfit, items_kind}
use Rattle.elf_object.specs.elf_layout.declared.parts.Places.{Places}
use Rattle.elf_types.specs.Answers.{first_refusal}
use Rattle.elf_object.specs.Blocks.{block_end, stacked, last_end, spread}
use Rattle.law_object.proofs.BlockLaws.{length-spread, take-drop-spread}
use Rattle.elf_object.specs.Object.{Object, Section, Piece, absent_section, section_at, header_of, has_file_bytes, occupies_file, is_null, is_dirty, some_piece_marked, some_section_marked}
use Rattle.elf_object.specs.Open.{home_len, home_of, home_bytes}
use Rattle.elf_object.specs.Answers.{content}
use Rattle.elf_object.specs.Joined.{piece_bytes, aligned_pieces, piece_blocks, pieces_end, file_bytes}
use Rattle.elf_object.specs.Derived.{derived_header, numbered_shdr}
use Rattle.elf_object.specs.Layout.{places_of, section_place, size_in_file, placed_header, placed_shdr, placed_by}
use Rattle.elf_object.specs.Image.{image}
use Rattle.elf_object.specs.Refusal.{unfit_in_piece, unfit_in_section, unfit_item}
use Rattle.elf_object.specs.Settled.{settled_section, settled_over}
use Rattle.elf_object.specs.Valid.{IsPiece}
use Rattle.law_object.proofs.ImageLaws.{section_at-placed, placed-dirty}
use Rattle.elf_object.proofs.PassedLaws.{none_first, none_rest}
use Rattle.elf_object.proofs.RunningEnds.{first_place}
use Rattle.elf_object.proofs.SettledSections.{section_at-settled}
use Rattle.law_object.proofs.KeepLaws.{section_at_is}
use Rattle.law_object.proofs.PlacedLaws.{update_passes}
use Rattle.law_object.proofs.StandLaws.{section_count-placed, joined-placed}
use Rattle.law_object.proofs.AgainLaws.{placed_section_header}
use Rattle.law_object.proofs.SettledLaws.{unrefused, section_raw, section_extent, settle-dirty}
use Rattle.law_object.specs.Laws.{SettlingKeepsItems}

-- ---- One piece alone

-- one block that is all
whole_spread : (bytes : List ℕ) (fill : ℕ) → spread (0 + length bytes) (λ _. fill) (record { at = 0; bytes = bytes } ∷ []) ≡ bytes
unfolding block_end
whole_spread bytes fill =
    let len = length-spread (0 + length bytes) (λ _. fill) (record { at = 0; bytes = bytes } ∷ []) in
    sym (take_all (length bytes) (spread (0 + length bytes) (λ _. fill) (record { at = 0; bytes = bytes } ∷ [])) (omega arith))
    ∙ take-drop-spread (0 + length bytes) (λ _. fill) (record { at = 0; bytes = bytes } ∷ []) 0 (record { at = 0; bytes = bytes }) (tt, tt) refl (omega arith)

pub alone_spread : (align : ℕ) (bytes : List ℕ) (fill : ℕ) → spread (last_end 0 (stacked 0 ((align, bytes) ∷ []))) (λ _. fill) (stacked 0 ((align, bytes) ∷ [])) ≡ bytes
unfolding stacked last_end block_end
alone_spread align bytes fill =
    let place = first_place align in
    ap (λ (n : ℕ). spread (n + length bytes) (λ _. fill) (record { at = n; bytes = bytes } ∷ [])) place
    ∙ whole_spread bytes fill

-- the bytes of one piece
joined_alone : (o : Object) (s : ℕ) (p : Piece) (items : Items) → has_file_bytes s (section_at o s) ≡ true → (section_at o s).pieces ≡ p ∷ [] → p.own ≡ Some items → file_bytes o s ≡ encoded o.header.class o.header.order items
unfolding file_bytes pieces_end piece_blocks aligned_pieces piece_bytes stacked last_end block_end
joined_alone o s p items filled alone own =
    let bytes : elim (p.own) [ None ↦ (section_at o s).raw | Some l ↦ encoded o.header.class o.header.order l ] ≡ encoded o.header.class o.header.order items = ap (λ (x : Option Items). elim x [ None ↦ (section_at o s).raw | Some l ↦ encoded o.header.class o.header.order l ]) own in
    let one : map (λ q. (q.align, elim (q.own) [ None ↦ (section_at o s).raw | Some l ↦ encoded o.header.class o.header.order l ])) (section_at o s).pieces ≡ (p.align, encoded o.header.class o.header.order items) ∷ [] =
    ap (map (λ q. (q.align, elim (q.own) [ None ↦ (section_at o s).raw | Some l ↦ encoded o.header.class o.header.order l ]))) alone ∙ ap (λ (l : List ℕ). (p.align, l) ∷ []) bytes in
    rw filled (ap (λ (l : List (ℕ × List ℕ)). spread (last_end 0 (stacked 0 l)) (λ _. o.fill) (stacked 0 l)) one ∙ alone_spread p.align (encoded o.header.class o.header.order items) o.fill)

-- ---- The kind of its header

kind_placed : (places : Places) (o : Object) (s : ℕ) (h : Shdr) → (placed_shdr places o s h).stype ≡ h.stype × (placed_shdr places o s h).flags ≡ h.flags × (placed_shdr places o s h).entsize ≡ h.entsize
unfolding placed_shdr numbered_shdr
kind_placed places o s h = by_test (s == 0) (is_null h)
  where
    by_test : (a b : Bool) → (if a then numbered_shdr (placed_header places o) h else (if b then h else (record h { offset = section_place places s; size = size_in_file o s h }))).stype ≡ h.stype × (if a then numbered_shdr (placed_header places o) h else (if b then h else (record h { offset = section_place places s; size = size_in_file o s h }))).flags ≡ h.flags × (if a then numbered_shdr (placed_header places o) h else (if b then h else (record h { offset = section_place places s; size = size_in_file o s h }))).entsize ≡ h.entsize
    by_test true b = (refl, refl, refl)
    by_test false true = (refl, refl, refl)
    by_test false false = (refl, refl, refl)

kind_same : (g h : Shdr) → g.stype ≡ h.stype → g.flags ≡ h.flags → g.entsize ≡ h.entsize → section_kind g ≡ section_kind h
unfolding section_kind
kind_same g h a b c = cc

-- a section of a kind occupies the file
kind_occupies : (h : Shdr) → section_kind h ≢ kinds.Empty → occupies_file h ≡ true
unfolding section_kind
kind_occupies h some = by_test (h.stype == 0 || h.stype == 8) refl
  where
    by_test : (b : Bool) → (h.stype == 0 || h.stype == 8) ≡ b → not b ≡ true
    by_test true e = absurd (some (rw e refl))
    by_test false e = refl

positive_bytes : (s : ℕ) (c : Section) → 0 < s → occupies_file c.header ≡ true → has_file_bytes s c ≡ true
unfolding has_file_bytes
positive_bytes s c positive filled = let test : (s == 0) ≡ false = ne_eqb s 0 (λ h. omega arith) in rw (test, filled) refl

-- ---- Its items fit

pub row_none : (f : ℕ → Section → Option ElfError) (n : ℕ) (l : List Section) (i : ℕ) (d : Section) → first_refusal (map (λ row. f row.0 row.1) (enumerate_from n l)) ≡ None → i < length l → f (n + i) (get_or l i d) ≡ None
row_none f n [] i d h below = absurd (omega arith)
row_none f n (c ∷ l) zero d h below =
    let at : n + 0 ≡ n = omega arith in
    ap (λ (k : ℕ). f k c) at ∙ none_first (f n c) (map (λ row. f row.0 row.1) (enumerate_from (n + 1) l)) h
row_none f n (c ∷ l) (suc i) d h below =
    let further : n + suc i ≡ n + 1 + i = omega arith in
    ap (λ (k : ℕ). f k (get_or l i d)) further ∙ row_none f (n + 1) l i d (none_rest (f n c) (map (λ row. f row.0 row.1) (enumerate_from (n + 1) l)) h) (omega arith)

fits_alone : (class : Class) (s : ℕ) (c : Section) (p : Piece) (items : Items) → has_file_bytes s c ≡ true → c.pieces ≡ p ∷ [] → p.own ≡ Some items → unfit_in_section class s c ≡ None → first_unfit class items ≡ None
unfolding unfit_in_section unfit_in_piece
fits_alone class s c p items filled alone own h =
    let opened_up : first_refusal (map (λ row. elim (row.1.own) [ None ↦ None | Some l ↦ option_map (Unfit (part.Piece s row.0)) (first_unfit class l) ]) (enumerate_from 0 c.pieces)) ≡ None = rw filled at h in
    let one : first_refusal (map (λ row. elim (row.1.own) [ None ↦ None | Some l ↦ option_map (Unfit (part.Piece s row.0)) (first_unfit class l) ]) (enumerate_from 0 (p ∷ []))) ≡ None = sym (ap (λ (l : List Piece). first_refusal (map (λ row. elim (row.1.own) [ None ↦ None | Some l ↦ option_map (Unfit (part.Piece s row.0)) (first_unfit class l) ]) (enumerate_from 0 l))) alone) ∙ opened_up in
    let first = none_first (elim (p.own) [ None ↦ None | Some l ↦ option_map (Unfit (part.Piece s 0)) (first_unfit class l) ]) [] one in
    let here : option_map (Unfit (part.Piece s 0)) (first_unfit class items) ≡ None = sym (ap (λ (x : Option Items). elim x [ None ↦ None | Some l ↦ option_map (Unfit (part.Piece s 0)) (first_unfit class l) ]) own) ∙ first in
    some_mapped (Unfit (part.Piece s 0)) (first_unfit class items) here
  where
    some_mapped : (f : ℕ → ElfError) (x : Option ℕ) → option_map f x ≡ None → x ≡ None
    some_mapped f None e = refl
    some_mapped f (Some n) e = cc

-- ---- A settled section

out_false : (image bytes : List ℕ) (h : Shdr) → home_len h ≡ length bytes → home_bytes (home_of (length image) h) image ≡ bytes → (home_of (length image) h).out ≡ false
unfolding home_of home_bytes
out_false image bytes h extent e = by_test (not (home_len h == 0) && nat_lt (length image) (h.offset + home_len h)) refl e
  where
    by_test : (b : Bool) → (not (home_len h == 0) && nat_lt (length image) (h.offset + home_len h)) ≡ b → (if b then [] else take (home_len h) (drop h.offset image)) ≡ bytes → b ≡ false
    by_test false f g = refl
    by_test true f g =
        let empty : home_len h ≡ 0 = extent ∙ sym (ap length g) in
        let none : (home_len h == 0) ≡ true = eq-eqb (home_len h) 0 empty in
        sym f ∙ rw none refl

-- the content of a section by what it is made of
content_of : Class → Order → ℕ → Section → Result Items ElfError
content_of class order s c =
    if c.home.out then Err (OutOfFile s) else (elim (decoded c.home.kind class order c.raw) [ None ↦ Err (Ragged s) | Some items ↦ Ok items ])

content_made : (class : Class) (order : Order) (s : ℕ) (c : Section) (kind : Kind) (bytes : List ℕ) (items : Items) → c.home.out ≡ false → c.home.kind ≡ kind → c.raw ≡ bytes → decoded kind class order bytes ≡ Some items → content_of class order s c ≡ Ok items
unfolding content_of
content_made class order s c kind bytes items out same raw read =
    ap (λ (b : Bool). if b then Err (OutOfFile s) else (elim (decoded c.home.kind class order c.raw) [ None ↦ Err (Ragged s) | Some l ↦ Ok l ])) out
    ∙ ap (λ (k : Kind). elim (decoded k class order c.raw) [ None ↦ Err (Ragged s) | Some l ↦ Ok l ]) same
    ∙ ap (λ (l : List ℕ). elim (decoded kind class order l) [ None ↦ Err (Ragged s) | Some l ↦ Ok l ]) raw
    ∙ ap (λ (x : Option Items). elim x [ None ↦ Err (Ragged s) | Some l ↦ Ok l ]) read

content_settled : (image : List ℕ) (q : Object) (s : ℕ) → content (settled_over image q) s ≡ content_of q.header.class q.header.order s (section_at (settled_over image q) s)
unfolding content content_of settled_over
content_settled image q s = refl

settled_fields : (len : ℕ) (bytes : List ℕ) (h : Shdr) → ((settled_section len bytes h).home.out ≡ (home_of len h).out) × ((settled_section len bytes h).home.kind ≡ section_kind h) × ((settled_section len bytes h).raw ≡ bytes)
unfolding settled_section home_of
settled_fields len bytes h = (refl, refl, refl)

-- the class and the order stay
codes_placed : (o : Object) → ((placed_by (places_of o) o).header.class ≡ o.header.class) × ((placed_by (places_of o) o).header.order ≡ o.header.order)
unfolding placed_by placed_header derived_header header_of
codes_placed o = (refl, refl)

item_fits : (o : Object) (s : ℕ) → unfit_item o ≡ None → s < length o.sections → unfit_in_section o.header.class s (section_at o s) ≡ None
unfolding unfit_item section_at
item_fits o s h inside =
    let at : 0 + s ≡ s = omega arith in
    sym (ap (λ (k : ℕ). unfit_in_section o.header.class k (get_or o.sections s absent_section)) at) ∙ row_none (unfit_in_section o.header.class) 0 o.sections s absent_section h inside

own_marked : (p : Piece) (items : Items) → p.own ≡ Some items → IsPiece p → p.marked ≡ true
own_marked p items own is =
    let R : Option Items → Type 0 = λ x. IfSome x (λ l. IsTrue p.marked) in
    subst R own is.own

-- an object with a marked piece that stands alone in its section is dirty
dirty_alone : (o : Object) (s : ℕ) (p : Piece) → s < length o.sections → (section_at o s).pieces ≡ p ∷ [] → p.marked ≡ true → is_dirty o ≡ true
unfolding is_dirty some_section_marked some_piece_marked section_at
dirty_alone o s p inside alone marked =
    let pieces : list_any (λ x. x.marked) (section_at o s).pieces ≡ true = ap (λ (l : List Piece). list_any (λ x. x.marked) l) alone ∙ or_any p.marked (list_any (λ (x : Piece). x.marked) []) marked in
    let here : ((section_at o s).marked || list_any (λ x. x.marked) (section_at o s).pieces) ≡ true = ap (λ (b : Bool). (section_at o s).marked || b) pieces ∙ or_true (section_at o s).marked in
    let all = list_any_at (λ c. c.marked || list_any (λ x. x.marked) c.pieces) o.sections s absent_section inside here in
    ap (λ (b : Bool). o.marked || o.header_marked || o.segments_marked || b) all ∙ three o.marked o.header_marked o.segments_marked
  where
    or_true : (a : Bool) → (a || true) ≡ true
    or_true true = refl
    or_true false = refl

    or_any : (a b : Bool) → a ≡ true → (a || b) ≡ true
    or_any true b h = refl
    or_any false b h = cc

    three : (a b c : Bool) → (a || b || c || true) ≡ true
    three true b c = refl
    three false true c = refl
    three false false c = or_true c

pub settling_keeps_items : (back : (class : Class) (order : Order) (items : Items) → DecodesAsEncoded class order items) (o : Object) → SettlingKeepsItems o
settling_keeps_items back o s p items ok passed positive inside alone own are kind some =
    let here = section_at_is o s ok in
    let piece : IsPiece p = All-head IsPiece p [] (subst (All IsPiece) alone here.pieces) in
    let dirty = dirty_alone o s p inside alone (own_marked p items own piece) in
    let q = placed_by (places_of o) o in
    let header = (section_at (placed_by (places_of o) o) s).header in
    let both = update_passes o dirty passed in
    let un = unrefused o both.0 in
    let count = section_count-placed (places_of o) o in
    let filled : has_file_bytes s (section_at o s) ≡ true = positive_bytes s (section_at o s) positive (kind_occupies (section_at o s).header (λ e. some (kind ∙ e))) in
    let first : (s == 0) ≡ false = ne_eqb s 0 (λ h. omega arith) in
    let bytes : file_bytes (placed_by (places_of o) o) s ≡ encoded o.header.class o.header.order items = joined-placed (places_of o) o s ∙ joined_alone o s p items filled alone own in
    let at : (section_at (placed_by (places_of o) o) s).header ≡ placed_shdr (places_of o) o s (section_at o s).header = ap (λ (c : Section). c.header) (section_at-placed (places_of o) o s inside) ∙ placed_section_header (places_of o) o s (section_at o s) in
    let fields = kind_placed (places_of o) o s (section_at o s).header in
    let same_kind : section_kind (section_at (placed_by (places_of o) o) s).header ≡ items_kind items = ap section_kind at ∙ kind_same (placed_shdr (places_of o) o s (section_at o s).header) (section_at o s).header fields.0 fields.1 fields.2 ∙ sym kind in
    let made = settled_fields (length (image o)) (file_bytes (placed_by (places_of o) o) s) (section_at (placed_by (places_of o) o) s).header in
    let out : (home_of (length (image o)) (section_at (placed_by (places_of o) o) s).header).out ≡ false = out_false (image o) (file_bytes (placed_by (places_of o) o) s) (section_at (placed_by (places_of o) o) s).header (section_extent o s inside first) (section_raw o s ok dirty passed inside) in
    let fitting = fits_alone o.header.class s (section_at o s) p items filled alone own (item_fits o s un.item inside) in
    let read : decoded (items_kind items) o.header.class o.header.order (encoded o.header.class o.header.order items) ≡ Some items = back o.header.class o.header.order items are fitting in
    let settled = settle-dirty o dirty ∙ ap (settled_over (image o)) (placed-dirty o dirty) in
    let codes = codes_placed o in
    ap (λ (x : Object). content x s) settled
    ∙ content_settled (image o) (placed_by (places_of o) o) s
    ∙ ap (λ (c : Class). content_of c (placed_by (places_of o) o).header.order s (section_at (settled_over (image o) (placed_by (places_of o) o)) s)) codes.0
    ∙ ap (λ (r : Order). content_of o.header.class r s (section_at (settled_over (image o) (placed_by (places_of o) o)) s)) codes.1
    ∙ ap (content_of o.header.class o.header.order s) (section_at-settled (image o) (placed_by (places_of o) o) s (omega arith))
    ∙ content_made o.header.class o.header.order s (settled_section (length (image o)) (file_bytes (placed_by (places_of o) o) s) (section_at (placed_by (places_of o) o) s).header) (items_kind items) (encoded o.header.class o.header.order items) items (made.0 ∙ out) (made.1 ∙ same_kind) (made.2 ∙ bytes) read
