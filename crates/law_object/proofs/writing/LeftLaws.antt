-- A part that does not change stands in the base, and so does each place that is left alone.
use Rattle.std.proofs.Common.{◌≡◌, ℕ, ◌+◌, ◌<◌, Bool, true, false, not, ◌&&◌, ◌||◌, List, [], ◌∷◌, length, take, drop, get_or, Option, Some, None, refl, sym, ap, ◌∙◌, subst, arith, ⊎_elim, ◌⊎◌, inl, inr}
use Rattle.std.specs.Prelude.{All, IfSome, IsSome, IsTrue, if◌then◌else◌, slice_get, map, is_none}
use Rattle.std.specs.List.{list_any}
use Rattle.std.proofs.lemmas.List.{nil_from_length}
use Rattle.std.proofs.lemmas.List.Elements.{All-head, All-tail}
use Rattle.elf_types.specs.declared.records.Part.{Part}
use Rattle.elf_types.specs.declared.records.Part.TheVariants as part
use Rattle.elf_types.specs.declared.errors.ElfError.{ElfError}
use Rattle.elf_types.specs.declared.errors.ElfError.TheVariants.{OutOfFile}
use Rattle.elf_object.specs.elf_xlate.declared.content.Items.{Items}
use Rattle.elf_object.specs.elf_xlate.Translation.{encoded}
use Rattle.elf_types.specs.Answers.{refused_if}
use Rattle.elf_object.specs.Blocks.{stacked, last_end, spread}
use Rattle.elf_object.specs.Object.{Object, Section, Piece, absent_section, section_at, has_file_bytes, home_is_clean, some_piece_marked, is_dirty}
use Rattle.elf_object.specs.Joined.{piece_bytes, aligned_pieces, piece_blocks, pieces_end, file_bytes}
use Rattle.elf_object.specs.Layout.{places_of, placed_by, placed}
use Rattle.elf_object.specs.Image.{front_blocks, section_block}
use Rattle.elf_object.specs.Refusal.{missing_in_section, missing_home}
use Rattle.elf_object.proofs.ChangedLaws.{header_changed-dirty, segments_changed-dirty, table_changed-dirty, section_changed-dirty}
use Rattle.elf_object.specs.Changed.{block_of, front_differs, header_changed, segments_changed, table_changed, is_at_home, section_changed}
use Rattle.elf_object.specs.Valid.{IsPiece, OthersOwn}
use Rattle.law_object.proofs.KeepLaws.{section_at_is}
use Rattle.law_object.proofs.ImageLaws.{placed-dirty, joined-none}
use Rattle.law_object.proofs.ItemLaws.{alone_spread, row_none}
use Rattle.law_object.proofs.PlacedLaws.{update_passes}
use Rattle.law_object.proofs.SettledLaws.{unrefused}
use Rattle.law_object.proofs.StandLaws.{joined-placed}
use Rattle.law_object.proofs.writing.Bools.{neither}
use Rattle.std.proofs.lemmas.Bool.{not-false}
use Rattle.law_object.specs.Writing.Lines.{HoldsBlock}
use Rattle.law_object.specs.Writing.Based.{some_unmarked, HomeStands, IsBased}
use Rattle.law_object.specs.Writing.Ready.{IsReady}
use Rattle.law_object.proofs.writing.HeldLaws.{same_holds, same_extent_is, empty_holds}

-- ---- The front

-- the place and the bytes of a part of the front that does not differ are those that were last written
front_stands : (o : Object) (p : Part) → is_dirty o ≡ true → front_differs (places_of o) o p ≡ false → HoldsBlock o.base (block_of p o.written_front) → HoldsBlock o.base (block_of p (front_blocks (placed o)))
unfolding front_differs
front_stands o p dirty same stands =
    let holds = same_holds o.base (block_of p (front_blocks (placed_by (places_of o) o))) (block_of p o.written_front) (not-false _ same) stands in
    subst (λ (q : Object). HoldsBlock o.base (block_of p (front_blocks q))) (sym (placed-dirty o dirty)) holds

pub header_stands : (o : Object) → is_dirty o ≡ true → IsBased o → header_changed o ≡ false → HoldsBlock o.base (front_blocks (placed o)).header
header_stands o dirty is same =
    let tests = neither (o.marked || o.header_marked) (front_differs (places_of o) o part.Header) (sym (header_changed-dirty o dirty) ∙ same) in
    let marks = neither o.marked o.header_marked tests.0 in
    front_stands o part.Header dirty tests.1 (is.header marks.0)

pub segments_stand : (o : Object) → is_dirty o ≡ true → IsBased o → segments_changed o ≡ false → HoldsBlock o.base (front_blocks (placed o)).segments
segments_stand o dirty is same =
    let tests = neither (o.marked || o.segments_marked) (front_differs (places_of o) o part.Segments) (sym (segments_changed-dirty o dirty) ∙ same) in
    let marks = neither o.marked o.segments_marked tests.0 in
    front_stands o part.Segments dirty tests.1 (is.segments marks.0)

pub table_stands : (o : Object) → is_dirty o ≡ true → IsBased o → table_changed o ≡ false → HoldsBlock o.base (front_blocks (placed o)).table
table_stands o dirty is same =
    let tests = neither (o.marked || list_any (λ s. s.marked) o.sections) (front_differs (places_of o) o part.Table) (sym (table_changed-dirty o dirty) ∙ same) in
    let marks = neither o.marked (list_any (λ s. s.marked) o.sections) tests.0 in
    front_stands o part.Table dirty tests.1 (is.table marks.0)

-- ---- A section that does not change

-- a piece that is not marked is the clean home piece
not_own : (p : Piece) → IsPiece p → p.marked ≡ false → p.own ≡ None
not_own p is clean = by_own p.own refl is.own
  where
    by_own : (x : Option Items) → p.own ≡ x → IfSome x (λ items. IsTrue p.marked) → x ≡ None
    by_own None e own = refl
    by_own (Some items) e own = let clash : true ≡ false = sym own ∙ clean in cc

-- pieces of which none is marked are the clean home piece alone, or none
record IsAlone (l : List Piece) (p : Piece) : Type 0 where
  pieces : l ≡ p ∷ []
  clean : p.own ≡ None
  unmarked : p.marked ≡ false

alone_of : (l : List Piece) → All IsPiece l → OthersOwn l → list_any (λ p. p.marked) l ≡ false → (l ≡ []) ⊎ ((p : Piece) × IsAlone l p)
alone_of [] each others none = inl refl
alone_of (p ∷ []) each others none =
    let marks = neither p.marked false none in
    inr (p, record { pieces = refl; clean = not_own p (All-head IsPiece p [] each) marks.0; unmarked = marks.0 })
alone_of (p ∷ q ∷ l) each others none =
    let marks = neither p.marked (list_any (λ x. x.marked) (q ∷ l)) none in
    let further = neither q.marked (list_any (λ x. x.marked) l) marks.1 in
    let second = All-head IsPiece q l (All-tail IsPiece p (q ∷ l) each) in
    let own : IsSome q.own = All-head (λ x. IsSome x.own) q l others in
    let no_own = subst (λ (x : Option Items). IsSome x) (not_own q second further.0) own in
    absurd (let clash : false ≡ true = no_own in cc)

joined_empty : (o : Object) (s : ℕ) → (section_at o s).pieces ≡ [] → file_bytes o s ≡ []
unfolding file_bytes pieces_end piece_blocks aligned_pieces stacked last_end spread
joined_empty o s none = by_test (has_file_bytes s (section_at o s))
  where
    by_test : (b : Bool) → (if b then spread (last_end 0 (stacked 0 (aligned_pieces o.header.class o.header.order (section_at o s)))) (λ _. o.fill) (stacked 0 (aligned_pieces o.header.class o.header.order (section_at o s))) else []) ≡ []
    by_test true = rw none refl
    by_test false = refl

joined_raw : (o : Object) (s : ℕ) (p : Piece) → has_file_bytes s (section_at o s) ≡ true → IsAlone (section_at o s).pieces p → file_bytes o s ≡ (section_at o s).raw
unfolding file_bytes pieces_end piece_blocks aligned_pieces piece_bytes
joined_raw o s p filled alone =
    let raw = (section_at o s).raw in
    let bytes : elim (p.own) [ None ↦ (section_at o s).raw | Some l ↦ encoded o.header.class o.header.order l ] ≡ (section_at o s).raw = ap (λ (x : Option Items). elim x [ None ↦ (section_at o s).raw | Some l ↦ encoded o.header.class o.header.order l ]) alone.clean in
    let one : map (λ q. (q.align, elim (q.own) [ None ↦ (section_at o s).raw | Some l ↦ encoded o.header.class o.header.order l ])) (section_at o s).pieces ≡ (p.align, (section_at o s).raw) ∷ [] =
    ap (map (λ q. (q.align, elim (q.own) [ None ↦ (section_at o s).raw | Some l ↦ encoded o.header.class o.header.order l ]))) alone.pieces ∙ ap (λ (l : List ℕ). (p.align, l) ∷ []) bytes in
    rw filled (ap (λ (l : List (ℕ × List ℕ)). spread (last_end 0 (stacked 0 l)) (λ _. o.fill) (stacked 0 l)) one ∙ alone_spread p.align (section_at o s).raw o.fill)

-- its home lies in the file
home_inside : (o : Object) (s : ℕ) (p : Piece) → IsReady o → s < length o.sections → has_file_bytes s (section_at o s) ≡ true → IsAlone (section_at o s).pieces p → (section_at o s).home.out ≡ false
unfolding missing_home missing_in_section section_at home_is_clean
home_inside o s p ready inside filled alone =
    let un = unrefused o (update_passes o ready.dirty ready.passed).0 in
    let at : 0 + s ≡ s = omega arith in
    let here : missing_in_section s (get_or o.sections s absent_section) ≡ None = ap (λ (k : ℕ). missing_in_section k (get_or o.sections s absent_section)) (sym at) ∙ row_none missing_in_section 0 o.sections s absent_section un.missing inside in
    let clean : elim (slice_get (get_or o.sections s absent_section).pieces 0) [ None ↦ false | Some q ↦ is_none q.own ] ≡ true = ap (λ (l : List Piece). elim (slice_get l 0) [ None ↦ false | Some q ↦ is_none q.own ]) alone.pieces ∙ ap (λ (x : Option Items). is_none x) alone.clean in
    refused_not (has_file_bytes s (get_or o.sections s absent_section)) _ (get_or o.sections s absent_section).home.out (OutOfFile s) here filled clean
  where
    refused_not : (a b c : Bool) (e : ElfError) → refused_if (a && b && c) e ≡ None → a ≡ true → b ≡ true → c ≡ false
    refused_not true true true e h x y = cc
    refused_not true true false e h x y = refl
    refused_not true false c e h x y = cc
    refused_not false b c e h x y = cc

unmarked_some : (c : Section) (p : Piece) → IsAlone c.pieces p → some_unmarked c ≡ true
unfolding some_unmarked
unmarked_some c p alone =
    ap (λ (l : List Piece). list_any (λ x. not x.marked) l) alone.pieces ∙ ap (λ (b : Bool). not b || false) alone.unmarked

unchanged_tests : (a b c : Bool) → (a && (b || not c)) ≡ false → a ≡ true → (b ≡ false) × (c ≡ true)
unchanged_tests true false true h e = (refl, refl)
unchanged_tests true false false h e = cc
unchanged_tests true true c h e = cc
unchanged_tests false b c h e = cc

block_is : (q : Object) (s : ℕ) → section_block q s ≡ record { at = (section_at q s).header.offset; bytes = file_bytes q s }
unfolding section_block
block_is q s = refl

placed_joined : (o : Object) (s : ℕ) → is_dirty o ≡ true → (section_block (placed o) s).bytes ≡ file_bytes o s
unfolding section_block
placed_joined o s dirty = ap (λ (q : Object). file_bytes q s) (placed-dirty o dirty) ∙ joined-placed (places_of o) o s

pub home_at : (o : Object) (s : ℕ) → IsBased o → s < length o.sections → HomeStands o.base (section_at o s)
unfolding section_at
home_at o s is inside = is.homes s absent_section inside

pub section_stands : (o : Object) (s : ℕ) → IsReady o → IsBased o → s < length o.sections → section_changed o s ≡ false → HoldsBlock o.base (section_block (placed o) s)
unfolding is_at_home some_piece_marked
section_stands o s ready is inside same = by_bytes (has_file_bytes s (section_at o s)) refl
  where
    bytes : (section_block (placed o) s).bytes ≡ file_bytes o s
    bytes = placed_joined o s ready.dirty

    by_bytes : (b : Bool) → has_file_bytes s (section_at o s) ≡ b → HoldsBlock o.base (section_block (placed o) s)
    by_bytes false e = empty_holds o.base (section_block (placed o) s) (bytes ∙ joined-none o s e)
    by_bytes true filled =
        let tests = unchanged_tests (has_file_bytes s (section_at o s)) (list_any (λ p. p.marked) (section_at o s).pieces) _ (sym (section_changed-dirty o s ready.dirty) ∙ same) filled in
        let c = section_at_is o s ready.object in
        ⊎_elim
        (λ none. empty_holds o.base (section_block (placed o) s) (bytes ∙ joined_empty o s none))
        (λ one.
        let raw = joined_raw o s one.0 filled one.1 in
        let out = home_inside o s one.0 ready inside filled one.1 in
        let stands = home_at o s is inside in
        let home = stands (unmarked_some (section_at o s) one.0 one.1) out in
        ⊎_elim
        (λ e.
        let at = e.0 in
        let len : length (section_block (placed o) s).bytes ≡ (section_at o s).home.len = ap length bytes ∙ e.1 in
        ap (λ (n : ℕ). take n (drop (section_block (placed o) s).at o.base)) len
        ∙ ap (λ (a : ℕ). take (section_at o s).home.len (drop a o.base)) at
        ∙ home ∙ sym raw ∙ sym bytes)
        (λ e. empty_holds o.base (section_block (placed o) s) (bytes ∙ nil_from_length (file_bytes o s) e.0))
        (same_extent_is (section_block (placed o) s).at (length (file_bytes o s)) (section_at o s).home.at (section_at o s).home.len tests.1))
        (alone_of (section_at o s).pieces c.pieces c.others tests.0)
