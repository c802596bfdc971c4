-- The pieces of a section in the file.
use Rattle.std.proofs.Common.{◌≡◌, ℕ, zero, suc, ◌+◌, ◌-◌, ◌<◌, ◌≤◌, ◌^◌, min, Bool, true, false, List, [], ◌∷◌, ◌++◌, length, drop, map, get_or, Option, Some, None, Ok, refl, sym, ap, ◌∙◌, subst, arith, ⊎_elim}
use Rattle.std.specs.Prelude.{if◌then◌else◌, slice_get, is_none, IsSome}
use Rattle.std.specs.List.{range_with_len, AllByRecursion}
use Rattle.std.proofs.lemmas.Bool.{cases_lt}
use Rattle.std.proofs.lemmas.List.{length-map, get_or-map, get_or_past}
use Rattle.std.proofs.lemmas.List.Elements.{All-get_or}
use Rattle.elf_types.specs.Answers.{answered}
use Rattle.elf_types.specs.declared.errors.ElfError.{ElfError}
use Rattle.elf_types.specs.declared.records.Class.{Class}
use Rattle.elf_types.specs.declared.records.Ehdr.{Ehdr}
use Rattle.elf_types.specs.declared.records.Order.{Order}
use Rattle.elf_types.specs.declared.records.Part.TheVariants as part
use Rattle.elf_update_plan.specs.elf_layout.declared.parts.PartAt.{PartAt}
use Rattle.elf_update_plan.specs.elf_layout.Capping.{capped}
use Rattle.elf_update_plan.specs.elf_layout.Layout.{rounded_up}
use Rattle.elf_update_plan.specs.elf_xlate.declared.content.Items.{Items}
use Rattle.elf_update_plan.specs.elf_xlate.Translation.{encoded, file_size, items_kind, items_count}
use Rattle.elf_update_plan.proofs.elf_xlate.Lengths.{length_encoded}
use Rattle.elf_update_plan.specs.elf_object.Answers.{piece_count, piece_refusal}
use Rattle.elf_update_plan.specs.elf_object.Calls.{piece_align_answer}
use Rattle.elf_update_plan.specs.elf_object.Blocks.{stacked, last_end}
use Rattle.elf_update_plan.specs.elf_object.Object.{Object, Section, Piece, section_at, piece_at, absent_section, home_piece, has_file_bytes, home_is_clean}
use Rattle.elf_update_plan.specs.elf_object.Joined.{aligned_pieces, piece_bytes, piece_blocks, pieces_end, file_bytes}
use Rattle.elf_update_plan.specs.elf_object.Layout.{section_part, table_part, parts_of}
use Rattle.elf_update_plan.specs.elf_object.Valid.{IsObject, IsSection, OthersOwn}
use Rattle.elf_update_plan.proofs.law_object.ImageLaws.{length-joined}
use Rattle.elf_update_plan.proofs.law_object.PlacedLaws.{update_passes}
use Rattle.elf_update_plan.proofs.law_object.CapLaws.{parts_may_be_capped}
use Rattle.elf_update_plan.specs.law_object.Writing.Ready.{IsReady}
use Rattle.elf_update_plan.specs.elf_descriptor.State.{State}
use Rattle.elf_update_plan.specs.elf_descriptor.Held.{AreHeldBytes}
use Rattle.elf_update_plan.proofs.InFileLaws.{inside_of}
use Rattle.elf_update_to.specs.Origins.{absent_piece, IsExtent}
use Rattle.elf_update_to.specs.Descriptors.{stored_pieces}
use Rattle.elf_update_to.proofs.PieceLaws.{last_step, last_within}
use Rattle.elf_update_to.proofs.StoredLaws.{home_in_file}

-- ---- Which pieces there are

pub none_stored : (o : Object) (s : ℕ) → has_file_bytes s (section_at o s) ≡ false
    → 0 ≡ length (stored_pieces o (part.Section s))
none_stored o s none =
    sym (ap (λ (b : Bool). length (if b then aligned_pieces o.header.class o.header.order
    (section_at o s) else [])) none)

some_stored : (o : Object) (s : ℕ) → has_file_bytes s (section_at o s) ≡ true
    → stored_pieces o (part.Section s) ≡ aligned_pieces o.header.class o.header.order (section_at o s)
some_stored o s some =
    ap (λ (b : Bool). if b then aligned_pieces o.header.class o.header.order (section_at o s) else []) some

aligned_count : (class : Class) (order : Order) (c : Section) → length (aligned_pieces class order c) ≡ length c.pieces
unfolding aligned_pieces
aligned_count class order c = length-map c.pieces (λ (p : Piece). (p.align, piece_bytes class order c.raw p))

pub counted : (o : Object) (s n : ℕ) → has_file_bytes s (section_at o s) ≡ true
    → n ≡ piece_count o s → n ≡ length (stored_pieces o (part.Section s))
unfolding piece_count
counted o s n some is =
    is ∙ sym (ap (λ (l : List (ℕ × List ℕ)). length l) (some_stored o s some)
    ∙ aligned_count o.header.class o.header.order (section_at o s))

-- a piece that is there is one of a section that has bytes in the file
pub record HasPiece (o : Object) (s p : ℕ) : Type 0 where
  pub filled : has_file_bytes s (section_at o s) ≡ true
  pub section : s < length o.sections
  pub piece : p < piece_count o s

pub there_is : (o : Object) (s p : ℕ) → p < length (stored_pieces o (part.Section s)) → HasPiece o s p
unfolding piece_count
there_is o s p h = by_bytes (has_file_bytes s (section_at o s)) refl
  where
    by_bytes : (b : Bool) → has_file_bytes s (section_at o s) ≡ b → HasPiece o s p
    by_bytes false e = let none = none_stored o s e in absurd (omega (arith, none, h))
    by_bytes true e = record {
      filled = e;
      section = inside_of o s e;
      piece =
          let count : length (stored_pieces o (part.Section s)) ≡ length (section_at o s).pieces =
          ap (λ (l : List (ℕ × List ℕ)). length l) (some_stored o s e)
          ∙ aligned_count o.header.class o.header.order (section_at o s) in
          omega (arith, count, h);
    }

pub some_there : (o : Object) (s p from n : ℕ) → 0 < n
    → from + n ≤ length (get_or (stored_pieces o (part.Section s)) p absent_piece).1 → HasPiece o s p
some_there o s p from n some within =
    there_is o s p (⊎_elim (λ inside. inside)
    (λ past.
    let none : length (get_or (stored_pieces o (part.Section s)) p absent_piece).1 ≡ 0 =
    ap (λ (x : ℕ × List ℕ). length x.1) (get_or_past (stored_pieces o (part.Section s)) p absent_piece past) in
    absurd (omega (arith, none, some, within))) (cases_lt p (length (stored_pieces o (part.Section s)))))

aligned_at : (class : Class) (order : Order) (c : Section) (p : ℕ) → p < length c.pieces
    → get_or (aligned_pieces class order c) p absent_piece
    ≡ (
      (get_or c.pieces p home_piece).align,
      piece_bytes class order c.raw
          (get_or c.pieces p home_piece),
    )
unfolding aligned_pieces
aligned_at class order c p there =
    get_or-map (λ (x : Piece). (x.align, piece_bytes class order c.raw x)) c.pieces p home_piece
    absent_piece there

pub stored_piece_at : (o : Object) (s p : ℕ) → HasPiece o s p
    → get_or (stored_pieces o (part.Section s)) p absent_piece
    ≡ (
      (piece_at o s p).align,
      piece_bytes o.header.class o.header.order (section_at o s).raw
          (piece_at o s p),
    )
unfolding piece_at piece_count
stored_piece_at o s p is =
    ap (λ (l : List (ℕ × List ℕ)). get_or l p absent_piece) (some_stored o s is.filled)
    ∙ aligned_at o.header.class o.header.order (section_at o s) p is.piece

own_bytes : (class : Class) (order : Order) (raw : List ℕ) (p : Piece) (items : Items)
    → p.own ≡ Some items → piece_bytes class order raw p ≡ encoded class order items
unfolding piece_bytes
own_bytes class order raw p items own = rw own refl

clean_bytes : (class : Class) (order : Order) (raw : List ℕ) (p : Piece) → p.own ≡ None
    → piece_bytes class order raw p ≡ raw
unfolding piece_bytes
clean_bytes class order raw p own = rw own refl

-- the bytes of an own piece, and of a clean one
pub own_stored : (o : Object) (s p : ℕ) (items : Items) → HasPiece o s p → (piece_at o s p).own ≡ Some items
    → (get_or (stored_pieces o (part.Section s)) p absent_piece).1 ≡ encoded o.header.class o.header.order items
own_stored o s p items is own =
    ap (λ (x : ℕ × List ℕ). x.1) (stored_piece_at o s p is) ∙ own_bytes o.header.class o.header.order
    (section_at o s).raw (piece_at o s p) items own

pub clean_stored : (o : Object) (s p : ℕ) → HasPiece o s p → (piece_at o s p).own ≡ None
    → (get_or (stored_pieces o (part.Section s)) p absent_piece).1 ≡ (section_at o s).raw
clean_stored o s p is own =
    ap (λ (x : ℕ × List ℕ). x.1) (stored_piece_at o s p is) ∙ clean_bytes o.header.class o.header.order
    (section_at o s).raw (piece_at o s p) own

-- ---- The clean piece is the first

clean_first : (l : List Piece) (p : ℕ) → OthersOwn l → p < length l → (get_or l p home_piece).own ≡ None → p ≡ 0
clean_first [] p others there own = absurd (omega arith)
clean_first (x ∷ l) zero others there own = refl
clean_first (x ∷ l) (suc p) others there own =
    let some = All-get_or (λ (q : Piece). IsSome q.own) l p home_piece (omega arith) others in
    let clash : false ≡ true = subst (λ (r : Option Items). IsSome r) own some in cc

first_clean : (l : List Piece) → 0 < length l → (get_or l 0 home_piece).own ≡ None
    → elim (slice_get l 0) [ None ↦ false | Some p ↦ is_none p.own ] ≡ true
first_clean [] there own = absurd (omega arith)
first_clean (x ∷ l) there own = ap (λ (r : Option Items). is_none r) own

pub record IsClean (o : Object) (s p : ℕ) : Type 0 where
  pub first : p ≡ 0
  pub clean : home_is_clean (section_at o s) ≡ true

is_section : (o : Object) (s : ℕ) → IsObject o → s < length o.sections → IsSection o.header.class (section_at o s)
unfolding section_at
is_section o s is there = All-get_or (IsSection o.header.class) o.sections s absent_section there is.sections

pub clean_is : (o : Object) (s p : ℕ) → IsObject o → HasPiece o s p → (piece_at o s p).own ≡ None → IsClean o s p
unfolding piece_at home_is_clean piece_count
clean_is o s p object is own =
    let first = clean_first (section_at o s).pieces p (is_section o s object is.section).others is.piece own in
    record {
      first = first;
      clean = first_clean (section_at o s).pieces (omega (arith, is.piece))
          (subst (λ (n : ℕ). (get_or (section_at o s).pieces n home_piece).own ≡ None) first own);
    }

pub home_long : (o : Object) (s : ℕ) → IsObject o → s < length o.sections
    → (section_at o s).home.out ≡ false → length (section_at o s).raw ≡ (section_at o s).home.len
home_long o s object there inside = (is_section o s object there).home.inside inside

-- ---- Lengths are told in 64 bits

IsSmall : PartAt → Type 0
IsSmall p = p.len < 2 ^ 64

all_small : (ps : List PartAt) → map capped ps ≡ ps → AllByRecursion IsSmall ps
unfolding capped IsSmall
all_small [] e = tt
all_small (p ∷ ps) e =
    let here : capped p ≡ p = ap (λ (l : List PartAt). get_or l 0 p) e in
    let len : min p.len (2 ^ 64 - 1) ≡ p.len = ap (λ (q : PartAt). q.len) here in
    (omega (arith, len), all_small ps (ap (λ (l : List PartAt). drop 1 l) e))

small_of : (f : ℕ → PartAt) (t : PartAt) (a n k : ℕ) → k < n
    → AllByRecursion IsSmall (map f (range_with_len a n) ++ t ∷ []) → IsSmall (f (a + k))
small_of f t a zero k there each = absurd (omega arith)
small_of f t a (suc n) zero there each = let at : a ≡ a + 0 = omega arith in subst (λ (m : ℕ). IsSmall (f m)) at each.0
small_of f t a (suc n) (suc k) there each =
    let at : a + 1 + k ≡ a + suc k = omega arith in
    subst (λ (m : ℕ). IsSmall (f m)) at (small_of f t (a + 1) n k (omega arith) each.1)

section_small : (o : Object) (s : ℕ) → IsReady o → 1 ≤ s → s < length o.sections → length (file_bytes o s) < 2 ^ 64
unfolding parts_of section_part IsSmall
section_small o s ready first there =
    let same = (parts_may_be_capped o ready.object).same (update_passes o ready.dirty ready.passed).1 in
    let each = all_small (parts_of o) same in
    let small = small_of (section_part o) (table_part o) 1 (length o.sections - 1) (s - 1)
    (omega (arith, first, there)) each.1.1 in
    let at : 1 + (s - 1) ≡ s = omega (arith, first) in
    subst (λ (m : ℕ). length (file_bytes o m) < 2 ^ 64) at small

last_of : (end : ℕ) (l : List (ℕ × List ℕ)) (p : ℕ) → p < length l → length (get_or l p absent_piece).1
    ≤ last_end end (stacked end l)
last_of end [] p there = absurd (omega arith)
last_of end (x ∷ l) zero there =
    let step = last_step end x l in
    let within = last_within (rounded_up end x.0 + length x.1) l in
    omega (arith, step, within)
last_of end (x ∷ l) (suc p) there =
    let step = last_step end x l in
    let rest = last_of (rounded_up end x.0 + length x.1) l p (omega arith) in
    omega (arith, step, rest)

not_first : (s : ℕ) (c : Section) → has_file_bytes s c ≡ true → 1 ≤ s
unfolding has_file_bytes
not_first zero c e = cc
not_first (suc s) c e = omega arith

pub piece_small : (o : Object) (s p : ℕ) → IsReady o → HasPiece o s p
    → length (get_or (stored_pieces o (part.Section s)) p absent_piece).1 < 2 ^ 64
unfolding pieces_end piece_blocks piece_count
piece_small o s p ready is =
    let small = section_small o s ready (not_first s (section_at o s) is.filled) is.section in
    let whole = length-joined o s is.filled in
    let count = aligned_count o.header.class o.header.order (section_at o s) in
    let one = last_of 0 (aligned_pieces o.header.class o.header.order (section_at o s)) p
    (omega (arith, count, is.piece)) in
    let same : length (get_or (stored_pieces o (part.Section s)) p absent_piece).1
    ≡ length (get_or (aligned_pieces o.header.class o.header.order (section_at o s)) p absent_piece).1 =
    ap (λ (l : List (ℕ × List ℕ)). length (get_or l p absent_piece).1) (some_stored o s is.filled) in
    omega (arith, small, whole, one, same)

own_long : (o : Object) (s p : ℕ) (items : Items) → HasPiece o s p → (piece_at o s p).own ≡ Some items
    → length (get_or (stored_pieces o (part.Section s)) p absent_piece).1
    ≡ file_size (items_kind items) o.header.class (items_count items)
own_long o s p items is own =
    ap (λ (l : List ℕ). length l) (own_stored o s p items is own) ∙ length_encoded o.header.class o.header.order items

-- ---- The length of a piece

pub own_small : (o : Object) (s p : ℕ) (items : Items) (h : Ehdr) → IsReady o → HasPiece o s p
    → (piece_at o s p).own ≡ Some items → h.class ≡ o.header.class
    → file_size (items_kind items) h.class (items_count items) < 2 ^ 64
own_small o s p items h ready is own same =
    let small = piece_small o s p ready is in
    let long = own_long o s p items is own in
    let size = ap (λ (class : Class). file_size (items_kind items) class (items_count items)) same in
    omega (arith, small, long, size)

pub own_is : (o : Object) (s p : ℕ) (items : Items) (h : Ehdr) (n : ℕ) → HasPiece o s p
    → (piece_at o s p).own ≡ Some items → h.class ≡ o.header.class
    → n ≡ file_size (items_kind items) h.class (items_count items)
    → n ≡ length (get_or (stored_pieces o (part.Section s)) p absent_piece).1
own_is o s p items h n is own same size =
    size ∙ ap (λ (class : Class). file_size (items_kind items) class (items_count items)) same
    ∙ sym (own_long o s p items is own)

pub held_is : {S : Type 0} (e : State S) (s p n : ℕ) (bytes : List ℕ) → HasPiece e.o s p
    → AreHeldBytes e s p bytes → n ≡ length bytes
    → n ≡ length (get_or (stored_pieces e.o (part.Section s)) p absent_piece).1
held_is e s p n bytes is held long =
    long ∙ held.alike ∙ sym (ap (λ (l : List ℕ). length l) (clean_stored e.o s p is held.clean))

pub unread_is : (o : Object) (s p n : ℕ) → IsReady o → HasPiece o s p → (piece_at o s p).own ≡ None
    → n ≡ (section_at o s).home.len
    → n ≡ length (get_or (stored_pieces o (part.Section s)) p absent_piece).1
unread_is o s p n ready is own long =
    let clean = clean_is o s p ready.object is own in
    long ∙ sym (ap (λ (l : List ℕ). length l) (clean_stored o s p is own)
    ∙ home_long o s ready.object is.section (home_in_file o s ready is.section is.filled clean.clean))

pub extent_is : (o : Object) (s p align len : ℕ) → HasPiece o s p → align ≡ (piece_at o s p).align
    → len ≡ length (get_or (stored_pieces o (part.Section s)) p absent_piece).1
    → IsExtent (record { align = align; len = len }) (get_or (stored_pieces o (part.Section s)) p absent_piece)
extent_is o s p align len is same long = record {
  align = same ∙ sym (ap (λ (x : ℕ × List ℕ). x.0) (stored_piece_at o s p is));
  len = long;
}

aligned_as : (r : Option ElfError) (x y : ℕ) → Ok y ≡ answered r x → y ≡ x
aligned_as None x y h = cc
aligned_as (Some e) x y h = cc

pub align_is : (o : Object) (s p align : ℕ) → Ok align ≡ piece_align_answer o s p → align ≡ (piece_at o s p).align
unfolding piece_align_answer
align_is o s p align h = aligned_as (piece_refusal o s p) (piece_at o s p).align align h
