-- The pieces of an object in which nothing is dirty.
use Rattle.std.proofs.Common.{◌≡◌, ◌<◌, ◌||◌, ℕ, zero, suc, Bool, true, false, List, [], ◌∷◌, length, get_or, Option, Some, None, refl, ap, arith}
use Rattle.std.specs.Prelude.{All, IfSome, IsTrue}
use Rattle.std.specs.List.{list_any}
use Rattle.std.proofs.lemmas.Bool.{or_parts}
use Rattle.std.proofs.lemmas.List.Elements.{All-head}
use Rattle.rebuild_names.specs.elf_xlate.declared.content.Items.{Items}
use Rattle.rebuild_names.specs.elf_xlate.Translation.{items_kind}
use Rattle.rebuild_making.specs.elf_object.Object.{Object, Section, Piece, section_at, piece_at, absent_section, home_piece, is_dirty, some_section_marked, some_piece_marked}
use Rattle.rebuild_making.specs.elf_object.Answers.{kind_at}
use Rattle.rebuild_making.specs.elf_object.Valid.{IsObject, IsPiece}
use Rattle.elf_update_plan.proofs.law_object.KeepLaws.{section_at_is}

-- ---- Marks

last_false : (a b c d : Bool) → (a || b || c || d) ≡ false → d ≡ false
last_false true b c d h = cc
last_false false true c d h = cc
last_false false false true d h = cc
last_false false false false d h = h

none_of : {X : Type 0} (p : X → Bool) (l : List X) (i : ℕ) (d : X) → list_any p l ≡ false
    → i < length l → p (get_or l i d) ≡ false
none_of p [] i d none below = absurd (omega arith)
none_of p (x ∷ l) zero d none below = (or_parts (p x) (list_any p l) none).0
none_of p (x ∷ l) (suc i) d none below =
    none_of p l i d (or_parts (p x) (list_any p l) none).1 (omega arith)

sections_unmarked : (o : Object) → is_dirty o ≡ false
    → list_any (λ (c : Section). c.marked || some_piece_marked c) o.sections ≡ false
unfolding is_dirty some_section_marked
sections_unmarked o clean = last_false o.marked o.header_marked o.segments_marked _ clean

pieces_unmarked : (o : Object) (s : ℕ) → is_dirty o ≡ false → s < length o.sections
    → list_any (λ (p : Piece). p.marked) (section_at o s).pieces ≡ false
unfolding section_at some_piece_marked
pieces_unmarked o s clean below =
    let c = get_or o.sections s absent_section in
    (or_parts c.marked (list_any (λ (p : Piece). p.marked) c.pieces)
    (none_of (λ (c : Section). c.marked || list_any (λ (p : Piece). p.marked) c.pieces)
    o.sections s absent_section (sections_unmarked o clean) below)).1

-- ---- The first piece

-- a piece without a mark is not own
not_own : (p : Piece) → IsPiece p → p.marked ≡ false → p.own ≡ None
not_own p is unmarked = by_own p.own is.own
  where
    by_own : (own : Option Items) → IfSome own (λ items. IsTrue p.marked) → own ≡ None
    by_own None marked = refl
    by_own (Some items) marked = cc

first_clean : (l : List Piece) → All IsPiece l → list_any (λ (p : Piece). p.marked) l ≡ false
    → (get_or l 0 home_piece).own ≡ None
first_clean [] all none = refl
first_clean (p ∷ l) all none =
    not_own p (All-head IsPiece p l all)
    (or_parts p.marked (list_any (λ (q : Piece). q.marked) l) none).0

pub clean_piece : (o : Object) (s : ℕ) → IsObject o → is_dirty o ≡ false
    → s < length o.sections → (piece_at o s 0).own ≡ None
unfolding piece_at
clean_piece o s is clean below =
    first_clean (section_at o s).pieces (section_at_is o s is).pieces
    (pieces_unmarked o s clean below)

pub clean_kind : (o : Object) (s : ℕ) → IsObject o → is_dirty o ≡ false
    → s < length o.sections → kind_at o s 0 ≡ (section_at o s).home.kind
unfolding kind_at
clean_kind o s is clean below =
    ap (λ (own : Option Items).
    elim own [ None ↦ (section_at o s).home.kind | Some items ↦ items_kind items ])
    (clean_piece o s is clean below)
