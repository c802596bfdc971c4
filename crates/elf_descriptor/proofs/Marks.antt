-- Dirty marks, found one after another.
use Rattle.std.proofs.Common.{◌≡◌, ℕ, zero, suc, ◌<◌, Bool, true, false, ◌||◌, List, [], ◌∷◌, length, map, get_or, refl, sym, ap, ◌∙◌, arith}
use Rattle.std.specs.List.{list_any}
use Rattle.section_table.specs.elf_object.Object.{Piece}
use Rattle.section_table.specs.Sections.{SectionView as Scn}
use Rattle.elf_descriptor.specs.Bodies.{is_scn_dirty}

or_true : (b : Bool) → (b || true) ≡ true
or_true true = refl
or_true false = refl

-- one that passes is enough
pub any_at : {X : Type 0} (test : X → Bool) (l : List X) (i : ℕ) (d : X) → i < length l → test (get_or l i d) ≡ true → list_any test l ≡ true
any_at test [] i d h e = absurd (omega arith)
any_at test (x ∷ l) zero d h e = rw e refl
any_at test (x ∷ l) (suc i) d h e = rw (any_at test l i d (omega arith) e) (or_true (test x))

pub list_any-map : {X Y : Type 0} (f : X → Y) (test : Y → Bool) (l : List X) → list_any test (map f l) ≡ list_any (λ x. test (f x)) l
list_any-map f test [] = refl
list_any-map f test (x ∷ l) = ap (λ (b : Bool). test (f x) || b) (list_any-map f test l)

-- a section is dirty by its header, or by its pieces
pub header_dirty : (x : Scn) → x.marked ≡ true → true ≡ is_scn_dirty x
unfolding is_scn_dirty
header_dirty x e = ap (λ (b : Bool). b || list_any (λ (p : Piece). p.marked) x.cell.pieces) (sym e)

pub pieces_dirty : (x : Scn) (found : Bool) → x.marked ≡ false
    → found ≡ list_any (λ (p : Piece). p.marked) x.cell.pieces
    → found ≡ is_scn_dirty x
unfolding is_scn_dirty
pieces_dirty x found e is = is
    ∙ ap (λ (b : Bool). b || list_any (λ (p : Piece). p.marked) x.cell.pieces) (sym e)
