-- What edits leave.
use Rattle.std.proofs.Common.{◌≡◌, ℕ, ◌<◌, ◌^◌, Bool, true, false, List, [], ◌∷◌, ◌++◌, length, get_or, set, subst, Option, Some, None, Result, Ok, Err, refl, sym, ap, ◌∙◌, arith, length-append}
use Rattle.std.specs.Prelude.{is_some, IsTrue, IfSome, OnOk, OnErr, slice_set}
use Rattle.elf_types.specs.declared.records.Kind.TheVariants as kinds
use Rattle.std.specs.Prelude.{nat_le, ◌&&◌}
use Rattle.std.specs.Int.{is_power_of_two}
use Rattle.std.proofs.lemmas.Bool.{leb-true}
use Rattle.std.proofs.lemmas.List.{set-get_or, length-set}
use Rattle.std.proofs.lemmas.List.Elements.{All-nil, All-cons, All-set, All-push, All-get_or}
use Rattle.elf_types.specs.declared.constants.TheConstants.{MAX_PIECES, MAX_PIECE_ALIGN}
use Rattle.elf_object.specs.elf_xlate.declared.content.Items.{Items}
use Rattle.elf_object.specs.Object.{Home, Piece, home_piece}
use Rattle.elf_object.specs.Steps.{own_piece}
use Rattle.elf_object.specs.Calls.{is_piece_align}
use Rattle.elf_object.specs.Valid.{IsPiece, OthersOwn}
use Rattle.elf_object.proofs.PieceLaws.{IsOwn, others_set, others_push, own_piece_is, home_piece_is}
use Rattle.section_data.specs.Views.{CellView, IsCell, opened_cell, new_cell}
use Rattle.section_data.specs.Held.{piece_in}
use Rattle.section_data.specs.Leaves.{Claims, replaced, marked_piece}
use Rattle.section_data.proofs.Holdings.{ready_own, ready_clean}

held_kept : (held : Option Items) → IfSome held (λ items. held ≡ Some items)
held_kept None = tt
held_kept (Some items) = refl

abbrev made_of : Option Items → ℕ → Bool → Piece
made_of own align marked = record { own = own; align = align; marked = marked }

piece_is : (q : Piece) (items : Items) → q.own ≡ Some items → q.marked ≡ true → q ≡ own_piece items q.align
piece_is q items own marked =
    ap (λ (o : Option Items). made_of o q.align q.marked) own ∙ ap (λ (m : Bool). made_of (Some items) q.align m) marked

some_of : {X : Type 0} (o : Option X) → is_some o ≡ true → (x : X) × (o ≡ Some x)
some_of None h = cc
some_of (Some x) h = (x, refl)

-- an own piece is claimed as it stands
pub claims_own : (c : CellView) (p : ℕ) → is_some (piece_in c p).own ≡ true → (piece_in c p).marked ≡ true → Claims c c p
unfolding piece_in
claims_own c p own marked =
    let there = some_of (piece_in c p).own own in
    let is = piece_is (piece_in c p) there.0 there.1 marked in
    record {
      items = there.0;
      held = c.held;
      cell = ap (λ (l : List Piece). record c { pieces = l })
          (sym (set-get_or c.pieces p home_piece) ∙ ap (λ (q : Piece). slice_set c.pieces p q) is);
      stood = ready_own c p there.0 there.1;
      kept = held_kept c.held;
      same = λ h. refl;
    }

pub claims_clean : (old mid new : CellView) (p : ℕ) (items : Items) → is_some (piece_in old p).own ≡ false → old.held ≡ Some items
    → mid ≡ record old { held = None } → new ≡ replaced mid p items → Claims old new p
unfolding piece_in
claims_clean old mid new p items clean there is after = record {
  items = items;
  held = None;
  cell = after ∙ ap (λ (m : CellView). replaced m p items) is;
  stood = ready_clean old p clean ∙ there;
  kept = tt;
  same = λ own. let never = sym clean ∙ own in cc;
}

-- ---- What is a cell

cell_set : (c : CellView) (p : ℕ) (q : Piece) → IsCell c → IsPiece q → OthersOwn (set c.pieces p q)
    → IsCell (record c { pieces = set c.pieces p q })
cell_set c p q cell is others = record {
  sized = cell.sized;
  outside = cell.outside;
  no_room = cell.no_room;
  few = let same = length-set c.pieces p q in omega (arith, cell.few, same);
  each = All-set IsPiece c.pieces p q is cell.each;
  others = others;
  empty = cell.empty;
}

-- a piece is given items of its own
pub replaced_cell : (c : CellView) (p : ℕ) (items : Items) (q r : Piece) → IsCell c → p < length c.pieces
    → q ≡ own_piece items r.align → r ≡ get_or c.pieces p home_piece → IsCell (record c { pieces = set c.pieces p q })
replaced_cell c p items q r cell there is read =
    let old : IsPiece r = subst IsPiece (sym read) (All-get_or IsPiece c.pieces p home_piece there cell.each) in
    let new = own_piece_is items r.align old.align in
    subst (λ (q : Piece). IsCell (record c { pieces = set c.pieces p q })) (sym is)
    (cell_set c p (own_piece items r.align) cell new (others_set c.pieces p (own_piece items r.align) cell.others refl))

pub replaced_is : (c : CellView) (p : ℕ) (items : Items) (q r : Piece) → q ≡ own_piece items r.align
    → r ≡ get_or c.pieces p home_piece → record c { pieces = set c.pieces p q } ≡ replaced c p items
unfolding piece_in
replaced_is c p items q r is read =
    ap (λ (q : Piece). record c { pieces = set c.pieces p q }) (is ∙ ap (λ (r : Piece). own_piece items r.align) read)

pub marked_is : (c : CellView) (p : ℕ) (q r : Piece) → q ≡ record r { marked = true }
    → r ≡ get_or c.pieces p home_piece → record c { pieces = set c.pieces p q } ≡ marked_piece c p
unfolding piece_in
marked_is c p q r is read =
    ap (λ (q : Piece). record c { pieces = set c.pieces p q }) (is ∙ ap (λ (r : Piece). record r { marked = true }) read)

-- ---- Cells as they are made

pub opened_is : (section : ℕ) (home : Home) → (home.kind ≡ kinds.Empty → home.len ≡ 0) → IsCell (opened_cell section home)
opened_is section home empty = record {
  sized = tt;
  outside = λ h. refl;
  no_room = λ h. refl;
  few = omega arith;
  each = All-cons IsPiece home_piece [] home_piece_is (All-nil IsPiece);
  others = All-nil IsOwn;
  empty = empty;
}

pub new_is : (section : ℕ) → IsCell (new_cell section)
new_is section = record {
  sized = tt;
  outside = λ h. refl;
  no_room = λ h. refl;
  few = omega arith;
  each = All-nil IsPiece;
  others = tt;
  empty = λ h. refl;
}

pub appended_cell : (c : CellView) (items : Items) (align : ℕ) → IsCell c → length c.pieces < MAX_PIECES
    → IsTrue (is_piece_align align) → IsCell (record c { pieces = c.pieces ++ own_piece items align ∷ [] })
appended_cell c items align cell few good = record {
  sized = cell.sized;
  outside = cell.outside;
  no_room = cell.no_room;
  few = omega (arith, few, length-append c.pieces (own_piece items align ∷ []));
  each = All-push IsPiece c.pieces (own_piece items align) cell.each (own_piece_is items align good);
  others = others_push c.pieces (own_piece items align) cell.others refl;
  empty = cell.empty;
}

-- an own piece is pushed, or there is no memory for it
pub pushed_cell : {A E : Type 0} (r : Result A E) (c now : CellView) (q : Piece) (items : Items) (align : ℕ) → IsCell c
    → length c.pieces < MAX_PIECES → IsTrue (is_piece_align align) → q ≡ own_piece items align
    → OnOk r (now ≡ record c { pieces = c.pieces ++ q ∷ [] }) → OnErr r (now ≡ c) → IsCell now
pushed_cell (Ok x) c now q items align cell few good is after same =
    subst IsCell (sym (after ∙ ap (λ (q : Piece). record c { pieces = c.pieces ++ q ∷ [] }) is)) (appended_cell c items align cell few good)
pushed_cell (Err e) c now q items align cell few good is after same = subst IsCell (sym same) cell

right_of : (a b : Bool) → (a && b) ≡ true → b ≡ true
right_of true b both = both
right_of false b both = cc

-- an alignment of a piece fits four bytes
pub small_align : (align : ℕ) → IsTrue (is_piece_align align) → align < 2 ^ 32
unfolding is_piece_align
small_align align good = let low = leb-true align MAX_PIECE_ALIGN (right_of (is_power_of_two align) (nat_le align MAX_PIECE_ALIGN) good) in omega (arith, low)
