-- A piece that becomes own.
use Rattle.std.proofs.Common.{◌≡◌, ℕ, ◌<◌, Bool, false, List, length, true, Option, Some, None, Result, Err, refl, sym, ap, ◌∙◌, subst}
use Rattle.std.specs.Prelude.{IfSome, IsTrue, is_some, [], ◌∷◌, ◌||◌}
use Rattle.std.specs.Option.{option_and_then}
use Rattle.std.proofs.lemmas.List.{get_or-set_same, length-set}
use Rattle.elf_types.specs.declared.records.Class.{Class}
use Rattle.elf_types.specs.declared.records.Order.{Order}
use Rattle.elf_types.specs.declared.records.Kind.{Kind}
use Rattle.elf_types.specs.declared.errors.ElfError.{ElfError}
use Rattle.elf_types.specs.declared.errors.ElfError.TheVariants.{OutOfFile, Ragged}
use Rattle.elf_types.specs.Answers.{refused_if, first_refusal, answered}
use Rattle.elf_object.specs.elf_xlate.declared.content.Items.{Items}
use Rattle.elf_object.specs.elf_xlate.Translation.{items_kind, decoded}
use Rattle.elf_object.proofs.elf_xlate.Decoded.{decoded_kind}
use Rattle.elf_object.specs.Words.{Answers}
use Rattle.elf_object.specs.Object.{Piece, home_piece}
use Rattle.elf_object.specs.Open.{home_bytes}
use Rattle.elf_object.specs.Steps.{own_piece}
use Rattle.section_data.specs.Views.{CellView}
use Rattle.section_data.specs.Held.{piece_in, kind_in, cell_is_loaded, piece_holds_items, is_ragged, is_at_hand, ready, or_empty, items_of_bytes, raw_over, items_over, HeldIs}
use Rattle.section_data.specs.Refused.{home_out, home_ragged, load_due, preparing, no_piece, wrong_piece_kind, no_home_items, items_refused, kind_refused, lend_due, items_due, piece_due}
use Rattle.section_data.specs.Leaves.{RawBecomes, Warms, Claims, Owns, OwnsKind, Stays}
use Rattle.section_data.proofs.Loading.{warms_same}
use Rattle.section_data.proofs.Holdings.{kind_own, kind_clean, ready_own, ready_clean}
use Rattle.section_data.proofs.Preparing.{due_passed}

-- ---- Refusals

pub lend_passed : (class : Class) (c : CellView) (kind : Kind) (p : ℕ) → kind_refused class c kind p ≡ None → items_refused class c p ≡ None
unfolding kind_refused items_refused
lend_passed class c kind p passed = by_parts (no_piece c p) (wrong_piece_kind c kind p) (no_home_items class c p) passed
  where
    by_parts : (a b d : Option ElfError) → first_refusal (a ∷ b ∷ d ∷ []) ≡ None → first_refusal (a ∷ d ∷ []) ≡ None
    by_parts None None None h = refl
    by_parts None None (Some e) h = cc
    by_parts None (Some e) d h = cc
    by_parts (Some e) b d h = cc

pub lend_due_refused : (class : Class) (c : CellView) (kind : Kind) (p : ℕ) (e : ElfError) → kind_refused class c kind p ≡ Some e
    → lend_due class c kind p ≡ 0
unfolding lend_due
lend_due_refused class c kind p e refused = rw (lend_due, refused) refl

pub lend_due_passed : (class : Class) (c : CellView) (kind : Kind) (p : ℕ) → kind_refused class c kind p ≡ None
    → lend_due class c kind p ≡ items_due class c p
unfolding lend_due
lend_due_passed class c kind p passed = rw (lend_due, passed) (sym (due_passed class c p (lend_passed class c kind p passed)))

pub lend_answers : (class : Class) (c : CellView) (kind : Kind) (p : ℕ) (r : Result (Unit {0}) ElfError) → kind_refused class c kind p ≡ None
    → Answers true (preparing c p (items_due class c p)) r (answered (items_refused class c p) (tt {0}))
    → Answers true (preparing c p (lend_due class c kind p)) r (answered (kind_refused class c kind p) (tt {0}))
lend_answers class c kind p r passed h =
    subst (λ (n : ℕ). Answers true (preparing c p n) r (answered (kind_refused class c kind p) (tt {0}))) (sym (lend_due_passed class c kind p passed))
    (subst (λ (f : Option ElfError). Answers true (preparing c p (items_due class c p)) r (answered f (tt {0})))
    (lend_passed class c kind p passed ∙ sym passed) h)

pub stays_same : {T : Type 0} (image : Option (List ℕ)) (e : ElfError) (c : CellView) → Stays {T = T} image (Err e) c c
stays_same image e c = record { warms = warms_same image c; held = refl; unchanged = λ h. refl }

-- ---- Reading before a call

parted : (a b d : Option ElfError) → first_refusal (a ∷ b ∷ d ∷ []) ≡ None → d ≡ None
parted None None None h = refl
parted None None (Some e) h = cc
parted None (Some e) d h = cc
parted (Some e) b d h = cc

lent_home : (class : Class) (c : CellView) (kind : Kind) (p : ℕ) → kind_refused class c kind p ≡ None → no_home_items class c p ≡ None
unfolding kind_refused
lent_home class c kind p passed = parted (no_piece c p) (wrong_piece_kind c kind p) (no_home_items class c p) passed

whole_passed : (class : Class) (c : CellView) → first_refusal (home_out c ∷ home_ragged class c ∷ []) ≡ None → is_ragged class c ≡ false
whole_passed class c passed = by_tests c.home.out (is_ragged class c) passed
  where
    by_tests : (out ragged : Bool)
        → first_refusal (refused_if out (OutOfFile c.section) ∷ refused_if ragged (Ragged c.section) ∷ []) ≡ None → ragged ≡ false
    by_tests true ragged h = cc
    by_tests false true h = cc
    by_tests false false h = refl

-- what passed the check of a lend has each item at hand, once its home is loaded where it is not own
pub lend_at_hand : (class : Class) (c : CellView) (kind : Kind) (p : ℕ) → kind_refused class c kind p ≡ None
    → IsTrue (is_some (piece_in c p).own || cell_is_loaded c) → IsTrue (is_at_hand class c p)
unfolding is_at_hand no_home_items
lend_at_hand class c kind p passed loaded = by_own (piece_in c p).own refl
  where
    by_own : (own : Option Items) → (piece_in c p).own ≡ own → IsTrue (is_at_hand class c p)
    by_own None clean =
        let home = rw (no_home_items, clean) at (lent_home class c kind p passed) in
        let there = rw clean at loaded in
        rw (is_at_hand, clean, there, whole_passed class c home) refl
    by_own (Some items) own = rw (is_at_hand, own) refl

-- reading leaves what passed the check of a lend
pub lend_stays : (image : Option (List ℕ)) (class : Class) (old warm : CellView) (kind : Kind) (p : ℕ) → Warms image old warm
    → kind_refused class warm kind p ≡ kind_refused class old kind p
unfolding kind_refused no_home_items kind_in piece_in
lend_stays image class old warm kind p warms = ap (λ (c : CellView). kind_refused class c kind p) warms.cell

-- a piece that holds its items is due nothing
pub held_due : (class : Class) (order : Order) (c : CellView) (p : ℕ) → HeldIs class order c → IsTrue (piece_holds_items c p) → piece_due c p ≡ 0
unfolding piece_due load_due
held_due class order c p held holds = by_own (piece_in c p).own refl
  where
    by_raw : (raw : Option (List ℕ)) (items : Items) → c.raw ≡ raw → option_and_then (decoded c.home.kind class order) raw ≡ Some items → load_due c ≡ 0
    by_raw None items is e = cc
    by_raw (Some bytes) items is e = rw (load_due, is) refl

    by_held : (o : Option Items) → c.held ≡ o → is_some o ≡ true → load_due c ≡ 0
    by_held None is some = cc
    by_held (Some items) is some = by_raw c.raw items refl (rw is at held)

    by_own : (own : Option Items) → (piece_in c p).own ≡ own → piece_due c p ≡ 0
    by_own (Some items) own = rw (piece_due, own) refl
    by_own None clean =
        let home = ready_clean c p (ap (λ (o : Option Items). is_some o) clean) in
        rw (piece_due, clean) (by_held c.held refl (ap (λ (o : Option Items). is_some o) (sym home) ∙ holds))

-- ---- What is claimed

some_is : (a b : Items) → Some a ≡ Some b → a ≡ b
some_is a b e = cc

-- the items of a home are of its kind
home_kind : (class : Class) (order : Order) (c : CellView) (items : Items) → HeldIs class order c → c.held ≡ Some items → items_kind items ≡ c.home.kind
home_kind class order c items held is = by_raw c.raw (rw is at held)
  where
    by_raw : (raw : Option (List ℕ)) → option_and_then (decoded c.home.kind class order) raw ≡ Some items → items_kind items ≡ c.home.kind
    by_raw None e = cc
    by_raw (Some bytes) e = decoded_kind c.home.kind class order bytes items e

-- the items that a piece holds are of its kind
ready_kind : (class : Class) (order : Order) (c : CellView) (p : ℕ) (items : Items) → HeldIs class order c → ready c p ≡ Some items
    → items_kind items ≡ kind_in c p
ready_kind class order c p items held is = by_own (piece_in c p).own refl
  where
    by_own : (own : Option Items) → (piece_in c p).own ≡ own → items_kind items ≡ kind_in c p
    by_own None clean =
        let not_own = ap (λ (o : Option Items). is_some o) clean in
        home_kind class order c items held (sym (ready_clean c p not_own) ∙ is) ∙ sym (kind_clean c p not_own)
    by_own (Some there) own =
        let same : Some there ≡ Some items = sym (ready_own c p there own) ∙ is in
        ap items_kind (sym (some_is there items same)) ∙ sym (kind_own c p there own)

-- reading and translating at first use changes no kind
warm_kind : (image : Option (List ℕ)) (old warm : CellView) (p : ℕ) → Warms image old warm → kind_in warm p ≡ kind_in old p
unfolding kind_in piece_in
warm_kind image old warm p warms = ap (λ (c : CellView). kind_in c p) warms.cell

pub claimed_piece : (old new : CellView) (p : ℕ) (claims : Claims old new p) → p < length old.pieces
    → piece_in new p ≡ own_piece claims.items (piece_in old p).align
unfolding piece_in
claimed_piece old new p claims there =
    ap (λ (c : CellView). piece_in c p) claims.cell
    ∙ get_or-set_same old.pieces p (own_piece claims.items (piece_in old p).align) home_piece there

pub owns_kind : (class : Class) (order : Order) (image : Option (List ℕ)) (old warm new : CellView) (p : ℕ) (kind : Kind)
    → Warms image old warm → HeldIs class order warm → Claims warm new p → p < length old.pieces → kind_in old p ≡ kind
    → OwnsKind kind (piece_in new p)
owns_kind class order image old warm new p kind warms held claims there is =
    let count : length warm.pieces ≡ length old.pieces = ap (λ (c : CellView). length c.pieces) warms.cell in
    let inside : p < length warm.pieces = subst (λ (n : ℕ). p < n) (sym count) there in
    record {
      items = claims.items;
      own = ap (λ (q : Piece). q.own) (claimed_piece warm new p claims inside);
      of_kind = ready_kind class order warm p claims.items held claims.stood ∙ warm_kind image old warm p warms ∙ is;
    }

pub claims_held : (class : Class) (order : Order) (old new : CellView) (p : ℕ) → HeldIs class order old → Claims old new p → HeldIs class order new
claims_held class order old new p is claims =
    subst (λ (c : CellView). HeldIs class order c) (sym claims.cell) (by_held claims.held claims.kept)
  where
    by_held : (held : Option Items) → IfSome held (λ items. old.held ≡ Some items)
        → IfSome held (λ items. option_and_then (decoded old.home.kind class order) old.raw ≡ Some items)
    by_held None kept = tt
    by_held (Some items) kept = rw kept at is

pub claims_count : (image : Option (List ℕ)) (old warm new : CellView) (p : ℕ) → Warms image old warm → Claims warm new p → p < length old.pieces
    → p < length new.pieces
claims_count image old warm new p warms claims there =
    let first : length warm.pieces ≡ length old.pieces = ap (λ (c : CellView). length c.pieces) warms.cell in
    let then : length new.pieces ≡ length warm.pieces =
    ap (λ (c : CellView). length c.pieces) claims.cell ∙ length-set warm.pieces p (own_piece claims.items (piece_in warm p).align) in
    subst (λ (n : ℕ). p < n) (sym (then ∙ first)) there

-- ---- The items that are lent

pub own_kind : (kind : Kind) (q : Piece) (items : Items) → OwnsKind kind q → q.own ≡ Some items → items_kind items ≡ kind
own_kind kind q items owns own = ap items_kind (some_is items owns.items (sym own ∙ owns.own)) ∙ owns.of_kind

-- items that were decoded of the raw bytes, of those that stood there or were read then
over_clean : (told : List ℕ) (class : Class) (order : Order) (c : CellView) (raw : Option (List ℕ)) (items : Items)
    → RawBecomes (Some told) c.home c.raw raw → option_and_then (decoded c.home.kind class order) raw ≡ Some items
    → items ≡ items_of_bytes c.home.kind class order (raw_over told c)
over_clean told class order c raw items becomes is = by_raw c.raw raw becomes is
  where
    by_raw : (old now : Option (List ℕ)) → RawBecomes (Some told) c.home old now → option_and_then (decoded c.home.kind class order) now ≡ Some items
        → items ≡ items_of_bytes c.home.kind class order (elim old [ None ↦ home_bytes c.home told | Some bytes ↦ bytes ])
    by_raw (Some bytes) now becomes is =
        sym (ap or_empty (subst (λ (o : Option (List ℕ)). option_and_then (decoded c.home.kind class order) o ≡ Some items) becomes is))
    by_raw None None becomes is = cc
    by_raw None (Some bytes) becomes is =
        sym (ap or_empty (subst (λ (l : List ℕ). decoded c.home.kind class order l ≡ Some items) becomes.1 is))

-- the items of a piece that holds them, of a cell whose home was read and translated at first use
pub ready_over : (told : List ℕ) (class : Class) (order : Order) (old warm : CellView) (p : ℕ) (items : Items)
    → Warms (Some told) old warm → HeldIs class order warm → ready warm p ≡ Some items → items ≡ items_over told class order old p
unfolding items_over piece_in
ready_over told class order old warm p items warms held is = by_own (piece_in old p).own refl (ap (λ (c : CellView). (piece_in c p).own) warms.cell)
  where
    by_own : (own : Option Items) → (piece_in old p).own ≡ own → (piece_in warm p).own ≡ (piece_in old p).own → items ≡ items_over told class order old p
    by_own None clean same =
        let there = sym (ready_clean warm p (ap (λ (o : Option Items). is_some o) (same ∙ clean))) ∙ is in
        let given = rw there at held in
        let moved = subst (λ (c : CellView). option_and_then (decoded c.home.kind class order) c.raw ≡ Some items) warms.cell given in
        over_clean told class order old warms.raw items warms.bytes moved ∙ sym (rw (items_over, clean) refl)
    by_own (Some there) own same =
        some_is items there (sym is ∙ ready_own warm p there (same ∙ own)) ∙ sym (rw (items_over, own) refl)

pub owns_over : (image : Option (List ℕ)) (class : Class) (order : Order) (old new : CellView) (p : ℕ) (items : Items)
    → Owns image class order old new p → p < length new.pieces → (piece_in new p).own ≡ Some items
    → IfSome image (λ told. items ≡ items_over told class order old p)
owns_over None class order old new p items owns there own = tt
owns_over (Some told) class order old new p items owns there own =
    let count : length new.pieces ≡ length owns.warm.pieces =
    ap (λ (c : CellView). length c.pieces) owns.claims.cell
    ∙ length-set owns.warm.pieces p (own_piece owns.claims.items (piece_in owns.warm p).align) in
    let inside : p < length owns.warm.pieces = subst (λ (n : ℕ). p < n) count there in
    let is = some_is items owns.claims.items (sym own ∙ ap (λ (q : Piece). q.own) (claimed_piece owns.warm new p owns.claims inside)) in
    is ∙ ready_over told class order old owns.warm p owns.claims.items owns.warms owns.items owns.claims.stood

-- the same of a list in them
pub list_over : {X : Type 0} (list_of : Items → X) (image : Option (List ℕ)) (class : Class) (order : Order) (old new : CellView) (p : ℕ)
    (kind : Kind) (list : X) → Owns image class order old new p → p < length new.pieces → OwnsKind kind (piece_in new p)
    → IfSome (piece_in new p).own (λ items. list ≡ list_of items) → IfSome image (λ told. list ≡ list_of (items_over told class order old p))
list_over list_of None class order old new p kind list owns there is value = tt
list_over list_of (Some told) class order old new p kind list owns there is value =
    let given = rw is.own at value in
    given ∙ ap list_of (owns_over (Some told) class order old new p is.items owns there is.own)
