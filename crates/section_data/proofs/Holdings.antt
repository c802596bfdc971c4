-- What a piece holds, by whether it is own.
use Rattle.std.proofs.Common.{◌≡◌, ℕ, ◌/◌, ◌<◌, Bool, true, false, List, length, Option, Some, None, Ok, refl, sym, ap, ◌∙◌, subst}
use Rattle.std.specs.Prelude.{is_some, IsTrue, IfSome, not, ◌&&◌, ◌||◌}
use Rattle.std.specs.Option.{option_and_then}
use Rattle.elf_types.specs.declared.records.Class.{Class}
use Rattle.elf_types.specs.declared.records.Order.{Order}
use Rattle.elf_types.specs.declared.records.Kind.{Kind}
use Rattle.elf_types.specs.declared.records.Kind.TheVariants as kinds
use Rattle.elf_object.specs.elf_xlate.declared.content.Items.{Items}
use Rattle.elf_object.specs.elf_xlate.declared.content.Items.TheVariants as items
use Rattle.elf_object.specs.elf_xlate.Items.{item_size}
use Rattle.elf_object.specs.elf_xlate.Translation.{items_kind, items_count, is_whole, decoded}
use Rattle.elf_object.specs.Answers.{bytes_of, entry_at}
use Rattle.section_data.specs.Views.{CellView, IsCell}
use Rattle.section_data.specs.Held.{piece_in, kind_in, count_in, ready, piece_holds_items, items_in, raw_items, is_at_hand, cell_is_loaded, or_empty, items_of_bytes, TellsItem}

pub none_of : {X : Type 0} (o : Option X) → is_some o ≡ false → o ≡ None
none_of None h = refl
none_of (Some x) h = cc

-- items of kind Bytes are those of their bytes
pub bytes_back : (i : Items) → items_kind i ≡ kinds.Bytes → items.Bytes (bytes_of i) ≡ i
bytes_back (items.Bytes l) e = refl
bytes_back items.Empty e = cc
bytes_back (items.Half l) e = cc
bytes_back (items.Word l) e = cc
bytes_back (items.Addr l) e = cc
bytes_back (items.Sym l) e = cc
bytes_back (items.Rel l) e = cc
bytes_back (items.Rela l) e = cc
bytes_back (items.Dyn l) e = cc

pub ready_own : (c : CellView) (p : ℕ) (i : Items) → (piece_in c p).own ≡ Some i → ready c p ≡ Some i
unfolding ready
ready_own c p i e = rw (ready, e) refl

pub ready_clean : (c : CellView) (p : ℕ) → is_some (piece_in c p).own ≡ false → ready c p ≡ c.held
unfolding ready
ready_clean c p e = rw (ready, none_of (piece_in c p).own e) refl

-- whether a piece holds its items
pub holds_either : (c : CellView) (p : ℕ) → piece_holds_items c p ≡ (is_some (piece_in c p).own || is_some c.held)
unfolding ready
holds_either c p = by_own (piece_in c p).own
  where
    by_own : (own : Option Items) → is_some (elim own [ None ↦ c.held | Some items ↦ Some items ]) ≡ (is_some own || is_some c.held)
    by_own None = refl
    by_own (Some items) = refl

pub kind_own : (c : CellView) (p : ℕ) (i : Items) → (piece_in c p).own ≡ Some i → kind_in c p ≡ items_kind i
unfolding kind_in
kind_own c p i e = rw (kind_in, e) refl

pub kind_clean : (c : CellView) (p : ℕ) → is_some (piece_in c p).own ≡ false → kind_in c p ≡ c.home.kind
unfolding kind_in
kind_clean c p e = rw (kind_in, none_of (piece_in c p).own e) refl

pub items_own : (class : Class) (order : Order) (c : CellView) (p : ℕ) (i : Items) → (piece_in c p).own ≡ Some i → items_in class order c p ≡ i
unfolding items_in
items_own class order c p i e = rw (items_in, e) refl

pub items_clean : (class : Class) (order : Order) (c : CellView) (p : ℕ) → is_some (piece_in c p).own ≡ false → items_in class order c p ≡ raw_items class order c
unfolding items_in
items_clean class order c p e = rw (items_in, none_of (piece_in c p).own e) refl

pub count_own : (class : Class) (c : CellView) (p : ℕ) (i : Items) → (piece_in c p).own ≡ Some i → count_in class c p ≡ items_count i
unfolding count_in
count_own class c p i e = rw (count_in, e) refl

pub count_clean : (class : Class) (c : CellView) (p : ℕ) → is_some (piece_in c p).own ≡ false → count_in class c p ≡ c.home.len / item_size c.home.kind class
unfolding count_in
count_clean class c p e = rw (count_in, none_of (piece_in c p).own e) refl

-- ---- The clean home piece, once its home is loaded and has whole items

pub hand_loaded : (class : Class) (c : CellView) (p : ℕ) → IsTrue (is_at_hand class c p) → is_some (piece_in c p).own ≡ false → cell_is_loaded c ≡ true
unfolding is_at_hand
hand_loaded class c p h e = by_tests (is_some (piece_in c p).own) (cell_is_loaded c) (is_whole c.home.kind class c.home.len) h e
  where
    by_tests : (own loaded whole : Bool) → IsTrue (own || (loaded && not (not whole))) → own ≡ false → loaded ≡ true
    by_tests true loaded whole h e = cc
    by_tests false true whole h e = refl
    by_tests false false whole h e = cc

pub hand_whole : (class : Class) (c : CellView) (p : ℕ) → IsTrue (is_at_hand class c p) → is_some (piece_in c p).own ≡ false → is_whole c.home.kind class c.home.len ≡ true
unfolding is_at_hand
hand_whole class c p h e = by_tests (is_some (piece_in c p).own) (cell_is_loaded c) (is_whole c.home.kind class c.home.len) h e
  where
    by_tests : (own loaded whole : Bool) → IsTrue (own || (loaded && not (not whole))) → own ≡ false → whole ≡ true
    by_tests true loaded whole h e = cc
    by_tests false true true h e = refl
    by_tests false true false h e = cc
    by_tests false false true h e = refl
    by_tests false false false h e = cc

pub items_raw : (class : Class) (order : Order) (c : CellView) (p : ℕ) (kind : Kind) (bytes : List ℕ) → is_some (piece_in c p).own ≡ false
    → c.home.kind ≡ kind → c.raw ≡ Some bytes → items_in class order c p ≡ items_of_bytes kind class order bytes
items_raw class order c p kind bytes e k r =
    items_clean class order c p e
    ∙ ap (λ (o : Option (List ℕ)). or_empty (option_and_then (decoded c.home.kind class order) o)) r
    ∙ ap (λ (k : Kind). items_of_bytes k class order bytes) k

-- item i of such a piece
pub tells_clean : {X : Type 0} (kind : Kind) (list_of : Items → List X) (class : Class) (order : Order) (c : CellView) (p i : ℕ) (bytes : List ℕ) (r : Option X)
    → IsCell c → p < length c.pieces → is_some (piece_in c p).own ≡ false → c.home.kind ≡ kind → c.raw ≡ Some bytes
    → IfSome r (λ item. IsTrue (is_whole kind class (length bytes)))
    → IfSome r (λ item. entry_at (list_of (items_of_bytes kind class order bytes)) i ≡ Ok item)
    → IfSome r (TellsItem kind list_of class order c p i)
unfolding is_at_hand
tells_clean kind list_of class order c p i bytes None cell there clean of_kind raw whole entry = tt
tells_clean kind list_of class order c p i bytes (Some item) cell there clean of_kind raw whole entry = record {
  cell = cell;
  piece = there;
  of_kind = kind_clean c p clean ∙ of_kind;
  hand = by_tests (is_some (piece_in c p).own) (cell_is_loaded c) (is_whole c.home.kind class c.home.len) (ap (λ (o : Option (List ℕ)). is_some o) raw) home_whole;
  entry = ap (λ (items : Items). entry_at (list_of items) i) (items_raw class order c p kind bytes clean of_kind raw) ∙ entry;
}
  where
    long : length bytes ≡ c.home.len
    long = subst (λ (o : Option (List ℕ)). IfSome o (λ l. length l ≡ c.home.len)) raw cell.sized

    home_whole : is_whole c.home.kind class c.home.len ≡ true
    home_whole = ap (λ (k : Kind). is_whole k class c.home.len) of_kind ∙ ap (λ (n : ℕ). is_whole kind class n) (sym long) ∙ whole

    by_tests : (own loaded whole : Bool) → loaded ≡ true → whole ≡ true → IsTrue (own || (loaded && not (not whole)))
    by_tests true loaded whole l w = refl
    by_tests false true true l w = refl
    by_tests false true false l w = cc
    by_tests false false whole l w = cc
