-- The memory form of bytes: where there is one, of which kind it is, how many items, and each of them.
use Rattle.std.proofs.Common.{◌≡◌, ◌≢◌, ℕ, ◌*◌, ◌/◌, ◌%◌, ◌<◌, ◌≤◌, List, length, take, drop, Bool, true, false, cond, nat_eq, refl, sym, ap, ◌∙◌, subst, arith}
use Rattle.std.specs.Prelude.{Option, Some, None}
use Rattle.std.specs.Option.{option_map, is_some}
use Rattle.std.specs.List.{slice_get}
use Rattle.std.proofs.lemmas.Option.{slice_get_past, slice_get-get_or}
use Rattle.std.proofs.lemmas.Bool.{eqb-true, eq-eqb}
use Rattle.std.proofs.lemmas.List.FromFn.{get_or-map-range_with_len}
use Rattle.std.proofs.Math.Nat.{mod-one, div-one, div-zero, div-add-mod, mul_comm}
use Rattle.elf_types.specs.declared.records.Class.{Class}
use Rattle.elf_types.specs.declared.records.Order.{Order}
use Rattle.elf_types.specs.declared.records.Kind.{Kind}
use Rattle.elf_types.specs.declared.records.Kind.TheVariants as kinds
use Rattle.elf_xlate.specs.declared.content.Items.{Items}
use Rattle.elf_xlate.specs.declared.content.Items.TheVariants.{Empty, Bytes, Half, Word, Addr, Sym, Rel, Rela, Dyn}
use Rattle.elf_xlate.specs.Items.{item_size, half_of, word_of, addr_of, sym_of, rel_of, rela_of, dyn_of}
use Rattle.elf_xlate.specs.Translation.{items_of, listed, is_whole, decoded, items_kind, items_count as count_of}
use Rattle.elf_xlate.proofs.Pieces.{length_items_of}

-- ---- Lists

-- bytes of whole items are listed
pub listed_whole : {X : Type 0} (item : List ℕ → X) (size : ℕ) (bytes : List ℕ) → length bytes % size ≡ 0
    → listed item size bytes ≡ Some (items_of item size (length bytes / size) bytes)
unfolding listed
listed_whole item size bytes whole =
    ap (λ (b : Bool). cond b (Some (items_of item size (length bytes / size) bytes)) None) (eq-eqb (length bytes % size) 0 whole)

-- whether they are is told by the length
listed_some : {X : Type 0} (variant : List X → Items) (item : List ℕ → X) (size : ℕ) (bytes : List ℕ)
    → is_some (option_map variant (listed item size bytes)) ≡ nat_eq (length bytes % size) 0
unfolding listed
listed_some {X} variant item size bytes = by_test (nat_eq (length bytes % size) 0)
  where
    by_test : (b : Bool) → is_some (option_map variant (cond b (Some (items_of item size (length bytes / size) bytes)) None)) ≡ b
    by_test true = refl
    by_test false = refl

-- what is listed is the items
pub listed_is : {X : Type 0} (variant : List X → Items) (item : List ℕ → X) (size : ℕ) (bytes : List ℕ) (items : Items)
    → option_map variant (listed item size bytes) ≡ Some items
    → (length bytes % size ≡ 0) × (items ≡ variant (items_of item size (length bytes / size) bytes))
unfolding listed
listed_is {X} variant item size bytes items given = by_test (nat_eq (length bytes % size) 0) refl given
  where
    by_test : (b : Bool) → nat_eq (length bytes % size) 0 ≡ b → option_map variant (cond b (Some (items_of item size (length bytes / size) bytes)) None) ≡ Some items
        → (length bytes % size ≡ 0) × (items ≡ variant (items_of item size (length bytes / size) bytes))
    by_test true whole is = (eqb-true (length bytes % size) 0 whole, cc)
    by_test false ragged is = cc

-- what holds of the list of the items holds of the items
of_list : {X : Type 0} (P : Items → Type 0) (variant : List X → Items) (item : List ℕ → X) (size : ℕ) (bytes : List ℕ) (items : Items)
    → option_map variant (listed item size bytes) ≡ Some items → P (variant (items_of item size (length bytes / size) bytes)) → P items
of_list P variant item size bytes items given h = subst P (sym (listed_is variant item size bytes items given).1) h

-- ---- Items

-- Bytes have a memory form exactly where they are whole items of the kind.
pub whole_is : (kind : Kind) (class : Class) (order : Order) (bytes : List ℕ)
    → is_some (decoded kind class order bytes) ≡ is_whole kind class (length bytes)
unfolding decoded
whole_is kinds.Empty class order bytes = refl
whole_is kinds.Bytes class order bytes = sym (eq-eqb (length bytes % 1) 0 (mod-one (length bytes)))
whole_is kinds.Half class order bytes = listed_some Half (half_of class order) (item_size kinds.Half class) bytes
whole_is kinds.Word class order bytes = listed_some Word (word_of class order) (item_size kinds.Word class) bytes
whole_is kinds.Addr class order bytes = listed_some Addr (addr_of class order) (item_size kinds.Addr class) bytes
whole_is kinds.Sym class order bytes = listed_some Sym (sym_of class order) (item_size kinds.Sym class) bytes
whole_is kinds.Rel class order bytes = listed_some Rel (rel_of class order) (item_size kinds.Rel class) bytes
whole_is kinds.Rela class order bytes = listed_some Rela (rela_of class order) (item_size kinds.Rela class) bytes
whole_is kinds.Dyn class order bytes = listed_some Dyn (dyn_of class order) (item_size kinds.Dyn class) bytes

no_some : {X : Type 0} (o : Option X) → is_some o ≡ false → o ≡ None
no_some None h = refl
no_some (Some x) h = cc

-- Where they are not, there is none.
pub ragged_is : (kind : Kind) (class : Class) (order : Order) (bytes : List ℕ)
    → is_whole kind class (length bytes) ≡ false → decoded kind class order bytes ≡ None
ragged_is kind class order bytes ragged = no_some (decoded kind class order bytes) (whole_is kind class order bytes ∙ ragged)

-- The items are of the kind.
pub decoded_kind : (kind : Kind) (class : Class) (order : Order) (bytes : List ℕ) (items : Items)
    → decoded kind class order bytes ≡ Some items → items_kind items ≡ kind
unfolding decoded
decoded_kind kinds.Empty class order bytes items given = let same : Empty ≡ items = cc in ap items_kind (sym same)
decoded_kind kinds.Bytes class order bytes items given = let same : Bytes bytes ≡ items = cc in ap items_kind (sym same)
decoded_kind kinds.Half class order bytes items given = of_list (λ l. items_kind l ≡ kinds.Half) Half (half_of class order) (item_size kinds.Half class) bytes items given refl
decoded_kind kinds.Word class order bytes items given = of_list (λ l. items_kind l ≡ kinds.Word) Word (word_of class order) (item_size kinds.Word class) bytes items given refl
decoded_kind kinds.Addr class order bytes items given = of_list (λ l. items_kind l ≡ kinds.Addr) Addr (addr_of class order) (item_size kinds.Addr class) bytes items given refl
decoded_kind kinds.Sym class order bytes items given = of_list (λ l. items_kind l ≡ kinds.Sym) Sym (sym_of class order) (item_size kinds.Sym class) bytes items given refl
decoded_kind kinds.Rel class order bytes items given = of_list (λ l. items_kind l ≡ kinds.Rel) Rel (rel_of class order) (item_size kinds.Rel class) bytes items given refl
decoded_kind kinds.Rela class order bytes items given = of_list (λ l. items_kind l ≡ kinds.Rela) Rela (rela_of class order) (item_size kinds.Rela class) bytes items given refl
decoded_kind kinds.Dyn class order bytes items given = of_list (λ l. items_kind l ≡ kinds.Dyn) Dyn (dyn_of class order) (item_size kinds.Dyn class) bytes items given refl

-- There are as many items as the length has sizes; none of the kind Empty, whose size is 0.
pub items_count : (kind : Kind) (class : Class) (order : Order) (bytes : List ℕ) (items : Items)
    → decoded kind class order bytes ≡ Some items → count_of items ≡ length bytes / item_size kind class
unfolding decoded
items_count kinds.Empty class order bytes items given = let same : Empty ≡ items = cc in ap count_of (sym same) ∙ sym (div-zero (length bytes))
items_count kinds.Bytes class order bytes items given = let same : Bytes bytes ≡ items = cc in ap count_of (sym same) ∙ sym (div-one (length bytes))
items_count kinds.Half class order bytes items given = of_list (λ l. count_of l ≡ length bytes / item_size kinds.Half class) Half (half_of class order) (item_size kinds.Half class) bytes items given (length_items_of (half_of class order) (item_size kinds.Half class) (length bytes / item_size kinds.Half class) bytes)
items_count kinds.Word class order bytes items given = of_list (λ l. count_of l ≡ length bytes / item_size kinds.Word class) Word (word_of class order) (item_size kinds.Word class) bytes items given (length_items_of (word_of class order) (item_size kinds.Word class) (length bytes / item_size kinds.Word class) bytes)
items_count kinds.Addr class order bytes items given = of_list (λ l. count_of l ≡ length bytes / item_size kinds.Addr class) Addr (addr_of class order) (item_size kinds.Addr class) bytes items given (length_items_of (addr_of class order) (item_size kinds.Addr class) (length bytes / item_size kinds.Addr class) bytes)
items_count kinds.Sym class order bytes items given = of_list (λ l. count_of l ≡ length bytes / item_size kinds.Sym class) Sym (sym_of class order) (item_size kinds.Sym class) bytes items given (length_items_of (sym_of class order) (item_size kinds.Sym class) (length bytes / item_size kinds.Sym class) bytes)
items_count kinds.Rel class order bytes items given = of_list (λ l. count_of l ≡ length bytes / item_size kinds.Rel class) Rel (rel_of class order) (item_size kinds.Rel class) bytes items given (length_items_of (rel_of class order) (item_size kinds.Rel class) (length bytes / item_size kinds.Rel class) bytes)
items_count kinds.Rela class order bytes items given = of_list (λ l. count_of l ≡ length bytes / item_size kinds.Rela class) Rela (rela_of class order) (item_size kinds.Rela class) bytes items given (length_items_of (rela_of class order) (item_size kinds.Rela class) (length bytes / item_size kinds.Rela class) bytes)
items_count kinds.Dyn class order bytes items given = of_list (λ l. count_of l ≡ length bytes / item_size kinds.Dyn class) Dyn (dyn_of class order) (item_size kinds.Dyn class) bytes items given (length_items_of (dyn_of class order) (item_size kinds.Dyn class) (length bytes / item_size kinds.Dyn class) bytes)

is_true_some : {X : Type 0} (o : Option X) (x : X) → o ≡ Some x → is_some o ≡ true
is_true_some o x e = ap is_some e

-- no bytes are left over
pub none_left : (kind : Kind) (class : Class) (len : ℕ) → kind ≢ kinds.Empty → is_whole kind class len ≡ true → len % item_size kind class ≡ 0
none_left kinds.Empty class len some whole = absurd (some refl)
none_left kinds.Bytes class len some whole = eqb-true _ 0 whole
none_left kinds.Half class len some whole = eqb-true _ 0 whole
none_left kinds.Word class len some whole = eqb-true _ 0 whole
none_left kinds.Addr class len some whole = eqb-true _ 0 whole
none_left kinds.Sym class len some whole = eqb-true _ 0 whole
none_left kinds.Rel class len some whole = eqb-true _ 0 whole
none_left kinds.Rela class len some whole = eqb-true _ 0 whole
none_left kinds.Dyn class len some whole = eqb-true _ 0 whole

-- Their bytes are all bytes, but for the kind Empty.
pub decoded_count : (kind : Kind) (class : Class) (order : Order) (bytes : List ℕ) (items : Items)
    → decoded kind class order bytes ≡ Some items → kind ≢ kinds.Empty → count_of items * item_size kind class ≡ length bytes
decoded_count kind class order bytes items given some =
    let whole : is_whole kind class (length bytes) ≡ true = sym (whole_is kind class order bytes) ∙ is_true_some (decoded kind class order bytes) items given in
    let left = none_left kind class (length bytes) some whole in
    let size : ℕ = item_size kind class in
    ap (λ (n : ℕ). n * size) (items_count kind class order bytes items given)
    ∙ omega (arith, div-add-mod (length bytes) size, left, mul_comm size (length bytes / size))

-- Item i of items of a kind is what its own bytes hold. The variant and its list are those of the kind, as Sym
-- and the list in it.
pub item_there : {X : Type 0} (variant : List X → Items) (list_of : Items → List X) → ((l : List X) → list_of (variant l) ≡ l)
    → (item : List ℕ → X) (size i : ℕ) (bytes : List ℕ) (items : Items) → option_map variant (listed item size bytes) ≡ Some items
    → i < length bytes / size → slice_get (list_of items) i ≡ Some (item (take size (drop (i * size) bytes)))
unfolding items_of
item_there {X} variant list_of back item size i bytes items given inside =
    let n : ℕ = length bytes / size in
    let here : X = item (take size (drop (i * size) bytes)) in
    let len = length_items_of item size n bytes in
    ap (λ (l : Items). slice_get (list_of l) i) (listed_is variant item size bytes items given).1
    ∙ ap (λ (l : List X). slice_get l i) (back (items_of item size n bytes))
    ∙ slice_get-get_or (items_of item size n bytes) i here (omega (arith, len))
    ∙ ap (λ (x : X). Some x) (get_or-map-range_with_len (λ k. item (take size (drop (k * size) bytes))) 0 n i i here inside (omega arith))

-- There is none past the last.
pub item_past : {X : Type 0} (variant : List X → Items) (list_of : Items → List X) → ((l : List X) → list_of (variant l) ≡ l)
    → (item : List ℕ → X) (size i : ℕ) (bytes : List ℕ) (items : Items) → option_map variant (listed item size bytes) ≡ Some items
    → length bytes / size ≤ i → slice_get (list_of items) i ≡ None
item_past {X} variant list_of back item size i bytes items given past =
    let n : ℕ = length bytes / size in
    let len = length_items_of item size n bytes in
    ap (λ (l : Items). slice_get (list_of l) i) (listed_is variant item size bytes items given).1
    ∙ ap (λ (l : List X). slice_get l i) (back (items_of item size n bytes))
    ∙ slice_get_past (items_of item size n bytes) i (omega (arith, len))
