-- An item of bytes, as an entry of the list that they hold.
use Rattle.std.proofs.Common.{◌≡◌, ℕ, ◌+◌, ◌*◌, ◌/◌, ◌%◌, ◌<◌, ◌≤◌, List, length, take, drop, Bool, true, false, cond, nat_eq, Option, Some, None, Ok, Err, refl, sym, ap, ◌∙◌, subst, arith}
use Rattle.std.specs.Option.{option_map, is_some}
use Rattle.std.proofs.lemmas.Bool.{eqb-true}
use Rattle.std.proofs.lemmas.Nat.{div-add-mod'}
use Rattle.std.proofs.Math.Nat.{le-div_iff_mul-le, div-lt_iff_lt-mul, lt_of_mul-lt-mul_right, suc-mul}
use Rattle.elf_types.specs.declared.records.Class.{Class}
use Rattle.elf_types.specs.declared.records.Order.{Order}
use Rattle.elf_types.specs.declared.records.Kind.{Kind}
use Rattle.elf_types.specs.declared.records.Kind.TheVariants as kinds
use Rattle.elf_types.specs.declared.errors.ElfError.TheVariants.{NoEntry}
use Rattle.elf_object.specs.elf_xlate.declared.content.Items.{Items}
use Rattle.elf_object.specs.elf_xlate.Items.{item_size}
use Rattle.elf_object.specs.elf_xlate.Translation.{items_of, listed, is_whole, decoded}
use Rattle.elf_object.proofs.elf_xlate.Pieces.{length_items_of}
use Rattle.elf_object.proofs.elf_xlate.Decoded.{whole_is, item_there, item_past}
use Rattle.elf_object.specs.Answers.{entry_at}
use Rattle.section_data.specs.Held.{or_empty, items_of_bytes}

listed_items : {X : Type 0} (variant : List X → Items) (item : List ℕ → X) (size : ℕ) (bytes : List ℕ) (items : Items)
    → option_map variant (listed item size bytes) ≡ Some items → items ≡ variant (items_of item size (length bytes / size) bytes)
unfolding listed
listed_items {X} variant item size bytes items given = by_test (nat_eq (length bytes % size) 0) given
  where
    by_test : (b : Bool) → option_map variant (cond b (Some (items_of item size (length bytes / size) bytes)) None) ≡ Some items
        → items ≡ variant (items_of item size (length bytes / size) bytes)
    by_test true is = cc
    by_test false is = cc

pub entry_there : {X : Type 0} (variant : List X → Items) (list_of : Items → List X) → ((l : List X) → list_of (variant l) ≡ l)
    → (item : List ℕ → X) (size i : ℕ) (bytes : List ℕ) (kind : Kind) (class : Class) (order : Order)
    → decoded kind class order bytes ≡ option_map variant (listed item size bytes)
    → is_whole kind class (length bytes) ≡ true → i < length bytes / size
    → entry_at (list_of (items_of_bytes kind class order bytes)) i ≡ Ok (item (take size (drop (i * size) bytes)))
entry_there {X} variant list_of back item size i bytes kind class order listed_in whole inside =
    by_items (decoded kind class order bytes) refl (whole_is kind class order bytes ∙ whole)
  where
    by_items : (o : Option Items) → decoded kind class order bytes ≡ o → is_some o ≡ true
        → entry_at (list_of (or_empty o)) i ≡ Ok (item (take size (drop (i * size) bytes)))
    by_items None e some = cc
    by_items (Some items) e some =
        let there = item_there variant list_of back item size i bytes items (sym listed_in ∙ e) inside in
        rw (entry_at, there) refl

pub entry_past : {X : Type 0} (variant : List X → Items) (list_of : Items → List X) → ((l : List X) → list_of (variant l) ≡ l)
    → (item : List ℕ → X) (size i : ℕ) (bytes : List ℕ) (kind : Kind) (class : Class) (order : Order)
    → decoded kind class order bytes ≡ option_map variant (listed item size bytes)
    → is_whole kind class (length bytes) ≡ true → length bytes / size ≤ i
    → entry_at (list_of (items_of_bytes kind class order bytes)) i ≡ Err (NoEntry i (length bytes / size))
entry_past {X} variant list_of back item size i bytes kind class order listed_in whole past =
    by_items (decoded kind class order bytes) refl (whole_is kind class order bytes ∙ whole)
  where
    by_items : (o : Option Items) → decoded kind class order bytes ≡ o → is_some o ≡ true
        → entry_at (list_of (or_empty o)) i ≡ Err (NoEntry i (length bytes / size))
    by_items None e some = cc
    by_items (Some items) e some =
        let given = sym listed_in ∙ e in
        let none = item_past variant list_of back item size i bytes items given past in
        let count : length (list_of items) ≡ length bytes / size =
        ap (λ (l : Items). length (list_of l)) (listed_items variant item size bytes items given)
        ∙ ap length (back (items_of item size (length bytes / size) bytes))
        ∙ length_items_of item size (length bytes / size) bytes in
        rw (entry_at, none, count) refl

-- ---- Whether there is an item i

pub count_past : (len size i : ℕ) → 0 < size → len ≤ i * size → len / size ≤ i
count_past len size i some past = omega (arith, (div-lt_iff_lt-mul some).1 (subst (λ (n : ℕ). len < n) (sym (suc-mul i size)) (omega (arith, past, some))))

-- in whole items, an item that begins before the end stands in them
pub item_begins : (len size i : ℕ) → 0 < size → len % size ≡ 0 → i * size < len → i < len / size
item_begins len size i some even before =
    let whole : len / size * size ≡ len = omega (arith, div-add-mod' len size, even) in
    lt_of_mul-lt-mul_right size (subst (λ (n : ℕ). i * size < n) (sym whole) before)

pub item_ends : (len size i : ℕ) → 0 < size → len % size ≡ 0 → i * size < len → i * size + size ≤ len
item_ends len size i some even before =
    subst (λ (n : ℕ). n ≤ len) (suc-mul i size) ((le-div_iff_mul-le some).0 (item_begins len size i some even before))

-- bytes are whole items where the size of one divides their number
pub whole_kind : (kind : Kind) (class : Class) (len : ℕ) → len % item_size kind class ≡ 0 → is_whole kind class len ≡ true
whole_kind kinds.Empty class len even = refl
whole_kind kinds.Bytes class len even = rw even refl
whole_kind kinds.Half class len even = rw even refl
whole_kind kinds.Word class len even = rw even refl
whole_kind kinds.Addr class len even = rw even refl
whole_kind kinds.Sym class len even = rw even refl
whole_kind kinds.Rel class len even = rw even refl
whole_kind kinds.Rela class len even = rw even refl
whole_kind kinds.Dyn class len even = rw even refl

pub kind_whole : (kind : Kind) (class : Class) (len : ℕ) → 0 < item_size kind class → is_whole kind class len ≡ true → len % item_size kind class ≡ 0
kind_whole kinds.Empty class len some whole = absurd (omega (arith, some))
kind_whole kinds.Bytes class len some whole = eqb-true _ _ whole
kind_whole kinds.Half class len some whole = eqb-true _ _ whole
kind_whole kinds.Word class len some whole = eqb-true _ _ whole
kind_whole kinds.Addr class len some whole = eqb-true _ _ whole
kind_whole kinds.Sym class len some whole = eqb-true _ _ whole
kind_whole kinds.Rel class len some whole = eqb-true _ _ whole
kind_whole kinds.Rela class len some whole = eqb-true _ _ whole
kind_whole kinds.Dyn class len some whole = eqb-true _ _ whole
