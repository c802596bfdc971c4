-- Items that are read in one form and put in their place in another.
use Rattle.std.proofs.Common.{◌≡◌, ◌⊎◌, inl, inr, ℕ, ◌+◌, ◌-◌, ◌*◌, ◌/◌, ◌<◌, ◌≤◌, List, [], ◌∷◌, ◌++◌, length, take, drop, ◌≢◌, ◌^◌, refl, sym, ap, subst, ◌∙◌, arith, drop-drop}
use Rattle.std.specs.Prelude.{Option, Some, None, Ok, Err, true, false, IfSome}
use Rattle.std.specs.Option.{is_some}
use Rattle.std.specs.List.{All, flat_map}
use Rattle.std.proofs.Math.Nat.{suc-mul, add-mul}
use Rattle.std.proofs.lemmas.Grind.{flat_map-append}
use Rattle.std.proofs.lemmas.List.{append-nil, length-take, length-drop}
use Rattle.std.proofs.lemmas.Slice.{take-put_mid, drop-put_mid}
use borrow.Rule.Slice.PartMut.{put_mid}
use Rattle.elf_types.specs.declared.records.Class.{Class}
use Rattle.elf_types.specs.declared.records.Order.{Order}
use Rattle.elf_types.specs.declared.records.Kind.{Kind}
use Rattle.elf_types.specs.declared.records.Kind.TheVariants as kinds
use Rattle.elf_xlate.specs.declared.content.Items.{Items}
use Rattle.elf_xlate.specs.declared.content.Items.TheVariants.{Bytes}
use Rattle.elf_xlate.specs.Translation.{items_of, is_whole, decoded, encoded, TranslatesInPlace}
use Rattle.elf_xlate.specs.declared.failure.XlateError.TheVariants.{Ragged}
use Rattle.elf_xlate.proofs.Bytes.{lowest_same}
use Rattle.elf_xlate.proofs.Decoded.{ragged_is, whole_is}
use Rattle.elf_xlate.proofs.ReadItems.{bytes_read}
use Rattle.elf_xlate.proofs.Translated.{encodes_as_decoded}
use Rattle.elf_xlate.proofs.PutItems.{length_mid}
use Rattle.elf_xlate.proofs.Pieces.{items_of_more, items_of_none, within}

-- The front of the bytes is that of the items so far, and the rest is as it was.
pub record AreTurned {X : Type 0} (item : List ℕ → X) (bytes_of : X → List ℕ) (size i : ℕ)
    (old new : List ℕ) : Type 0 where
  pub front : take (i * size) new ≡ flat_map bytes_of (items_of item size i old)
  pub rest : drop (i * size) new ≡ drop (i * size) old
  pub len : length new ≡ length old

-- none at first
pub none_turned : {X : Type 0} (item : List ℕ → X) (bytes_of : X → List ℕ) (size : ℕ)
    (bytes : List ℕ) → AreTurned item bytes_of size 0 bytes bytes
none_turned item bytes_of size bytes =
    let start : 0 * size ≡ 0 = omega arith in
    record {
      front = ap (λ (n : ℕ). take n bytes) start
          ∙ sym (ap (flat_map bytes_of) (items_of_none item size bytes));
      rest = refl;
      len = refl;
    }

-- the bytes of one item more
flat_more : {X : Type 0} (item : List ℕ → X) (bytes_of : X → List ℕ) (size i : ℕ) (old : List ℕ)
    → flat_map bytes_of (items_of item size (i + 1) old)
    ≡ flat_map bytes_of (items_of item size i old)
    ++ bytes_of (item (take size (drop (i * size) old)))
flat_more {X} item bytes_of size i old =
    let one : X = item (take size (drop (i * size) old)) in
    ap (flat_map bytes_of) (items_of_more item size i old)
    ∙ flat_map-append bytes_of (items_of item size i old) (one ∷ [])
    ∙ ap (λ (l : List ℕ). flat_map bytes_of (items_of item size i old) ++ l)
    (append-nil (bytes_of one))

-- and one more
pub one_turned : {X : Type 0} (item : List ℕ → X) (bytes_of : X → List ℕ) (size i k : ℕ)
    (old new piece : List ℕ) → i < length old / size → k ≡ size
    → AreTurned item bytes_of size i old new
    → length piece ≡ length (take k (drop (i * size) new))
    → piece ≡ bytes_of (item (take k (drop (i * size) new)))
    → AreTurned item bytes_of size (i + 1) old (put_mid (i * size) k new piece)
one_turned {X} item bytes_of size i k old new piece below same so_far stays is =
    let fits : i * size + size ≤ length old = within (length old) size i below in
    let long : length piece ≡ size =
    omega (
      arith,
      stays,
      same,
      fits,
      so_far.len,
      length-take k (drop (i * size) new),
      length-drop (i * size) new,
    ) in
    let next : (i + 1) * size ≡ i * size + size = add-mul i 1 size ∙ omega arith in
    let bytes : piece ≡ bytes_of (item (take size (drop (i * size) old))) =
    is ∙ ap (λ (n : ℕ). bytes_of (item (take n (drop (i * size) new)))) same
    ∙ ap (λ (l : List ℕ). bytes_of (item (take size l))) so_far.rest in
    record {
      front =
          take-put_mid (i * size) k new piece ((i + 1) * size) (omega (arith, next, long))
          (omega (arith, fits, so_far.len))
          ∙ ap (λ (l : List ℕ). l ++ piece) so_far.front
          ∙ ap (λ (l : List ℕ). flat_map bytes_of (items_of item size i old) ++ l) bytes
          ∙ sym (flat_more item bytes_of size i old);
      rest =
          drop-put_mid (i * size) k new piece ((i + 1) * size) (omega (arith, next, same))
          (omega (arith, fits, so_far.len)) (long ∙ sym same)
          ∙ ap (λ (n : ℕ). drop n new) next
          ∙ sym (drop-drop size (i * size) new)
          ∙ ap (drop size) so_far.rest
          ∙ drop-drop size (i * size) old
          ∙ ap (λ (n : ℕ). drop n old) (sym next);
      len = length_mid (i * size) k new piece (omega (arith, fits, so_far.len, same))
          (long ∙ sym same) ∙ so_far.len;
    }

-- what the memory form of bytes has
pub form_has : (P : Items → Type 0) (kind : Kind) (class : Class) (order : Order) (bytes : List ℕ)
    (items : Items) → decoded kind class order bytes ≡ Some items → P items
    → IfSome (decoded kind class order bytes) P
form_has P kind class order bytes items is has = subst (λ (o : Option Items). IfSome o P) (sym is) has

turned_round : (form : Option Items) (f : Items → List ℕ) (bytes : List ℕ)
    → IfSome form (λ items. f items ≡ bytes) → IfSome form (λ items. bytes ≡ f items)
turned_round None f bytes h = h
turned_round (Some items) f bytes h = sym h

-- In the same order the bytes stay.
pub same_order : (kind : Kind) (class : Class) (from to : Order) (bytes : List ℕ)
    → kind ≢ kinds.Empty → All (λ b. b < 2 ^ 8) bytes → from ≡ to
    → IfSome (decoded kind class from bytes) (λ items. bytes ≡ encoded class to items)
same_order kind class from to bytes some are same =
    subst
    (λ (order : Order). IfSome (decoded kind class from bytes) (λ items. bytes ≡ encoded class order items))
    same
    (turned_round (decoded kind class from bytes) (encoded class from) bytes
    (encodes_as_decoded kind class from bytes some are))

-- Bytes stay in each order.
pub bytes_stay : (kind : Kind) (class : Class) (from to : Order) (bytes : List ℕ)
    → kind ≢ kinds.Empty → All (λ b. b < 2 ^ 8) bytes
    → (kind ≡ kinds.Empty) ⊎ (kind ≡ kinds.Bytes)
    → IfSome (decoded kind class from bytes) (λ items. bytes ≡ encoded class to items)
unfolding encoded
bytes_stay kind class from to bytes some are (inl is) = absurd (some is)
bytes_stay kind class from to bytes some are (inr is) =
    form_has (λ items. bytes ≡ encoded class to items) kind class from bytes (Bytes bytes)
    (bytes_read kind class from bytes bytes is refl) (sym (lowest_same bytes are))

-- Bytes that are ragged are rejected and stay.
pub ragged_stay : (kind : Kind) (class : Class) (from to : Order) (bytes : List ℕ)
    → is_whole kind class (length bytes) ≡ false
    → TranslatesInPlace class to (decoded kind class from bytes) (Err Ragged) bytes bytes
ragged_stay kind class from to bytes ragged =
    subst (λ (o : Option Items). TranslatesInPlace class to o (Err Ragged) bytes bytes)
    (sym (ragged_is kind class from bytes ragged)) (refl, refl)

held_turned : (form : Option Items) (class : Class) (to : Order) (old new : List ℕ)
    → is_some form ≡ true → IfSome form (λ items. new ≡ encoded class to items)
    → TranslatesInPlace class to form (Ok tt) old new
held_turned None class to old new some turned = cc
held_turned (Some items) class to old new some turned = (refl, turned)

-- Whole items are in the other order.
pub whole_turned : (kind : Kind) (class : Class) (from to : Order) (old new : List ℕ)
    → is_whole kind class (length old) ≡ true
    → IfSome (decoded kind class from old) (λ items. new ≡ encoded class to items)
    → TranslatesInPlace class to (decoded kind class from old) (Ok tt) old new
whole_turned kind class from to old new whole turned =
    held_turned (decoded kind class from old) class to old new
    (whole_is kind class from old ∙ whole) turned
