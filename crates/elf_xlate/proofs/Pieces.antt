-- Lists of items of one size.
use Rattle.std.proofs.Common.{◌≡◌, ℕ, ◌+◌, ◌-◌, ◌*◌, ◌/◌, ◌<◌, length, get_or, List, [], ◌∷◌, ◌++◌, take, drop, refl, sym, ap, subst, ◌∙◌, inl, inr, ◌≤◌, arith}
use Rattle.std.proofs.Math.Nat.{mul-le-mul_right, div-mul-le_self}
use Rattle.std.proofs.lemmas.List.{take_all, get_or_default, length-take, length-drop}
use Rattle.std.proofs.lemmas.List.FromFn.{map-range_with_len_more, length-map-range_with_len}
use Rattle.std.specs.Prelude.{Some, None, Bool, true, false, not, cond, nat_lt, IsTrue}
use Rattle.std.specs.List.{All, position_or_len, flat_map}
use Rattle.std.proofs.lemmas.List.Sums.{position_or_len_is, fails_before_first}
use Rattle.std.proofs.lemmas.List.Elements.{All-get_or, All-nil, All-cons, All-append, All-take, All-drop}
use Rattle.std.proofs.lemmas.Bool.{cases_lt, le-ltb, lt-ltb, not-false}
use Rattle.elf_types.specs.declared.records.Class.{Class}
use Rattle.elf_types.specs.declared.records.Order.{Order}
use Rattle.elf_xlate.specs.declared.content.Items.{Items}
use Rattle.elf_xlate.specs.Translation.{items_of, first_not, between, items_between, encoded}

-- one item more
pub items_of_more : {X : Type 0} (item : List ℕ → X) (size i : ℕ) (bytes : List ℕ)
    → items_of item size (i + 1) bytes ≡ items_of item size i bytes ++ item (take size (drop (i * size) bytes)) ∷ []
unfolding items_of
items_of_more item size i bytes = map-range_with_len_more (λ k. item (take size (drop (k * size) bytes))) 0 i i (omega arith)

-- no item
pub items_of_none : {X : Type 0} (item : List ℕ → X) (size : ℕ) (bytes : List ℕ) → items_of item size 0 bytes ≡ []
unfolding items_of
items_of_none item size bytes = refl

-- their number
pub length_items_of : {X : Type 0} (item : List ℕ → X) (size count : ℕ) (bytes : List ℕ) → length (items_of item size count bytes) ≡ count
unfolding items_of
length_items_of item size count bytes = length-map-range_with_len (λ i. item (take size (drop (i * size) bytes))) 0 count

-- each of them lies in the bytes
pub within : (len size i : ℕ) → i < len / size → i * size + size ≤ len
within len size i below =
    let next : i + 1 ≤ len / size = omega arith in
    omega (arith, mul-le-mul_right size next, div-mul-le_self len size)

-- one item more of which something holds
pub all_and_one : {X : Type 0} (P : X → Type 0) (l : List X) (x : X) → All P l → P x → All P (l ++ x ∷ [])
all_and_one P l x all is = All-append P l (x ∷ []) all (All-cons P x [] is (All-nil P))

-- The items so far, each in its range and fitting.
pub record AreRead {X : Type 0} (item : List ℕ → X) (InRange : X → Type 0) (fitting : X → Bool) (size i : ℕ) (bytes : List ℕ) (l : List X) : Type 0 where
  pub value : l ≡ items_of item size i bytes
  pub ranged : All InRange l
  pub fits : All (λ x. IsTrue (fitting x)) l

-- none at first
pub none_read : {X : Type 0} (item : List ℕ → X) (InRange : X → Type 0) (fitting : X → Bool) (size : ℕ) (bytes : List ℕ) (l : List X) → l ≡ []
    → AreRead item InRange fitting size 0 bytes l
none_read item InRange fitting size bytes [] empty =
    record { value = sym (items_of_none item size bytes); ranged = All-nil InRange; fits = All-nil (λ x. IsTrue (fitting x)) }
none_read item InRange fitting size bytes (x ∷ l) empty = cc

-- and one more
pub one_read : {X : Type 0} (item : List ℕ → X) (InRange : X → Type 0) (fitting : X → Bool) (size i w : ℕ) (bytes : List ℕ) (l new : List X) (x : X)
    → AreRead item InRange fitting size i bytes l → new ≡ l ++ x ∷ [] → w ≡ size → x ≡ item (take w (drop (i * size) bytes)) → InRange x → IsTrue (fitting x)
    → AreRead item InRange fitting size (i + 1) bytes new
one_read {X} item InRange fitting size i w bytes l new x so_far is width value ranged fits =
    subst (AreRead item InRange fitting size (i + 1) bytes) (sym is) (record {
      value =
          ap (λ (m : List X). m ++ x ∷ []) so_far.value
          ∙ ap (λ (y : X). items_of item size i bytes ++ y ∷ []) (value ∙ ap (λ (n : ℕ). item (take n (drop (i * size) bytes))) width)
          ∙ sym (items_of_more item size i bytes);
      ranged = all_and_one InRange l x so_far.ranged ranged;
      fits = all_and_one (λ y. IsTrue (fitting y)) l x so_far.fits fits;
    })

-- an item's bytes are as many as it has
pub piece_long : (bytes : List ℕ) (size s i : ℕ) → i < length bytes / size → size ≡ s
    → length (take (i * size + size - i * size) (drop (i * size) bytes)) ≡ s
piece_long bytes size s i below same =
    omega (
      arith,
      within (length bytes) size i below,
      same,
      length-drop (i * size) bytes,
      length-take (i * size + size - i * size) (drop (i * size) bytes),
    )

-- all are read
pub all_read : {X : Type 0} (item : List ℕ → X) (InRange : X → Type 0) (fitting : X → Bool)
    (size s i : ℕ) (bytes : List ℕ) (l : List X) → AreRead item InRange fitting size i bytes l
    → size ≡ s → length bytes / size ≤ i → i ≤ length bytes / size
    → l ≡ items_of item s (length bytes / s) bytes
all_read item InRange fitting size s i bytes l so_far same high low =
    let all : i ≡ length bytes / size = omega arith in
    so_far.value ∙ ap (λ (n : ℕ). items_of item size n bytes) all
    ∙ ap (λ (n : ℕ). items_of item n (length bytes / n) bytes) same

-- where all pass, none is the first that does not
pub all_pass : {X : Type 0} (passes : X → Bool) (l : List X) → All (λ x. passes x ≡ true) l → first_not passes l ≡ None
all_pass passes [] h = refl
all_pass {X} passes (x ∷ xs) h =
    let fails : X → Bool = λ y. not (passes y) in
    let none : position_or_len (λ y. not (passes y)) (x ∷ xs) ≡ length (x ∷ xs) =
    position_or_len_is fails (x ∷ xs) (length (x ∷ xs)) x (omega arith)
    (λ k low. ap not (All-get_or (λ y. passes y ≡ true) (x ∷ xs) k x low h)) (λ low. absurd (omega (arith, low))) in
    ap (λ (n : ℕ). cond (nat_lt n (length (x ∷ xs))) (Some n) None) none ∙ ap (λ (b : Bool). cond b (Some (length (x ∷ xs))) None) (le-ltb _ _ (omega arith))

-- what holds of each of the front of a list that is the whole holds of each
pub all_of_whole : {X : Type 0} (P : X → Type 0) (l : List X) (i : ℕ) → length l ≤ i → All P (take i l) → All P l
all_of_whole {X} P l i whole h = subst (λ (m : List X). All P m) (take_all i l whole) h

some_is_not_none : (n : ℕ) → Some n ≡ None → ⊥
some_is_not_none n e = cc

-- where no place is the first that passes, there is none before the end
no_place : {X : Type 0} (n : ℕ) (l : List X) → cond (nat_lt n (length l)) (Some n) None ≡ None → length l ≤ n
no_place n l none =
    elim (cases_lt n (length l)) [
      | inl low ↦ absurd (some_is_not_none n (sym (ap (λ (b : Bool). cond b (Some n) None) (lt-ltb n (length l) low)) ∙ none))
      | inr high ↦ high
    ]

-- where none is the first that does not pass, each passes
pub each_passes : {X : Type 0} (passes : X → Bool) (l : List X) (i : ℕ) (x : X) → first_not passes l ≡ None → i < length l → x ≡ get_or l i x → passes x ≡ true
each_passes {X} passes l i x none low at =
    let fails : X → Bool = λ y. not (passes y) in
    let past : length l ≤ position_or_len (λ y. not (passes y)) l = no_place _ l none in
    let here : not (passes (get_or l i x)) ≡ false = fails_before_first fails l i x (omega (arith, past)) in
    ap passes at ∙ not-false (passes (get_or l i x)) here

-- the same of a range
pub range_passes : {X : Type 0} (passes : X → Bool) (l : List X) (place count : ℕ) → first_not passes l ≡ None → All (λ x. passes x ≡ true) (take count (drop place l))
range_passes {X} passes l place count none =
    All-take (λ x. passes x ≡ true) count (drop place l)
    (All-drop (λ x. passes x ≡ true) place l (λ k d low. each_passes passes l k (get_or l k d) none low (get_or_default l k d (get_or l k d) low)))

-- the same of a range of a slice that is the list
pub slice_passes : {X : Type 0} (passes : X → Bool) (l slice : List X) (place count : ℕ)
    → slice ≡ l → first_not passes l ≡ None
    → All (λ x. passes x ≡ true) (take count (drop place slice))
slice_passes {X} passes l slice place count same none =
    range_passes passes slice place count (ap (first_not passes) same ∙ none)

-- as many bytes as a range of items has
pub range_room : {X : Type 0} (size from to len : ℕ) (l slice : List X) → slice ≡ l
    → from ≤ to → to ≤ length l → len ≡ size * (to - from)
    → len ≡ size * length (take (to - from) (drop from slice))
range_room size from to len l slice same order inside room =
    let all : length slice ≡ length l = ap length same in
    let count : length (take (to - from) (drop from slice)) ≡ to - from =
    omega (
      arith,
      order,
      inside,
      all,
      length-drop from slice,
      length-take (to - from) (drop from slice),
    ) in
    room ∙ ap (λ (n : ℕ). size * n) (sym count)

-- the bytes of a range of items
pub range_put : {X : Type 0} (variant : List X → Items) (bytes_of : X → List ℕ) (class : Class)
    (order : Order) (from to : ℕ) (items : Items) (l slice : List X) (out : List ℕ)
    → ((m : List X) → encoded class order (variant m) ≡ flat_map bytes_of m)
    → ((m : List X) → items_between from to (variant m) ≡ variant (between from to m))
    → items ≡ variant l → slice ≡ l
    → out ≡ flat_map bytes_of (take (to - from) (drop from slice))
    → out ≡ encoded class order (items_between from to items)
range_put {X} variant bytes_of class order from to items l slice out bytes range is same put =
    put ∙ ap (λ (m : List X). flat_map bytes_of (take (to - from) (drop from m))) same
    ∙ sym (bytes (between from to l))
    ∙ ap (encoded class order) (sym (range l))
    ∙ sym (ap (λ (x : Items). encoded class order (items_between from to x)) is)
