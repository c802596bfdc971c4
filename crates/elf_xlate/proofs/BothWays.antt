-- Lists of items, read and written: both ways round, from the same of one item.
use Rattle.std.proofs.Common.{◌≡◌, ℕ, zero, suc, ◌+◌, ◌*◌, ◌/◌, ◌%◌, ◌<◌, ◌≤◌, List, [], ◌∷◌, ◌++◌, length, take, drop, map, refl, sym, ap, ◌∙◌, arith, inl, inr, add-one}
use Rattle.std.specs.Prelude.{Some, None, cond, nat_eq, Bool}
use Rattle.std.specs.List.{range_with_len, flat_map, AllByRecursion}
use Rattle.std.proofs.lemmas.List.{drop-drop, take_at, drop_at, take_all, length-append, length-take-le, length-drop, append-nil}
use Rattle.std.proofs.lemmas.Grind.{flat_map-append}
use Rattle.std.proofs.lemmas.Bool.{eq-eqb, eqb-true, cases_Bool}
use Rattle.std.proofs.Math.Nat.{div-add-mod, mul-mod_left, mul-div_cancel, add-mul, suc-mul, mul_comm}
use Rattle.std.proofs.Math.Seq.{take-add}
use Rattle.elf_xlate.specs.Translation.{items_of, listed}
use Rattle.elf_xlate.proofs.Digits.{AreBytes, part_bytes}
use Rattle.elf_xlate.proofs.Pieces.{items_of_more, items_of_none}

some_same : {X : Type 0} (a b : List X) → Some a ≡ Some b → a ≡ b
some_same a b e = cc

none_is_not_some : {X : Type 0} (a : List X) → None ≡ Some a → ⊥
none_is_not_some a e = cc

-- Written as they were read, that many items give the front of the bytes.
written_front : {X : Type 0} (item : List ℕ → X) (bytes_of : X → List ℕ) (size n : ℕ) (bytes : List ℕ)
    → ((piece : List ℕ) → AreBytes piece → length piece ≡ size → bytes_of (item piece) ≡ piece)
    → AreBytes bytes → n * size ≤ length bytes → flat_map bytes_of (items_of item size n bytes) ≡ take (n * size) bytes
written_front item bytes_of size zero bytes back bs room =
    let start : 0 * size ≡ 0 = omega arith in
    ap (flat_map bytes_of) (items_of_none item size bytes) ∙ ap (λ (k : ℕ). take k bytes) (sym start)
written_front {X} item bytes_of size (suc n) bytes back bs room =
    let end : n * size + size ≡ suc n * size = sym (suc-mul n size) in
    let piece : List ℕ = take size (drop (n * size) bytes) in
    let len : length (take size (drop (n * size) bytes)) ≡ size = length-take-le size (drop (n * size) bytes) (omega (arith, length-drop (n * size) bytes)) in
    let front = written_front item bytes_of size n bytes back bs (omega arith) in
    let one : flat_map bytes_of (item piece ∷ []) ≡ take size (drop (n * size) bytes) = append-nil (bytes_of (item piece)) ∙ back piece (part_bytes (n * size) size bytes bs) len in
    ap (flat_map bytes_of) (ap (λ (k : ℕ). items_of item size k bytes) (sym (add-one n)) ∙ items_of_more item size n bytes)
    ∙ flat_map-append bytes_of (items_of item size n bytes) (item piece ∷ [])
    ∙ ap (λ (bs : List ℕ). bs ++ flat_map bytes_of (item piece ∷ [])) front
    ∙ ap (λ (bs : List ℕ). take (n * size) bytes ++ bs) one
    ∙ sym (take-add (n * size) size bytes) ∙ ap (λ (k : ℕ). take k bytes) end

-- Written as they were read, whole items give the bytes.
pub written_all : {X : Type 0} (item : List ℕ → X) (bytes_of : X → List ℕ) (size : ℕ) (bytes : List ℕ) (l : List X)
    → ((piece : List ℕ) → AreBytes piece → length piece ≡ size → bytes_of (item piece) ≡ piece)
    → AreBytes bytes → listed item size bytes ≡ Some l → flat_map bytes_of l ≡ bytes
unfolding listed
written_all item bytes_of size bytes l back bs given =
    let n : ℕ = length bytes / size in
    elim (cases_Bool (nat_eq (length bytes % size) 0)) [
      | inl whole ↦
          let none_left : length bytes % size ≡ 0 = eqb-true (length bytes % size) 0 whole in
          let all : length bytes / size * size ≡ length bytes = omega (arith, div-add-mod (length bytes) size, mul_comm size (length bytes / size)) in
          let is : items_of item size n bytes ≡ l = some_same (items_of item size n bytes) l (sym (ap (λ (b : Bool). cond b (Some (items_of item size n bytes)) None) whole) ∙ given) in
          ap (flat_map bytes_of) (sym is) ∙ written_front item bytes_of size n bytes back bs (omega arith) ∙ take_all (length bytes / size * size) bytes (omega arith)
      | inr ragged ↦ absurd (none_is_not_some l (sym (ap (λ (b : Bool). cond b (Some (items_of item size n bytes)) None) ragged) ∙ given))
    ]

-- one item first
items_shifted : {X : Type 0} (item : List ℕ → X) (size a n : ℕ) (bytes : List ℕ)
    → map (λ i. item (take size (drop (i * size) bytes))) (range_with_len (a + 1) n) ≡ map (λ i. item (take size (drop (i * size) (drop size bytes)))) (range_with_len a n)
items_shifted item size a zero bytes = refl
items_shifted {X} item size a (suc n) bytes =
    let at : (a + 1) * size ≡ size + a * size = add-mul a 1 size ∙ omega arith in
    let first : item (take size (drop ((a + 1) * size) bytes)) ≡ item (take size (drop (a * size) (drop size bytes))) =
    ap (λ (p : ℕ). item (take size (drop p bytes))) at ∙ ap (λ (b : List ℕ). item (take size b)) (sym (drop-drop (a * size) size bytes)) in
    let rest = items_shifted item size (a + 1) n bytes in
    ap (λ (x : X). x ∷ map (λ i. item (take size (drop (i * size) bytes))) (range_with_len (a + 1 + 1) n)) first
    ∙ ap (λ (xs : List X). item (take size (drop (a * size) (drop size bytes))) ∷ xs) rest

items_of_first : {X : Type 0} (item : List ℕ → X) (size n : ℕ) (bytes : List ℕ)
    → items_of item size (suc n) bytes ≡ item (take size bytes) ∷ items_of item size n (drop size bytes)
unfolding items_of
items_of_first {X} item size n bytes =
    let start : 0 * size ≡ 0 = omega arith in
    ap (λ (p : ℕ). item (take size (drop p bytes)) ∷ map (λ i. item (take size (drop (i * size) bytes))) (range_with_len (0 + 1) n)) start
    ∙ ap (λ (xs : List X). item (take size bytes) ∷ xs) (items_shifted item size 0 n bytes)

-- Read as they were written, items are the same.
read_all : {X : Type 0} (item : List ℕ → X) (bytes_of : X → List ℕ) (Good : X → Type 0) (size : ℕ) (l : List X)
    → ((x : X) → Good x → length (bytes_of x) ≡ size) → ((x : X) → Good x → item (bytes_of x) ≡ x)
    → AllByRecursion Good l → items_of item size (length l) (flat_map bytes_of l) ≡ l
read_all item bytes_of Good size [] len back good = items_of_none item size []
read_all {X} item bytes_of Good size (x ∷ l) len back good =
    let one = len x good.0 in
    let front : take size (bytes_of x ++ flat_map bytes_of l) ≡ bytes_of x = take_at (bytes_of x) (flat_map bytes_of l) size one in
    let others : drop size (bytes_of x ++ flat_map bytes_of l) ≡ flat_map bytes_of l = drop_at (bytes_of x) (flat_map bytes_of l) size one in
    items_of_first item size (length l) (bytes_of x ++ flat_map bytes_of l)
    ∙ ap (λ (b : List ℕ). item b ∷ items_of item size (length l) (drop size (bytes_of x ++ flat_map bytes_of l))) front
    ∙ ap (λ (b : List ℕ). item (bytes_of x) ∷ items_of item size (length l) b) others
    ∙ ap (λ (y : X). y ∷ items_of item size (length l) (flat_map bytes_of l)) (back x good.0)
    ∙ ap (λ (xs : List X). x ∷ xs) (read_all item bytes_of Good size l len back good.1)

length_written_all : {X : Type 0} (bytes_of : X → List ℕ) (Good : X → Type 0) (size : ℕ) (l : List X)
    → ((x : X) → Good x → length (bytes_of x) ≡ size) → AllByRecursion Good l → length (flat_map bytes_of l) ≡ length l * size
length_written_all bytes_of Good size [] len good = omega arith
length_written_all bytes_of Good size (x ∷ l) len good =
    let rest = length_written_all bytes_of Good size l len good.1 in
    omega (arith, length-append (bytes_of x) (flat_map bytes_of l), len x good.0, rest, suc-mul (length l) size)

-- Read as they were written, whole items are the same list.
pub listed_again : {X : Type 0} (item : List ℕ → X) (bytes_of : X → List ℕ) (Good : X → Type 0) (size : ℕ) (l : List X) → 0 < size
    → ((x : X) → Good x → length (bytes_of x) ≡ size) → ((x : X) → Good x → item (bytes_of x) ≡ x)
    → AllByRecursion Good l → listed item size (flat_map bytes_of l) ≡ Some l
unfolding listed
listed_again {X} item bytes_of Good size l some len back good =
    let bytes : List ℕ = flat_map bytes_of l in
    let all : length (flat_map bytes_of l) ≡ length l * size = length_written_all bytes_of Good size l len good in
    let whole : length (flat_map bytes_of l) % size ≡ 0 = ap (λ (k : ℕ). k % size) all ∙ mul-mod_left (length l) size in
    let count : length (flat_map bytes_of l) / size ≡ length l = ap (λ (k : ℕ). k / size) all ∙ mul-div_cancel (length l) some in
    ap (λ (b : Bool). cond b (Some (items_of item size (length bytes / size) bytes)) None) (eq-eqb _ _ whole)
    ∙ ap (λ (n : ℕ). Some (items_of item size n bytes)) count
    ∙ ap (λ (xs : List X). Some xs) (read_all item bytes_of Good size l len back good)
