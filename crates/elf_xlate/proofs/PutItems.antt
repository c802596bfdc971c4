-- The bytes of items, written one item after the other into bytes that are there.
use Rattle.std.proofs.Common.{◌≡◌, ℕ, ◌+◌, ◌*◌, ◌<◌, ◌≤◌, List, [], ◌∷◌, ◌++◌, length, take, drop, get_or, sym, ap, subst, ◌∙◌, arith, rules}
use Rattle.std.specs.List.{All, flat_map}
use Rattle.std.proofs.Math.Nat.{mul-le-mul_right, add-mul}
use Rattle.std.proofs.lemmas.Grind.{flat_map-append}
use Rattle.std.proofs.lemmas.List.{append-nil, length-take, length-drop, take_all, take_more, places}
use Rattle.std.proofs.lemmas.Slice.{take-put_mid}
use borrow.Rule.Slice.PartMut.{put_mid}
use Rattle.elf_xlate.proofs.Pieces.{all_and_one}

-- The front of the bytes is that of the items so far.
pub record ArePut {X : Type 0} (bytes_of : X → List ℕ) (size i : ℕ) (items : List X) (first out : List ℕ) : Type 0 where
  pub front : take (i * size) out ≡ flat_map bytes_of (take i items)
  pub len : length out ≡ length first

-- the length after a write to a part
pub length_mid : (a k : ℕ) (xs ys : List ℕ) → a + k ≤ length xs → length ys ≡ k
    → length (put_mid a k xs ys) ≡ length xs
length_mid a k xs ys fits long = search (rules, places)

-- an item more, with its bytes
front_more : {X : Type 0} (bytes_of : X → List ℕ) (i : ℕ) (items : List X) (x : X)
    → i < length items → x ≡ get_or items i x
    → flat_map bytes_of (take (i + 1) items) ≡ flat_map bytes_of (take i items) ++ bytes_of x
front_more {X} bytes_of i items x below is =
    ap (flat_map bytes_of) (take_more items i x below
    ∙ ap (λ (y : X). take i items ++ y ∷ []) (sym is))
    ∙ flat_map-append bytes_of (take i items) (x ∷ [])
    ∙ ap (λ (l : List ℕ). flat_map bytes_of (take i items) ++ l) (append-nil (bytes_of x))

-- One item more is put.
pub one_put : {X : Type 0} (bytes_of : X → List ℕ) (size s i k : ℕ) (items : List X)
    (first out piece : List ℕ) (x : X) → length first ≡ s * length items → size ≡ s
    → i < length items → k ≡ size → x ≡ get_or items i x
    → ArePut bytes_of size i items first out
    → length piece ≡ length (take k (drop (i * size) out)) → piece ≡ bytes_of x
    → ArePut bytes_of size (i + 1) items first (put_mid (i * size) k out piece)
one_put {X} bytes_of size s i k items first out piece x room is below same at so_far stays bytes =
    let more = mul-le-mul_right {m = i + 1} {n = length items} size (omega arith) in
    let all : length first ≡ size * length items =
    room ∙ ap (λ (n : ℕ). n * length items) (sym is) in
    let next : (i + 1) * size ≡ i * size + size = add-mul i 1 size ∙ omega arith in
    let fits : i * size + size ≤ length out =
    omega (arith, more, all, next, so_far.len) in
    let long : length piece ≡ size =
    omega (
      arith,
      stays,
      same,
      fits,
      length-take k (drop (i * size) out),
      length-drop (i * size) out,
    ) in
    record {
      front =
          take-put_mid (i * size) k out piece ((i + 1) * size) (omega (arith, next, long))
          (omega (arith, fits))
          ∙ ap (λ (l : List ℕ). l ++ piece) so_far.front
          ∙ ap (λ (l : List ℕ). flat_map bytes_of (take i items) ++ l) bytes
          ∙ sym (front_more bytes_of i items x below at);
      len =
          length_mid (i * size) k out piece (omega (arith, fits, same)) (long ∙ sym same)
          ∙ so_far.len;
    }

-- All items are put.
pub all_put : {X : Type 0} (bytes_of : X → List ℕ) (size s i : ℕ) (items : List X)
    (first out : List ℕ) → length first ≡ s * length items → size ≡ s
    → length items ≤ i → i ≤ length items → ArePut bytes_of size i items first out
    → out ≡ flat_map bytes_of items
all_put {X} bytes_of size s i items first out room is high low put =
    let all : length first ≡ size * length items =
    room ∙ ap (λ (n : ℕ). n * length items) (sym is) in
    let count : i ≡ length items = omega arith in
    let whole : i * size ≡ length out =
    omega (arith, put.len, all, ap (λ (n : ℕ). n * size) count) in
    sym (ap (λ (n : ℕ). take n out) whole ∙ take_all (length out) out (omega arith))
    ∙ put.front ∙ ap (flat_map bytes_of) (take_all i items high)

-- Of one item more something holds.
pub one_more : {X : Type 0} (P : X → Type 0) (i : ℕ) (items : List X) (x : X)
    → i < length items → x ≡ get_or items i x → All P (take i items) → P x
    → All P (take (i + 1) items)
one_more {X} P i items x below at all is =
    subst (λ (l : List X). All P l)
    (sym (take_more items i x below ∙ ap (λ (y : X). take i items ++ y ∷ []) (sym at)))
    (all_and_one P (take i items) x all is)
