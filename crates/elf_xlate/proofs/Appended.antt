-- The bytes of the items of a list, appended some items at a time.
use Rattle.std.proofs.Common.{◌≡◌, ℕ, ◌*◌, ◌/◌, ◌<◌, ◌≤◌, List, [], ◌∷◌, ◌++◌, length, take, Bool, true, refl, sym, ap, ◌∙◌, subst, arith, append_assoc, take-take, take_all}
use Rattle.std.specs.List.{All, flat_map}
use Rattle.std.proofs.lemmas.List.{append-nil, length-take}
use Rattle.std.proofs.lemmas.List.Elements.{All-nil, All-append}
use Rattle.std.proofs.lemmas.Grind.{flat_map-append}
use Rattle.std.proofs.Math.Nat.{mul-le-mul_left, mul-div-le, le-div_iff_mul-le}

-- what is appended so far and the bytes of the items that are left are those of all
pub record AreAppended {X : Type 0} (bytes_of : X → List ℕ) (fitting : X → Bool)
    (items rest : List X) (first out : List ℕ) : Type 0 where
  pub bytes : out ++ flat_map bytes_of rest ≡ first ++ flat_map bytes_of items
  pub fits : All (λ x. fitting x ≡ true) rest → All (λ x. fitting x ≡ true) items
  pub front : take (length first) out ≡ first

-- none at first
pub none_appended : {X : Type 0} (bytes_of : X → List ℕ) (fitting : X → Bool) (items : List X)
    (first : List ℕ) → AreAppended bytes_of fitting items items first first
none_appended bytes_of fitting items first =
    record { bytes = refl; fits = λ h. h; front = take_all (length first) first (omega arith) }

-- what stands before is kept
pub front_kept : (first out new : List ℕ) → take (length first) out ≡ first
    → take (length out) new ≡ out → take (length first) new ≡ first
front_kept first out new before now =
    let whole : length (take (length first) out) ≡ length first =
    ap (λ (l : List ℕ). length l) before in
    let short : length first ≤ length out = omega (arith, whole, length-take (length first) out) in
    sym (take-take (length first) (length out) new short)
    ∙ ap (λ (l : List ℕ). take (length first) l) now ∙ before

-- and some more
pub some_appended : {X : Type 0} (bytes_of : X → List ℕ) (fitting : X → Bool)
    (items rest some others : List X) (first out new : List ℕ)
    → AreAppended bytes_of fitting items rest first out → rest ≡ some ++ others
    → All (λ x. fitting x ≡ true) some → new ≡ out ++ flat_map bytes_of some
    → take (length out) new ≡ out → AreAppended bytes_of fitting items others first new
some_appended {X} bytes_of fitting items rest some others first out new so_far split fit is front =
    record {
      bytes =
          ap (λ (l : List ℕ). l ++ flat_map bytes_of others) is
          ∙ append_assoc out (flat_map bytes_of some) (flat_map bytes_of others)
          ∙ ap (λ (l : List ℕ). out ++ l) (sym (flat_map-append bytes_of some others))
          ∙ ap (λ (l : List X). out ++ flat_map bytes_of l) (sym split) ∙ so_far.bytes;
      fits = λ h. so_far.fits
          (subst (λ (l : List X). All (λ x. fitting x ≡ true) l) (sym split)
          (All-append (λ x. fitting x ≡ true) some others fit h));
      front = front_kept first out new so_far.front front;
    }

-- all, where none is left
pub all_appended : {X : Type 0} (bytes_of : X → List ℕ) (fitting : X → Bool)
    (items rest : List X) (first out : List ℕ) → AreAppended bytes_of fitting items rest first out
    → length rest ≡ 0
    → (out ≡ first ++ flat_map bytes_of items) × All (λ x. fitting x ≡ true) items
all_appended bytes_of fitting items [] first out so_far none =
    (sym (append-nil out) ∙ so_far.bytes, so_far.fits (All-nil (λ x. fitting x ≡ true)))
all_appended bytes_of fitting items (x ∷ rest) first out so_far none = absurd (omega arith)

-- ---- As many items as so many bytes are

-- they have no more bytes
pub some_have : (len size count : ℕ) → count ≤ len / size → size * count ≤ len
some_have len size count few = omega (arith, mul-le-mul_left size few, mul-div-le len size)

-- and are one at least
pub one_has : (len size : ℕ) → 0 < size → size ≤ 64 → 64 ≤ len → 0 < len / size
one_has len size some small most =
    let one : 1 ≤ len / size =
    (le-div_iff_mul-le {k = size} {x = 1} {y = len} some).1 (omega arith) in
    omega (arith, one)
