-- The key of a name is a number of sixteen bytes, or of eight.
use Rattle.std.proofs.Common.{◌≡◌, ◌+◌, ◌*◌, ◌^◌, ◌<◌, ◌≤◌, ℕ, suc, List, sym, ap, ◌∙◌, subst, arith}
use Rattle.std.specs.Prelude.{slice_index, slice_index_or}
use Rattle.std.specs.Int.{from_be_bytes, w64}
use Rattle.std.proofs.Math.Nat.{pow-suc, pow-le-pow_right}
use Rattle.nm_tool.specs.Keys.{prefix}
use Rattle.nm_tool.specs.Ranked.{number_from}

-- one more byte
pub key_more : (place key byte : ℕ) → key < 256 ^ place → byte < 256 → key * 256 + byte < 256 ^ (place + 1)
key_more place key byte small b =
    let next : 256 ^ suc place ≡ 256 ^ place * 256 = pow-suc 256 place in
    let at : place + 1 ≡ suc place = omega arith in
    subst (λ (n : ℕ). key * 256 + byte < 256 ^ n) (sym at) (omega (arith, next, small, b))

pub key_fits : (place key byte : ℕ) → place < 16 → key < 256 ^ place → byte < 256 → key * 256 + byte < 2 ^ 128
key_fits place key byte lt small b =
    let top : 256 ^ (place + 1) ≤ 256 ^ 16 = pow-le-pow_right {n = 256} (omega arith) {i = place + 1} {j = 16} (omega (arith, lt)) in
    let whole : 256 ^ 16 ≤ 2 ^ 128 = omega arith in
    omega (arith, key_more place key byte small b, top, whole)

pub prefix_next : (place key byte : ℕ) (name : List ℕ) → key ≡ prefix place name → byte ≡ slice_index_or name place 0 → key * 256 + byte ≡ prefix (place + 1) name
unfolding prefix
prefix_next place key byte name is b =
    let at : suc place ≡ place + 1 = omega arith in
    ap (λ (k : ℕ). k * 256 + byte) is ∙ ap (λ (c : ℕ). prefix place name * 256 + c) b ∙ ap (λ (n : ℕ). prefix n name) at

pub word_fits : (i key byte : ℕ) → i < 8 → key < 256 ^ i → byte < 256 → key * 256 + byte < 2 ^ 64
word_fits i key byte lt small b =
    let top : 256 ^ (i + 1) ≤ 256 ^ 8 = pow-le-pow_right {n = 256} (omega arith) {i = i + 1} {j = 8} (omega (arith, lt)) in
    let whole : 256 ^ 8 ≤ 2 ^ 64 = omega arith in
    omega (arith, key_more i key byte small b, top, whole)

pub number_next : (place i key byte : ℕ) (name : List ℕ) → key ≡ number_from place i name
    → byte ≡ slice_index_or name (place + i) 0 → key * 256 + byte ≡ number_from place (i + 1) name
unfolding number_from
number_next place i key byte name is b =
    let at : suc i ≡ i + 1 = omega arith in
    ap (λ (k : ℕ). k * 256 + byte) is
    ∙ ap (λ (c : ℕ). number_from place i name * 256 + c) b
    ∙ ap (λ (n : ℕ). number_from place n name) at

-- eight bytes of a list as a number, at once
pub number_is : (place : ℕ) (name bytes : List ℕ)
    → ((i : ℕ) → i < 8 → slice_index bytes i ≡ slice_index_or name (place + i) 0)
    → from_be_bytes w64 bytes ≡ number_from place 8 name
unfolding number_from
number_is place name bytes same = omega (
  arith,
  same 0 (omega arith),
  same 1 (omega arith),
  same 2 (omega arith),
  same 3 (omega arith),
  same 4 (omega arith),
  same 5 (omega arith),
  same 6 (omega arith),
  same 7 (omega arith),
)
