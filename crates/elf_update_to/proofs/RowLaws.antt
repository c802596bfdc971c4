-- Rows of one size, one after the other.
use Rattle.std.proofs.Common.{◌≡◌, ℕ, zero, suc, ◌+◌, ◌*◌, ◌<◌, ◌≤◌, List, [], ◌∷◌, ◌++◌, length, take, drop, get_or, sym, ap, ◌∙◌, arith, drop-drop}
use Rattle.std.specs.List.{flat_map}
use Rattle.std.proofs.lemmas.List.{take_at, drop_at, take_all}
use Rattle.std.proofs.Math.Nat.{mul-le-mul_left}
use Rattle.std.proofs.lemmas.Slice.{take-put_mid}
use borrow.Rule.Slice.PartMut.{put_mid}
use Rattle.elf_update_to.proofs.EntryLaws.{ranges_join}
use Rattle.elf_update_to.proofs.PageLaws.{length_mid}

-- the first rows are written
pub record AreRowsPut (size from some i : ℕ) (bytes out : List ℕ) : Type 0 where
  pub front : take (i * size) out ≡ take (size * i) (drop (size * from) bytes)
  pub len : length out ≡ size * some

pub none_put : (size from some : ℕ) (bytes out : List ℕ) → length out ≡ size * some
    → AreRowsPut size from some 0 bytes out
none_put size from some bytes out len =
    let left : 0 * size ≡ 0 = omega arith in
    let right : size * 0 ≡ 0 = omega arith in
    record {
      front = ap (λ (n : ℕ). take n out) left ∙ sym (ap (λ (n : ℕ). take n (drop (size * from) bytes)) right);
      len = len;
    }

pub one_put : (size from some i k : ℕ) (bytes out row : List ℕ) → i + 1 ≤ some → k ≡ size
    → AreRowsPut size from some i bytes out
    → row ≡ take size (drop (size * (from + i)) bytes) → length row ≡ size
    → AreRowsPut size from some (i + 1) bytes (put_mid (i * size) k out row)
one_put size from some i k bytes out row there same put is long =
    let more = mul-le-mul_left {m = i + 1} {n = some} size there in
    let fits : i * size + k ≤ length out = omega (arith, put.len, more, same) in
    let next : (i + 1) * size ≡ i * size + length row = omega (arith, long) in
    record {
      front = take-put_mid (i * size) k out row ((i + 1) * size) next (omega (arith, fits))
          ∙ ap (λ (l : List ℕ). l ++ row) put.front
          ∙ ap (λ (l : List ℕ). take (size * i) (drop (size * from) bytes) ++ l)
          (is ∙ ap (λ (n : ℕ). take n (drop (size * (from + i)) bytes)) (omega arith))
          ∙ ranges_join (size * from) (size * i) (size * (i + 1)) (size * (from + i)) bytes (omega arith) (omega arith);
      len = length_mid (i * size) k out row (omega (arith, long, same)) fits ∙ put.len;
    }

pub all_put : (size from some i : ℕ) (bytes out : List ℕ) → i ≡ some → AreRowsPut size from some i bytes out
    → out ≡ take (size * some) (drop (size * from) bytes)
all_put size from some i bytes out is put =
    let whole : i * size ≡ length out = omega (arith, put.len, ap (λ (n : ℕ). n * size) is) in
    let count : size * i ≡ size * some = ap (λ (n : ℕ). size * n) is in
    sym (ap (λ (n : ℕ). take n out) whole ∙ take_all (length out) out (omega arith))
    ∙ put.front ∙ ap (λ (n : ℕ). take n (drop (size * from) bytes)) count

-- what stands in the bytes of items of one size
pub flat_at : {X : Type 0} (f : X → List ℕ) (size : ℕ) → ((x : X) → length (f x) ≡ size) → (l : List X) (i : ℕ) (d : X)
    → i < length l → f (get_or l i d) ≡ take size (drop (size * i) (flat_map f l))
flat_at f size each [] i d there = absurd (omega arith)
flat_at f size each (x ∷ l) zero d there =
    let none : size * 0 ≡ 0 = omega arith in
    sym (ap (λ (n : ℕ). take size (drop n (f x ++ flat_map f l))) none ∙ take_at (f x) (flat_map f l) size (each x))
flat_at f size each (x ∷ l) (suc i) d there =
    let more : size * suc i ≡ size + size * i = omega arith in
    flat_at f size each l i d (omega arith)
    ∙ sym (ap (λ (n : ℕ). take size (drop n (f x ++ flat_map f l))) more
    ∙ ap (take size) (sym (drop-drop (size * i) size (f x ++ flat_map f l))
    ∙ ap (drop (size * i)) (drop_at (f x) (flat_map f l) size (each x))))
