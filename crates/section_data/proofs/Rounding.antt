-- Places that are rounded up to multiples, one after the other.
use Rattle.std.proofs.Common.{◌≡◌, ℕ, ◌+◌, ◌-◌, ◌*◌, ◌/◌, ◌%◌, ◌<◌, ◌≤◌, max, Bool, true, false, refl, sym, ap, ◌∙◌, subst, zero-add, arith}
use Rattle.std.specs.Prelude.{nat_lt}
use Rattle.std.proofs.Math.Nat.{mod-lt, mod_self, mod-eq_of_lt, mod-add-mod, add-mod-mod, div-add-mod, zero-mod}
use Rattle.std.proofs.lemmas.Nat.{mul-mod_first}
use Rattle.std.proofs.lemmas.Bool.{ltb-true, ltb-false}
use Rattle.elf_object.specs.elf_layout.Layout.{rounded_up}

-- ---- Multiples

-- what is added to one
added : (m d y : ℕ) → m % y ≡ 0 → (m + d) % y ≡ d % y
added m d y whole =
    sym (mod-add-mod m y d) ∙ ap (λ (n : ℕ). (n + d) % y) whole ∙ ap (λ (n : ℕ). n % y) (zero-add d)

-- they are apart
apart : (m n y : ℕ) → m % y ≡ 0 → n % y ≡ 0 → m < n → m + y ≤ n
apart m n y first second below = by_test (nat_lt (n - m) y) refl
  where
    sum : m + (n - m) ≡ n
    sum = omega (arith, below)

    whole : (n - m) % y ≡ 0
    whole = sym (added m (n - m) y first) ∙ ap (λ (k : ℕ). k % y) sum ∙ second

    by_test : (b : Bool) → nat_lt (n - m) y ≡ b → m + y ≤ n
    by_test true e =
        let none : n - m ≡ 0 = sym (mod-eq_of_lt (ltb-true (n - m) y e)) ∙ whole in
        absurd (omega (arith, none, below))
    by_test false e = let far = ltb-false (n - m) y e in omega (arith, far, below)

-- a multiple of a multiple
pub divided : (m big small : ℕ) → m % big ≡ 0 → big % small ≡ 0 → m % small ≡ 0
divided m big small whole divides =
    ap (λ (n : ℕ). n % small) parted
    ∙ sym (mul-mod_first big (m / big) small)
    ∙ ap (λ (n : ℕ). (n * (m / big)) % small) divides
    ∙ ap (λ (n : ℕ). n % small) none
    ∙ zero-mod small
  where
    parted : m ≡ big * (m / big)
    parted = let parts = div-add-mod m big in omega (arith, parts, whole)

    none : 0 * (m / big) ≡ 0
    none = omega arith

-- ---- The least one that is not below a number

record IsLeast (x y m : ℕ) : Type 0 where
  whole : m % y ≡ 0
  from : x ≤ m
  near : m < x + y

at_most : (x y m n : ℕ) → IsLeast x y m → n % y ≡ 0 → x ≤ n → m ≤ n
at_most x y m n least whole from = by_test (nat_lt n m) refl
  where
    by_test : (b : Bool) → nat_lt n m ≡ b → m ≤ n
    by_test true e =
        let far = apart n m y whole least.whole (ltb-true n m e) in
        let near = least.near in
        absurd (omega (arith, far, from, near))
    by_test false e = ltb-false n m e

unique : (x y m n : ℕ) → IsLeast x y m → IsLeast x y n → m ≡ n
unique x y m n a b =
    let low = at_most x y m n a b.whole b.from in
    let high = at_most x y n m b a.whole a.from in
    omega (arith, low, high)

least_is : (x y : ℕ) → 0 < y → IsLeast x y (x + (y - x % y) % y)
least_is x y some = record {
  whole =
      add-mod-mod x (y - x % y) y
      ∙ sym (mod-add-mod x y (y - x % y))
      ∙ ap (λ (n : ℕ). n % y) back
      ∙ mod_self y;
  from = omega arith;
  near = let below = mod-lt (y - x % y) some in omega (arith, below);
}
  where
    back : x % y + (y - x % y) ≡ y
    back = let below = mod-lt x some in omega (arith, below)

rounded_is : (n align : ℕ) → 0 < align → rounded_up n align ≡ n + (align - n % align) % align
unfolding rounded_up
rounded_is n align some =
    let same : max align 1 ≡ align = omega (arith, some) in
    ap (λ (y : ℕ). n + (y - n % y) % y) same

rounded_least : (n align : ℕ) → 0 < align → IsLeast n align (rounded_up n align)
rounded_least n align some =
    subst (λ (m : ℕ). IsLeast n align m) (sym (rounded_is n align some)) (least_is n align some)

pub rounded_to_one : (n : ℕ) → rounded_up (n + 0) 1 + 0 ≡ n
unfolding rounded_up
rounded_to_one n = omega arith

-- ---- One after the other

-- what stands behind a multiple
rounded_behind : (x m align : ℕ) → 0 < align → x % align ≡ 0
    → rounded_up (x + m) align ≡ x + rounded_up m align
rounded_behind x m align some whole =
    let first = rounded_least m align some in
    let from = first.from in
    let near = first.near in
    unique (x + m) align (rounded_up (x + m) align) (x + rounded_up m align)
    (rounded_least (x + m) align some)
    (record {
      whole = added x (rounded_up m align) align whole ∙ first.whole;
      from = omega (arith, from);
      near = omega (arith, near);
    })

-- rounding up to a divisor first changes nothing
rounded_twice : (x small big : ℕ) → 0 < small → 0 < big → big % small ≡ 0
    → rounded_up (rounded_up x small) big ≡ rounded_up x big
rounded_twice x small big some more divides =
    let inner = rounded_least x small some in
    let outer = rounded_least x big more in
    let whole = divided (rounded_up x big) big small outer.whole divides in
    let least = at_most x small (rounded_up x small) (rounded_up x big) inner whole outer.from in
    let near = outer.near in
    let from = inner.from in
    unique (rounded_up x small) big (rounded_up (rounded_up x small) big) (rounded_up x big)
    (rounded_least (rounded_up x small) big more)
    (record { whole = outer.whole; from = least; near = omega (arith, near, from) })

module _ (end before align len : ℕ) (more size : ℕ) where
  -- a run with a piece more, whose alignment divides the run's
  pub lengthened_end : 0 < align → 0 < more → align % more ≡ 0
      → rounded_up (end + before) align + (rounded_up len more + size)
      ≡ rounded_up (rounded_up (end + before) align + len) more + size
  lengthened_end some other divides =
      let whole = divided (rounded_up (end + before) align) align more
      (rounded_least (end + before) align some).whole divides in
      let same = rounded_behind (rounded_up (end + before) align) len more other whole in
      omega (arith, same)

  -- and one whose alignment is a multiple of it
  pub widened_end : 0 < align → 0 < more → more % align ≡ 0
      → rounded_up (end + (before + rounded_up len align)) more + size
      ≡ rounded_up (rounded_up (end + before) align + len) more + size
  widened_end some other divides =
      let first = (rounded_least (end + before) align some).whole in
      let next = (rounded_least len align some).whole in
      let moved : rounded_up len align + (end + before) ≡ end + (before + rounded_up len align) =
      omega arith in
      let swapped : rounded_up len align + rounded_up (end + before) align
      ≡ rounded_up (end + before) align + rounded_up len align =
      omega arith in
      ap (λ (n : ℕ). n + size)
      (ap (λ (n : ℕ). rounded_up n more) (sym moved)
      ∙ sym (rounded_twice (rounded_up len align + (end + before)) align more some other divides)
      ∙ ap (λ (n : ℕ). rounded_up n more)
      (rounded_behind (rounded_up len align) (end + before) align some next
      ∙ swapped
      ∙ sym (rounded_behind (rounded_up (end + before) align) len align some first))
      ∙ rounded_twice (rounded_up (end + before) align + len) align more some other divides)
