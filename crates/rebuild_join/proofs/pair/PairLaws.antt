-- Ranges of bytes of which one list stands behind another, and reads of them.
use Rattle.std.proofs.Common.{◌≡◌, ◌+◌, ◌-◌, ◌^◌, ◌<◌, ◌≤◌, ◌++◌, ℕ, List, All, Option, Some, None, Result, Ok, Err, IfSome, OnOk, length, take, drop, refl, sym, ap, ◌∙◌, subst, arith, length-drop, drop-drop, drop_at, take-add}
use Rattle.std.proofs.lemmas.List.{take-append-le, drop-append-le}
use Rattle.std.proofs.lemmas.List.Elements.{All-append}
use Rattle.elf_outside.specs.Asks.{Leaves}
use Rattle.elf_outside.specs.Counts.{HasCause, RaisedBy}
use Rattle.elf_outside.specs.declared.sources.Source.{Ghosts}
use Rattle.rebuild_join.specs.Pair.Pairs.{bytes_of_pair, rest_of_pair}
use Rattle.rebuild_join.specs.Pair.Reads.{both_answers, ReadsPair}

-- ---- Ranges

-- within the first list
in_first : (xs ys : List ℕ) (at n : ℕ) → at + n ≤ length xs
    → take n (drop at (xs ++ ys)) ≡ take n (drop at xs)
in_first xs ys at n inside =
    ap (λ (l : List ℕ). take n l) (drop-append-le at xs ys (omega (arith, inside)))
    ∙ take-append-le n (drop at xs) ys (omega (arith, length-drop at xs, inside))

-- behind it
in_second : (xs ys : List ℕ) (at : ℕ) → length xs ≤ at
    → drop at (xs ++ ys) ≡ drop (at - length xs) ys
in_second xs ys at behind =
    let place : at ≡ length xs + (at - length xs) = omega (arith, behind) in
    ap (λ (k : ℕ). drop k (xs ++ ys)) place
    ∙ sym (drop-drop (at - length xs) (length xs) (xs ++ ys))
    ∙ ap (λ (l : List ℕ). drop (at - length xs) l) (drop_at xs ys (length xs) refl)

-- from the one into the other
across : (xs ys : List ℕ) (at n m : ℕ) → at + n ≡ length xs
    → take n (drop at xs) ++ take m (drop 0 ys) ≡ take (n + m) (drop at (xs ++ ys))
across xs ys at n m ends =
    let none : at + n - length xs ≡ 0 = omega (arith, ends) in
    ap (λ (l : List ℕ). l ++ take m (drop 0 ys))
    (sym (in_first xs ys at n (omega (arith, ends))))
    ∙ ap (λ (l : List ℕ). take n (drop at (xs ++ ys)) ++ take m l)
    (sym (drop-drop n at (xs ++ ys) ∙ in_second xs ys (at + n) (omega (arith, ends))
    ∙ ap (λ (k : ℕ). drop k ys) none))
    ∙ sym (take-add n m (drop at (xs ++ ys)))

-- ---- What the pair tells

-- its bytes are bytes
pub pair_ranged : (a b : Option (List ℕ)) → IfSome a (λ bytes. All (λ n. n < 2 ^ 8) bytes)
    → IfSome b (λ bytes. All (λ n. n < 2 ^ 8) bytes)
    → IfSome (bytes_of_pair a b) (λ bytes. All (λ n. n < 2 ^ 8) bytes)
pair_ranged None b one other = tt
pair_ranged (Some a) None one other = tt
pair_ranged (Some a) (Some b) one other = All-append (λ n. n < 2 ^ 8) a b one other

-- ---- Reads

-- within the first
first_bytes : {A E : Type 0} (r : Result A E) (a b : Option (List ℕ)) (size at n : ℕ)
    (buf : List ℕ) → at + n ≤ size → IfSome a (λ bytes. length bytes ≡ size)
    → OnOk r (IfSome a (λ bytes. buf ≡ take n (drop at bytes)))
    → OnOk r (IfSome (bytes_of_pair a b) (λ bytes. buf ≡ take n (drop at bytes)))
first_bytes (Ok x) None b size at n buf inside sized reads = tt
first_bytes (Ok x) (Some a) None size at n buf inside sized reads = tt
first_bytes (Ok x) (Some a) (Some b) size at n buf inside sized reads =
    reads ∙ sym (in_first a b at n (omega (arith, inside, sized)))
first_bytes (Err e) a b size at n buf inside sized reads = tt

-- behind it
second_bytes : {A E : Type 0} (r : Result A E) (a b : Option (List ℕ)) (size at n : ℕ)
    (buf : List ℕ) → size ≤ at → IfSome a (λ bytes. length bytes ≡ size)
    → OnOk r (IfSome b (λ bytes. buf ≡ take n (drop (at - size) bytes)))
    → OnOk r (IfSome (bytes_of_pair a b) (λ bytes. buf ≡ take n (drop at bytes)))
second_bytes (Ok x) None b size at n buf behind sized reads = tt
second_bytes (Ok x) (Some a) None size at n buf behind sized reads = tt
second_bytes (Ok x) (Some a) (Some b) size at n buf behind sized reads =
    reads
    ∙ ap (λ (k : ℕ). take n (drop (at - k) b)) (sym sized)
    ∙ ap (λ (l : List ℕ). take n l) (sym (in_second a b at (omega (arith, behind, sized))))
second_bytes (Err e) a b size at n buf behind sized reads = tt

-- across the border
across_bytes : {A E : Type 0} (r q : Result A E) (a b : Option (List ℕ)) (size at n m : ℕ)
    (x y : List ℕ) → at + n ≡ size → IfSome a (λ bytes. length bytes ≡ size)
    → OnOk r (IfSome a (λ bytes. x ≡ take n (drop at bytes)))
    → OnOk q (IfSome b (λ bytes. y ≡ take m (drop 0 bytes)))
    → OnOk (both_answers r q)
    (IfSome (bytes_of_pair a b) (λ bytes. x ++ y ≡ take (n + m) (drop at bytes)))
across_bytes (Ok u) (Ok v) None b size at n m x y ends sized one other = tt
across_bytes (Ok u) (Ok v) (Some a) None size at n m x y ends sized one other = tt
across_bytes (Ok u) (Ok v) (Some a) (Some b) size at n m x y ends sized one other =
    ap (λ (l : List ℕ). l ++ y) one
    ∙ ap (λ (l : List ℕ). take n (drop at a) ++ l) other
    ∙ across a b at n m (ends ∙ sym sized)
across_bytes (Ok u) (Err e) a b size at n m x y ends sized one other = tt
across_bytes (Err e) q a b size at n m x y ends sized one other = tt

-- ---- What they leave

-- the cause of a read of the one, or of both, is one of the sum
first_cause : {A E : Type 0} (r : Result A E) (m m' n : ℕ) → HasCause m m' r
    → HasCause (m + n) (m' + n) r
first_cause (Ok x) m m' n c =
    let later = c.later in record { later = omega (arith, later); failed = tt }
first_cause (Err e) m m' n c =
    let later = c.later in
    let rose = c.failed in
    record { later = omega (arith, later); failed = omega (arith, later, rose) }

second_cause : {A E : Type 0} (r : Result A E) (m n n' : ℕ) → HasCause n n' r
    → HasCause (m + n) (m + n') r
second_cause (Ok x) m n n' c =
    let later = c.later in record { later = omega (arith, later); failed = tt }
second_cause (Err e) m n n' c =
    let later = c.later in
    let rose = c.failed in
    record { later = omega (arith, later); failed = omega (arith, later, rose) }

across_cause : {A E : Type 0} (r q : Result A E) (m m' n n' : ℕ) → HasCause m m' r
    → HasCause n n' q → HasCause (m + n) (m' + n') (both_answers r q)
across_cause (Ok x) (Ok y) m m' n n' c d =
    let one = c.later in
    let other = d.later in record { later = omega (arith, one, other); failed = tt }
across_cause (Ok x) (Err e) m m' n n' c d =
    let one = c.later in
    let other = d.later in
    let rose = d.failed in
    record { later = omega (arith, one, other); failed = omega (arith, one, other, rose) }
across_cause (Err e) q m m' n n' c d =
    let one = c.later in
    let other = d.later in
    let rose = c.failed in
    record { later = omega (arith, one, other); failed = omega (arith, one, other, rose) }

-- so many bytes were asked of both
raised : (m m' n n' x y z : ℕ) → x + y ≡ z → RaisedBy m m' x → RaisedBy n n' y
    → RaisedBy (m + n) (m' + n') z
raised m m' n n' x y z sums one other =
    let later = one.later in
    let more = one.no_more in
    let exact = one.exact in
    let later_too = other.later in
    let more_too = other.no_more in
    let exact_too = other.exact in
    record {
      later = omega (arith, later, later_too);
      no_more = omega (arith, more, more_too, sums);
      exact = λ small.
          let first = exact (omega (arith, small, sums)) in
          let second = exact_too (omega (arith, small, sums)) in
          omega (arith, first, second, sums);
    }

none_raised : (n : ℕ) → RaisedBy n n 0
none_raised n = record {
  later = omega arith;
  no_more = omega arith;
  exact = λ small. omega arith;
}

same_left : {S : Type 0} (g : Ghosts S) (s : S) → Leaves g s s
same_left g s = record { same_len = refl; same_bytes = refl; same_rest = refl }

module _ {S T A E : Type 0} (g : Ghosts S) (h : Ghosts T) (at : ℕ) (a : S) (b : T)
    (old : List ℕ) (sized : IfSome (g.holds a) (λ bytes. length bytes ≡ g.size a)) where
  pub first_read : (r : Result A E) (next : S) (end : ℕ) (buf : List ℕ) → end ≡ g.size a
      → length old ≤ end - at → at < end → Leaves g a next
      → OnOk r (IfSome (g.holds a) (λ bytes. buf ≡ take (length old) (drop at bytes)))
      → HasCause (g.faults a) (g.faults next) r
      → RaisedBy (g.taken a) (g.taken next) (length old)
      → ReadsPair g h at r a next b b old buf
  first_read r next end buf is few inside left reads cause taken = record {
    first = left;
    second = same_left h b;
    bytes = first_bytes r (g.holds a) (h.holds b) (g.size a) at (length old) buf
        (omega (arith, is, few, inside)) sized reads;
    cause = first_cause r (g.faults a) (g.faults next) (h.faults b) cause;
    taken = raised (g.taken a) (g.taken next) (h.taken b) (h.taken b) (length old) 0 (length old)
        (omega arith) taken (none_raised (h.taken b));
  }

  pub second_read : (r : Result A E) (next : T) (end : ℕ) (buf : List ℕ) → end ≡ g.size a
      → end ≤ at → Leaves h b next
      → OnOk r (IfSome (h.holds b) (λ bytes. buf ≡ take (length old) (drop (at - end) bytes)))
      → HasCause (h.faults b) (h.faults next) r
      → RaisedBy (h.taken b) (h.taken next) (length old)
      → ReadsPair g h at r a a b next old buf
  second_read r next end buf is behind left reads cause taken = record {
    first = same_left g a;
    second = left;
    bytes = second_bytes r (g.holds a) (h.holds b) end at (length old) buf behind
        (told_end (g.holds a) sized) reads;
    cause = second_cause r (g.faults a) (h.faults b) (h.faults next) cause;
    taken = raised (g.taken a) (g.taken a) (h.taken b) (h.taken next) 0 (length old) (length old)
        (omega arith) (none_raised (g.taken a)) taken;
  }
    where
      told_end : (held : Option (List ℕ)) → IfSome held (λ bytes. length bytes ≡ g.size a)
          → IfSome held (λ bytes. length bytes ≡ end)
      told_end None long = tt
      told_end (Some bytes) long = long ∙ sym is

  pub both_read : (r q answer : Result A E) (next : S) (after : T) (n m : ℕ) (x y : List ℕ)
      → answer ≡ both_answers r q → at + n ≡ g.size a → n + m ≡ length old
      → Leaves g a next → Leaves h b after
      → OnOk r (IfSome (g.holds a) (λ bytes. x ≡ take n (drop at bytes)))
      → OnOk q (IfSome (h.holds b) (λ bytes. y ≡ take m (drop 0 bytes)))
      → HasCause (g.faults a) (g.faults next) r → HasCause (h.faults b) (h.faults after) q
      → RaisedBy (g.taken a) (g.taken next) n → RaisedBy (h.taken b) (h.taken after) m
      → ReadsPair g h at answer a next b after old (x ++ y)
  both_read r q answer next after n m x y is ends sums left left_too one other cause cause_too
      taken taken_too =
      rw is (record {
        first = left;
        second = left_too;
        bytes = long (across_bytes r q (g.holds a) (h.holds b) (g.size a) at n m x y ends sized
            one other);
        cause = across_cause r q (g.faults a) (g.faults next) (h.faults b) (h.faults after)
            cause cause_too;
        taken = raised (g.taken a) (g.taken next) (h.taken b) (h.taken after) n m (length old)
            sums taken taken_too;
      })
    where
      long : OnOk (both_answers r q) (IfSome (bytes_of_pair (g.holds a) (h.holds b))
          (λ bytes. x ++ y ≡ take (n + m) (drop at bytes)))
          → OnOk (both_answers r q) (IfSome (bytes_of_pair (g.holds a) (h.holds b))
          (λ bytes. x ++ y ≡ take (length old) (drop at bytes)))
      long made = subst (λ (k : ℕ). OnOk (both_answers r q)
          (IfSome (bytes_of_pair (g.holds a) (h.holds b))
          (λ bytes. x ++ y ≡ take k (drop at bytes)))) sums made

-- ---- What a read leaves of the pair

module _ {S T : Type 0} (g : Ghosts S) (h : Ghosts T) (a next : S) (b after : T)
    (one : Leaves g a next) (other : Leaves h b after) where
  pub size_stays : g.size next + h.size after ≡ g.size a + h.size b
  size_stays = let x = one.same_len in let y = other.same_len in omega (arith, x, y)

  pub bytes_stay : bytes_of_pair (g.holds next) (h.holds after)
      ≡ bytes_of_pair (g.holds a) (h.holds b)
  bytes_stay =
      ap (λ (x : Option (List ℕ)). bytes_of_pair x (h.holds after)) one.same_bytes
      ∙ ap (λ (x : Option (List ℕ)). bytes_of_pair (g.holds a) x) other.same_bytes

  pub rest_stays : rest_of_pair (g.size next) (h.size after) (g.holds next) (h.holds after)
      (g.rest next) (h.rest after)
      ≡ rest_of_pair (g.size a) (h.size b) (g.holds a) (h.holds b) (g.rest a) (h.rest b)
  rest_stays =
      rw (
        one.same_len,
        one.same_bytes,
        one.same_rest,
        other.same_len,
        other.same_bytes,
        other.same_rest,
      ) refl
