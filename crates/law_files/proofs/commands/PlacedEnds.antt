-- Where parts with bytes in the file end, one after the other, and that nothing is refused while
-- that is below the limit.
use Rattle.std.proofs.Common.{◌≡◌, ℕ, zero, suc, ◌+◌, ◌<◌, ◌≤◌, max, Bool, true, false, cond, List, [], ◌∷◌, ◌++◌, length, All, None, refl, ap, ◌∙◌, arith}
use Rattle.std.specs.Prelude.{map, nat_lt, ◌&&◌}
use Rattle.std.specs.List.{range_with_len, sum_by}
use Rattle.std.proofs.lemmas.Bool.{le-ltb, or_from}
use Rattle.std.proofs.lemmas.List.Elements.{All-nil, All-cons, All-append, All-head, All-tail}
use Rattle.std.proofs.lemmas.List.Sums.{sum_by-cons}
use Rattle.elf_layout.specs.declared.parts.PartAt.{PartAt}
use Rattle.elf_layout.specs.Layout.{rounded_up, place_of, end_after, in_order_from, standing, length_with, length_from, length_of, some_above, is_too_large, overlap_refusal, refusal_within, places_of}
use Rattle.elf_layout.specs.Meeting.{has_bytes, end_of}

-- ---- The end

place_of-ge : (end : ℕ) (p : PartAt) → end ≤ place_of end p
unfolding place_of rounded_up
place_of-ge end p = omega arith

end_after-ge : (end : ℕ) (p : PartAt) → end ≤ end_after end p
unfolding end_after
end_after-ge end p = by (p.filled)
  where
    by : (b : Bool) → end ≤ cond b (place_of end p + p.len) end
    by true = omega (arith, place_of-ge end p)
    by false = omega arith

abbrev pub end_through : ℕ → List PartAt → ℕ
end_through end [] = end
end_through end (p ∷ ps) = end_through (end_after end p) ps

pub end_through-append : (end : ℕ) (ps qs : List PartAt) → end_through end (ps ++ qs) ≡ end_through (end_through end ps) qs
unfolding end_through
end_through-append end [] qs = refl
end_through-append end (p ∷ ps) qs = end_through-append (end_after end p) ps qs

end_through-ge : (end : ℕ) (ps : List PartAt) → end ≤ end_through end ps
unfolding end_through
end_through-ge end [] = omega arith
end_through-ge end (p ∷ ps) = omega (arith, end_after-ge end p, end_through-ge (end_after end p) ps)

-- a part in the file
pub end_filled : (end : ℕ) (p : PartAt) → p.filled ≡ true → end_after end p ≡ place_of end p + p.len
unfolding end_after
end_filled end p filled = rw filled refl

-- without an alignment a part stands where the one before ends
pub place_unaligned : (end : ℕ) → rounded_up end 1 ≡ end
unfolding rounded_up
place_unaligned end = omega arith

pub end_unaligned : (end : ℕ) (p : PartAt) → p.filled ≡ true → p.align ≡ 1 → end_after end p ≡ end + p.len
unfolding place_of
end_unaligned end p filled one =
    end_filled end p filled ∙ ap (λ (n : ℕ). n + p.len) (ap (rounded_up end) one ∙ place_unaligned end)

pub end_aligned : (end align : ℕ) (p : PartAt) → p.filled ≡ true → p.align ≡ align → end_after end p ≡ rounded_up end align + p.len
unfolding place_of
end_aligned end align p filled same = end_filled end p filled ∙ ap (λ (n : ℕ). rounded_up end n + p.len) same

-- numbered parts without alignments
pub end_numbered : (part : ℕ → PartAt) (len : ℕ → ℕ) (end a n : ℕ) → ((i : ℕ) → a ≤ i → i < a + n → (part i).filled ≡ true) → ((i : ℕ) → a ≤ i → i < a + n → (part i).align ≡ 1)
    → ((i : ℕ) → a ≤ i → i < a + n → (part i).len ≡ len i) → end_through end (map part (range_with_len a n)) ≡ end + sum_by len (map (λ i. i) (range_with_len a n))
unfolding end_through
end_numbered part len end a zero filled one is = omega arith
end_numbered part len end a (suc n) filled one is =
    let here = end_unaligned end (part a) (filled a (omega arith) (omega arith)) (one a (omega arith) (omega arith)) in
    let size = is a (omega arith) (omega arith) in
    let rest = end_numbered part len (end_after end (part a)) (a + 1) n
    (λ i from below. filled i (omega arith) (omega arith))
    (λ i from below. one i (omega arith) (omega arith))
    (λ i from below. is i (omega arith) (omega arith)) in
    let left : end_through end (map part (range_with_len a (suc n))) ≡ end_through (end_after end (part a)) (map part (range_with_len (a + 1) n)) = refl in
    let right = sum_by-cons len a (map (λ i. i) (range_with_len (a + 1) n)) in
    omega (arith, left, right, rest)

-- ---- The length

length_through : ℕ → ℕ → List PartAt → ℕ
length_through length end [] = length
length_through length end (p ∷ ps) = length_through (cond (has_bytes p) (end_after end p) length) (end_after end p) ps

length_to_last : (length end : ℕ) (ps : List PartAt) (p : PartAt) → has_bytes p ≡ true → length_through length end (ps ++ p ∷ []) ≡ end_through end (ps ++ p ∷ [])
unfolding length_through end_through
length_to_last length end [] p some = rw some refl
length_to_last length end (q ∷ ps) p some = length_to_last (cond (has_bytes q) (end_after end q) length) (end_after end q) ps p some

-- the length with a part that is placed
length_with_placed : (length end : ℕ) (p : PartAt) → p.filled ≡ true → length ≤ end → length_with length (record p { at = place_of end p }) ≡ cond (has_bytes p) (end_after end p) length
unfolding length_with has_bytes end_of
length_with_placed length end p filled below =
    let here = end_filled end p filled in
    let grows = end_after-ge end p in
    let longer : max length (place_of end p + p.len) ≡ end_after end p = omega arith in
    ap (λ (n : ℕ). cond (p.filled && nat_lt 0 p.len) n length) longer

below_next : (b : Bool) (length end next : ℕ) → length ≤ end → end ≤ next → cond b next length ≤ next
below_next true length end next a b = omega arith
below_next false length end next a b = omega arith

length_placed : (length end : ℕ) (ps : List PartAt) → All (λ p. p.filled ≡ true) ps → length ≤ end → length_from length (in_order_from end ps) ≡ length_through length end ps
unfolding length_from in_order_from length_through
length_placed length end [] filled below = refl
length_placed length end (p ∷ ps) filled below =
    let here = All-head (λ p. p.filled ≡ true) p ps filled in
    ap (λ (n : ℕ). length_from n (in_order_from (end_after end p) ps)) (length_with_placed length end p here below)
    ∙ length_placed (cond (has_bytes p) (end_after end p) length) (end_after end p) ps (All-tail (λ p. p.filled ≡ true) p ps filled)
    (below_next (has_bytes p) length end (end_after end p) below (end_after-ge end p))

none_above : (limit end : ℕ) (ps : List PartAt) → All (λ p. p.filled ≡ true) ps → end_through end ps ≤ limit → some_above limit (in_order_from end ps) ≡ false
unfolding some_above in_order_from end_through
none_above limit end [] filled fits = refl
none_above limit end (p ∷ ps) filled fits =
    let here = end_filled end p (All-head (λ p. p.filled ≡ true) p ps filled) in
    let grows = end_through-ge (end_after end p) ps in
    or_from _ _ (le-ltb limit (place_of end p) (omega arith)) (none_above limit (end_after end p) ps (All-tail (λ p. p.filled ≡ true) p ps filled) fits)

-- no refusal, and the image ends with the last part
pub record EndsWith (parts : List PartAt) (base limit : ℕ) : Type 0 where
  pub passes : refusal_within parts false base limit ≡ None
  pub end : (places_of parts false base).end ≡ end_through 0 parts

pub ends_with : (ps : List PartAt) (p : PartAt) (base limit : ℕ) → All (λ q. q.filled ≡ true) (ps ++ p ∷ []) → has_bytes p ≡ true → end_through 0 (ps ++ p ∷ []) ≤ limit
    → EndsWith (ps ++ p ∷ []) base limit
unfolding refusal_within overlap_refusal is_too_large places_of length_of standing
ends_with ps p base limit filled some fits =
    let parts = ps ++ p ∷ [] in
    let length : length_from 0 (in_order_from 0 parts) ≡ end_through 0 parts = length_placed 0 0 parts filled (omega arith) ∙ length_to_last 0 0 ps p some in
    let short : nat_lt limit (length_from 0 (in_order_from 0 parts)) ≡ false = le-ltb limit (length_from 0 (in_order_from 0 parts)) (omega arith) in
    let placed = none_above limit 0 parts filled fits in
    record { passes = rw (short, placed) refl; end = length }

-- ---- Parts as a file has them: two, numbered ones without alignment, three, and the table

pub record IsPart (p : PartAt) (align len : ℕ) : Type 0 where
  pub filled : p.filled ≡ true
  pub align_is : p.align ≡ align
  pub len_is : p.len ≡ len

end_part : (end align len : ℕ) (p : PartAt) → IsPart p align len → end_after end p ≡ rounded_up end align + len
end_part end align len p is = end_aligned end align p is.filled is.align_is ∙ ap (λ (k : ℕ). rounded_up end align + k) is.len_is

end_loose : (end len : ℕ) (p : PartAt) → IsPart p 1 len → end_after end p ≡ end + len
end_loose end len p is = end_part end 1 len p is ∙ ap (λ (k : ℕ). k + len) (place_unaligned end)

module _ (part : ℕ → PartAt) (len : ℕ → ℕ) (n : ℕ) (each : (i : ℕ) → 1 ≤ i → i ≤ n → IsPart (part i) 1 (len i)) where
  abbrev pub parts_with : PartAt → PartAt → PartAt → PartAt → PartAt → List PartAt
  parts_with first second x y z = first ∷ second ∷ map part (range_with_len 1 n) ++ x ∷ y ∷ z ∷ []

  numbered_filled : (a m : ℕ) → 1 ≤ a → a + m ≤ n + 1 → All (λ p. p.filled ≡ true) (map part (range_with_len a m))
  numbered_filled a zero from upto = All-nil (λ p. p.filled ≡ true)
  numbered_filled a (suc m) from upto =
      All-cons (λ p. p.filled ≡ true) (part a) (map part (range_with_len (a + 1) m)) (each a from (omega arith)).filled
      (numbered_filled (a + 1) m (omega arith) (omega arith))

  pub all_filled : (first second x y z t : PartAt) → first.filled ≡ true → second.filled ≡ true → x.filled ≡ true → y.filled ≡ true → z.filled ≡ true → t.filled ≡ true
      → All (λ p. p.filled ≡ true) (parts_with first second x y z ++ t ∷ [])
  all_filled first second x y z t a b c d e f =
      let three = All-cons (λ p. p.filled ≡ true) x (y ∷ z ∷ []) c (All-cons (λ p. p.filled ≡ true) y (z ∷ []) d (All-cons (λ p. p.filled ≡ true) z [] e (All-nil (λ p. p.filled ≡ true)))) in
      let body = All-append (λ p. p.filled ≡ true) (map part (range_with_len 1 n)) (x ∷ y ∷ z ∷ []) (numbered_filled 1 n (omega arith) (omega arith)) three in
      let front = All-cons (λ p. p.filled ≡ true) first (second ∷ map part (range_with_len 1 n) ++ x ∷ y ∷ z ∷ []) a
      (All-cons (λ p. p.filled ≡ true) second (map part (range_with_len 1 n) ++ x ∷ y ∷ z ∷ []) b body) in
      All-append (λ p. p.filled ≡ true) (parts_with first second x y z) (t ∷ []) front (All-cons (λ p. p.filled ≡ true) t [] f (All-nil (λ p. p.filled ≡ true)))

  pub end_is : (first second x y z t : PartAt) (a b c d e f total align table : ℕ) → IsPart first 1 a → IsPart second 1 b → IsPart x align c → IsPart y 1 d → IsPart z 1 e → IsPart t table f
      → sum_by len (map (λ i. i) (range_with_len 1 n)) ≡ total
      → end_through 0 (parts_with first second x y z ++ t ∷ []) ≡ rounded_up (rounded_up (a + b + total) align + c + d + e) table + f
  unfolding end_through
  end_is first second x y z t a b c d e f total align table fa fb fc fd fe ff sum =
      let one = end_loose 0 a first fa in
      let two = end_loose (end_after 0 first) b second fb in
      let start : end_after (end_after 0 first) second ≡ a + b = omega arith in
      let numbered = end_numbered part len (end_after (end_after 0 first) second) 1 n
      (λ i from below. (each i from (omega arith)).filled)
      (λ i from below. (each i from (omega arith)).align_is)
      (λ i from below. (each i from (omega arith)).len_is) in
      let after : end_through (end_after (end_after 0 first) second) (map part (range_with_len 1 n)) ≡ a + b + total = omega (arith, numbered, start, sum) in
      end_through-append 0 (parts_with first second x y z) (t ∷ [])
      ∙ ap (λ (k : ℕ). end_after k t) (end_through-append (end_after (end_after 0 first) second) (map part (range_with_len 1 n)) (x ∷ y ∷ z ∷ [])
      ∙ ap (λ (k : ℕ). end_after (end_after (end_after k x) y) z) after
      ∙ ap (λ (k : ℕ). end_after (end_after k y) z) (end_part (a + b + total) align c x fc)
      ∙ ap (λ (k : ℕ). end_after k z) (end_loose (rounded_up (a + b + total) align + c) d y fd)
      ∙ end_loose (rounded_up (a + b + total) align + c + d) e z fe)
      ∙ end_part (rounded_up (a + b + total) align + c + d + e) table f t ff
