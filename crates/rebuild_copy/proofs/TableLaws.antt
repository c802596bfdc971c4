-- Bytes of the table of the names that are copied from a place on.
use Rattle.std.proofs.Common.{◌≡◌, ◌⊎◌, inl, inr, ◌+◌, ◌-◌, ◌<◌, ◌≤◌, ◌^◌, ℕ, Bool, true, false, List, [], length, take, drop, Option, Some, None, if◌then◌else◌, refl, sym, ap, ◌∙◌, arith}
use Rattle.std.specs.Prelude.{min, nat_lt, is_some, IfSome}
use Rattle.std.proofs.lemmas.Bool.{cases_lt}
use Rattle.std.proofs.lemmas.List.{length-take, length-drop, drop_all, drop-drop, drop-take, take_all, take-take}
use Rattle.rebuild_edits.specs.gelf_view.Records.{string_front, shorter_than}
use Rattle.rebuild_edits.proofs.gelf_view.EndedStrings.{front_short}

-- ---- So many of them and one more, or those that are there

cut_both : (m n count : ℕ) (l : List ℕ) → n ≡ min (count + 1) m
    → take n l ≡ take (count + 1) (take m l)
cut_both m n count l n_is = by_count (cases_lt count m)
  where
    by_count : (count < m) ⊎ (m ≤ count) → take n l ≡ take (count + 1) (take m l)
    by_count (inl less) =
        let is : n ≡ count + 1 = omega (arith, n_is, less) in
        ap (λ (k : ℕ). take k l) is ∙ sym (take-take (count + 1) m l (omega (arith, less)))
    by_count (inr more) =
        let is : n ≡ m = omega (arith, n_is, more) in
        let cut = length-take m l in
        ap (λ (k : ℕ). take k l) is
        ∙ sym (take_all (count + 1) (take m l) (omega (arith, cut, more)))

start_same : (held : List ℕ) (place start : ℕ) → length held < 2 ^ 64
    → start ≡ min place (2 ^ 64 - 1) → drop start held ≡ drop place held
start_same held place start small start_is = by_place (cases_lt place (2 ^ 64))
  where
    by_place : (place < 2 ^ 64) ⊎ (2 ^ 64 ≤ place) → drop start held ≡ drop place held
    by_place (inl fits) =
        let is : start ≡ place = omega (arith, start_is, fits) in
        ap (λ (k : ℕ). drop k held) is
    by_place (inr past) =
        drop_all start held (omega (arith, start_is, past, small))
        ∙ sym (drop_all place held (omega (arith, past, small)))

pub front_copied : (held : List ℕ) (at len place count start n : ℕ) → length held < 2 ^ 64
    → start ≡ min (at + place) (2 ^ 64 - 1) → n ≡ min (count + 1) (len - place)
    → take n (drop start held) ≡ take (count + 1) (drop place (take len (drop at held)))
front_copied held at len place count start n small start_is n_is =
    by_place (cases_lt len place)
  where
    behind : place ≤ len
        → drop place (take len (drop at held)) ≡ take (len - place) (drop start held)
    behind within =
        let rest : len ≡ place + (len - place) = omega (arith, within) in
        ap (λ (k : ℕ). drop place (take k (drop at held))) rest
        ∙ drop-take place (len - place) (drop at held)
        ∙ ap (take (len - place))
        (drop-drop place at held ∙ sym (start_same held (at + place) start small start_is))

    by_place : (len < place) ⊎ (place ≤ len)
        → take n (drop start held) ≡ take (count + 1) (drop place (take len (drop at held)))
    by_place (inl short) =
        let none : n ≡ 0 = omega (arith, n_is, short) in
        let cut = length-take len (drop at held) in
        let empty : ◌≡◌ {A = List ℕ} (drop place (take len (drop at held))) [] =
        drop_all place (take len (drop at held)) (omega (arith, cut, short)) in
        let still : ◌≡◌ {A = List ℕ} (take (count + 1) []) [] =
        take_all (count + 1) [] (omega arith) in
        ap (λ (k : ℕ). take k (drop start held)) none
        ∙ sym (ap (take (count + 1)) empty ∙ still)
    by_place (inr within) =
        cut_both (len - place) n count (drop start held) n_is
        ∙ sym (ap (take (count + 1)) (behind within))

pub all_copied : (held : List ℕ) (at len place : ℕ)
    → take (len + 1) (drop place (take len (drop at held)))
    ≡ drop place (take len (drop at held))
all_copied held at len place =
    let cut = length-take len (drop at held) in
    let rest = length-drop place (take len (drop at held)) in
    take_all (len + 1) (drop place (take len (drop at held))) (omega (arith, cut, rest))

-- ---- A string that a NUL ends

short_is : (n : ℕ) (found : Option (List ℕ)) → is_some (shorter_than n found) ≡ true
    → shorter_than n found ≡ found
short_is n None some = refl
short_is n (Some string) some = by_length (nat_lt (length string) n) some
  where
    by_length : (b : Bool) → is_some (if b then Some string else None) ≡ true
        → (if b then Some string else None) ≡ Some string
    by_length true is = refl
    by_length false is = let no : false ≡ true = is in cc

ended_short : (n : ℕ) (bytes l : List ℕ) → bytes ≡ take n l
    → is_some (string_front bytes) ≡ true → string_front bytes ≡ string_front l
ended_short n bytes l is ended =
    let short : string_front bytes ≡ shorter_than n (string_front l) =
    ap string_front is ∙ front_short n l in
    short
    ∙ short_is n (string_front l)
    (sym (ap (λ (found : Option (List ℕ)). is_some found) short) ∙ ended)

pub ended_found : (found : Option (List ℕ)) (n : ℕ) (bytes l : List ℕ) → bytes ≡ take n l
    → IfSome found (λ same. (same ≡ bytes) × (is_some (string_front bytes) ≡ true))
    → IfSome found (λ same. string_front same ≡ string_front l)
ended_found None n bytes l is ended = tt
ended_found (Some same) n bytes l is ended =
    ap string_front ended.0 ∙ ended_short n bytes l is ended.1
