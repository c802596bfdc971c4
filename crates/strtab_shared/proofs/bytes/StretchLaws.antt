-- Stretches that stand one behind the other.
use Rattle.std.proofs.Common.{◌≡◌, ◌+◌, ◌-◌, ◌<◌, ◌≤◌, ℕ, zero, suc, List, [], ◌∷◌, ◌++◌, length, get_or, take, drop, refl, sym, ap, ◌∙◌, subst, arith, append-nil, length-append}
use Rattle.std.specs.List.{flat_map}
use Rattle.std.proofs.lemmas.List.{length-take, length-drop, take-append-le, drop-append-le, drop-drop, drop_at, drop-take}
use Rattle.std.proofs.lemmas.List.Concat.{flat_map-append}
use Rattle.strtab_shared.specs.declared.bytes.stretches.Stretch.{Stretch}
use Rattle.strtab_shared.specs.Bytes.Stretches.{stretch_bytes, stretched, StandFrom}
use Rattle.strtab_shared.specs.Bytes.Pieces.{IsPieceAt}

-- ---- Their bytes

pub stretch_long : (text : List ℕ) (s : Stretch) → s.at + s.len ≤ length text
    → length (stretch_bytes text s) ≡ s.len
stretch_long text s lies =
    let cut = length-take s.len (drop s.at text) in
    let rest = length-drop s.at text in
    omega (arith, cut, rest, lies)

-- more text changes nothing
stretch_same : (text more : List ℕ) (s : Stretch) → s.at + s.len ≤ length text
    → stretch_bytes (text ++ more) s ≡ stretch_bytes text s
stretch_same text more s lies =
    let rest = length-drop s.at text in
    ap (take s.len) (drop-append-le s.at text more (omega (arith, lies)))
    ∙ take-append-le s.len (drop s.at text) more (omega (arith, lies, rest))

pub stretched_same : (text more : List ℕ) (from : ℕ) (l : List Stretch) → StandFrom text from l
    → stretched (text ++ more) l ≡ stretched text l
unfolding stretched
stretched_same text more from [] stand = refl
stretched_same text more from (s ∷ l) stand =
    λ j. stretch_same text more s stand.0 j ++ stretched_same text more s.end l stand.2 j

pub stand_same : (text more : List ℕ) (from : ℕ) (l : List Stretch) → StandFrom text from l
    → StandFrom (text ++ more) from l
stand_same text more from [] stand = tt
stand_same text more from (s ∷ l) stand =
    let long = length-append text more in
    let lies = stand.0 in
    (omega (arith, lies, long), stand.1, stand_same text more s.end l stand.2)

-- one more
pub stretched_push : (text : List ℕ) (l : List Stretch) (s : Stretch)
    → stretched text (l ++ s ∷ []) ≡ stretched text l ++ stretch_bytes text s
unfolding stretched
stretched_push text l s =
    flat_map-append (stretch_bytes text) l (s ∷ [])
    ∙ ap (λ (b : List ℕ). flat_map (stretch_bytes text) l ++ b)
    (append-nil (stretch_bytes text s))

pub stand_push : (text : List ℕ) (from : ℕ) (l : List Stretch) (s : Stretch)
    → StandFrom text from l → s.at + s.len ≤ length text
    → s.end ≡ from + length (stretched text l) + s.len → StandFrom text from (l ++ s ∷ [])
unfolding stretched
stand_push text from [] s stand lies ends = (lies, omega (arith, ends), tt)
stand_push text from (t ∷ l) s stand lies ends =
    let all = length-append (stretch_bytes text t) (stretched text l) in
    let first = stretch_long text t stand.0 in
    let after = stand.1 in (
      stand.0,
      stand.1,
      stand_push text t.end l s stand.2 lies (omega (arith, ends, all, first, after)),
    )

-- none
pub stretched_none : (text : List ℕ) → stretched text [] ≡ []
unfolding stretched
stretched_none text = refl

-- ---- Their ends

at_least : (text : List ℕ) (from : ℕ) (l : List Stretch) (j : ℕ) (d : Stretch)
    → StandFrom text from l → j < length l → from ≤ (get_or l j d).end
at_least text from [] j d stand below = absurd (omega (arith, below))
at_least text from (s ∷ l) zero d stand below =
    let ends = stand.1 in omega (arith, ends)
at_least text from (s ∷ l) (suc j) d stand below =
    let rest = at_least text s.end l j d stand.2 (omega (arith, below)) in
    let ends = stand.1 in
    omega (arith, rest, ends)

pub rising : (text : List ℕ) (from : ℕ) (l : List Stretch) → StandFrom text from l
    → (i j : ℕ) (d : Stretch) → i ≤ j → j < length l → (get_or l i d).end ≤ (get_or l j d).end
rising text from [] stand i j d order below = absurd (omega (arith, below))
rising text from (s ∷ l) stand zero zero d order below = omega arith
rising text from (s ∷ l) stand zero (suc j) d order below =
    at_least text s.end l j d stand.2 (omega (arith, below))
rising text from (s ∷ l) stand (suc i) zero d order below = absurd (omega (arith, order))
rising text from (s ∷ l) stand (suc i) (suc j) d order below =
    rising text s.end l stand.2 i j d (omega (arith, order)) (omega (arith, below))

-- each lies in the text
pub lies_at : (text : List ℕ) (from : ℕ) (l : List Stretch) (i : ℕ) (d : Stretch)
    → StandFrom text from l → i < length l
    → (get_or l i d).at + (get_or l i d).len ≤ length text
lies_at text from [] i d stand below = absurd (omega (arith, below))
lies_at text from (s ∷ l) zero d stand below = stand.0
lies_at text from (s ∷ l) (suc i) d stand below =
    lies_at text s.end l i d stand.2 (omega (arith, below))

-- ---- The one in which a place lies

pub record IsFoundIn (text : List ℕ) (from at : ℕ) (l : List Stretch) (i : ℕ) (s : Stretch)
    : Type 0 where
  pub there : i < length l
  pub lies : s.at + s.len ≤ length text
  pub begun : s.end ≤ at + s.len
  pub ends : at < s.end
  pub rest : List ℕ
  pub is : drop (at - from) (stretched text l)
      ≡ drop (at + s.len - s.end) (stretch_bytes text s) ++ rest

pub drop_past : (a b : List ℕ) (k : ℕ) → drop (length a + k) (a ++ b) ≡ drop k b
drop_past a b k =
    sym (drop-drop k (length a) (a ++ b)) ∙ ap (drop k) (drop_at a b (length a) refl)

pub found_in : (text : List ℕ) (from at : ℕ) (l : List Stretch) (i : ℕ) (d : Stretch)
    → StandFrom text from l → from ≤ at → at < from + length (stretched text l)
    → ((k : ℕ) → k < i → (get_or l k d).end ≤ at)
    → ((k : ℕ) → i ≤ k → k < length l → at < (get_or l k d).end)
    → IsFoundIn text from at l i (get_or l i d)
unfolding stretched
found_in text from at [] i d stand first last before behind = absurd (omega (arith, first, last))
found_in text from at (s ∷ l) zero d stand first last before behind =
    let below : at < s.end = behind 0 (omega arith) (omega arith) in
    let long = stretch_long text s stand.0 in
    let ends = stand.1 in
    let place : at - from ≡ at + s.len - s.end = omega (arith, ends, first) in
    record {
      there = omega arith;
      lies = stand.0;
      begun = omega (arith, ends, first);
      ends = below;
      rest = stretched text l;
      is = drop-append-le (at - from) (stretch_bytes text s) (stretched text l)
          (omega (arith, long, ends, below))
          ∙ ap (λ (n : ℕ). drop n (stretch_bytes text s) ++ stretched text l) place;
    }
found_in text from at (s ∷ l) (suc i) d stand first last before behind =
    let past : s.end ≤ at = before 0 (omega arith) in
    let long = stretch_long text s stand.0 in
    let ends = stand.1 in
    let all = length-append (stretch_bytes text s) (stretched text l) in
    let found = found_in text s.end at l i d stand.2 past (omega (arith, last, all, long, ends))
    (λ k below. before (suc k) (omega (arith, below)))
    (λ k from below. behind (suc k) (omega (arith, from)) (omega (arith, below))) in
    let place : at - from ≡ length (stretch_bytes text s) + (at - s.end) =
    omega (arith, long, ends, past) in
    let there = found.there in
    record {
      there = omega (arith, there);
      lies = found.lies;
      begun = found.begun;
      ends = found.ends;
      rest = found.rest;
      is = ap (λ (n : ℕ). drop n (stretch_bytes text s ++ stretched text l)) place
          ∙ drop_past (stretch_bytes text s) (stretched text l) (at - s.end)
          ∙ found.is;
    }

-- what is left of it
pub rest_is : (text : List ℕ) (s : Stretch) (at : ℕ) → s.end ≤ at + s.len → at < s.end
    → take (s.at + s.len - (s.at + s.len - (s.end - at)))
    (drop (s.at + s.len - (s.end - at)) text)
    ≡ drop (at + s.len - s.end) (stretch_bytes text s)
rest_is text s at begun ends =
    let first : s.at + s.len - (s.end - at) ≡ s.at + (at + s.len - s.end) =
    omega (arith, begun, ends) in
    let left : s.at + s.len - (s.at + s.len - (s.end - at)) ≡ s.end - at =
    omega (arith, begun, ends) in
    let all : at + s.len - s.end + (s.end - at) ≡ s.len = omega (arith, begun, ends) in
    (λ j. take (left j) (drop (first j) text))
    ∙ ap (take (s.end - at)) (sym (drop-drop (at + s.len - s.end) s.at text))
    ∙ sym (drop-take (at + s.len - s.end) (s.end - at) (drop s.at text))
    ∙ ap (λ (n : ℕ). drop (at + s.len - s.end) (take n (drop s.at text))) all

pub piece_found : (text : List ℕ) (l : List Stretch) (at i : ℕ) (s : Stretch) (piece : List ℕ)
    → IsFoundIn text 0 at l i s → piece ≡ drop (at + s.len - s.end) (stretch_bytes text s)
    → IsPieceAt at (stretched text l) piece
piece_found text l at i s piece found is =
    let cut = length-drop (at + s.len - s.end) (stretch_bytes text s) in
    let long = stretch_long text s found.lies in
    let begun = found.begun in
    let ends = found.ends in
    let some : 0 < length (drop (at + s.len - s.end) (stretch_bytes text s)) =
    omega (arith, cut, long, begun, ends) in
    let place : at ≡ at - 0 = omega arith in
    record {
      some = subst (λ (b : List ℕ). 0 < length b) (sym is) some;
      rest = found.rest;
      is = ap (λ (n : ℕ). drop n (stretched text l)) place ∙ found.is
          ∙ ap (λ (b : List ℕ). b ++ found.rest) (sym is);
    }
