-- So many copies of a byte before what is written behind them.
use Rattle.std.proofs.Common.{◌≡◌, ◌⊎◌, inl, inr, ◌-◌, ◌<◌, ◌≤◌, ◌+◌, ◌++◌, ℕ, List, length, take, drop, min, sym, ap, ◌∙◌, arith}
use Rattle.std.proofs.Math.ListN.{replicate, length-replicate}
use Rattle.std.proofs.lemmas.Bool.{cases_lt}
use Rattle.std.proofs.lemmas.List.{take-replicate, drop-replicate, length-drop, drop-append-le, take-append-drop, take_all}

-- what is written at the end of copies of a byte, right in so many places
pub filled : (byte width start : ℕ) (old new text : List ℕ) → width ≤ 16 → start ≤ 43
    → old ≡ replicate 43 byte → length new ≡ 43 → take start new ≡ take start old
    → drop start new ≡ text
    → drop (min start (43 - width)) new ≡ replicate (width - length text) byte ++ text
filled byte width start old new text narrow inside are len front behind =
    by_place (cases_lt (43 - width) start)
  where
    room : length text ≡ 43 - start
    room = sym (ap (λ (l : List ℕ). length l) behind) ∙ length-drop start new
        ∙ ap (λ (n : ℕ). n - start) len

    copied : take start new ≡ replicate start byte
    copied = front ∙ ap (take start) are ∙ take-replicate start 43 byte inside

    whole : new ≡ replicate start byte ++ text
    whole = sym (take-append-drop start new) ∙ ap (λ (l : List ℕ). l ++ drop start new) copied
        ∙ ap (λ (l : List ℕ). replicate start byte ++ l) behind

    by_place : (43 - width < start) ⊎ (start ≤ 43 - width)
        → drop (min start (43 - width)) new ≡ replicate (width - length text) byte ++ text
    by_place (inr le) =
        let least : min start (43 - width) ≡ start = omega (arith, le) in
        let none : width - length text ≡ 0 = omega (arith, room, le, narrow, inside) in
        ap (λ (n : ℕ). drop n new) least ∙ behind
        ∙ sym (ap (λ (n : ℕ). replicate n byte ++ text) none)
    by_place (inl lt) =
        let n = 43 - width in
        let least : min start n ≡ n = omega (arith, lt) in
        let more : start - n ≡ width - length text = omega (arith, room, lt, narrow, inside) in
        let within : n ≤ length (replicate start byte) =
        omega (arith, lt, length-replicate start byte) in
        ap (λ (m : ℕ). drop m new) least ∙ ap (drop n) whole
        ∙ drop-append-le n (replicate start byte) text within
        ∙ ap (λ (l : List ℕ). l ++ text) (drop-replicate n start byte)
        ∙ ap (λ (m : ℕ). replicate m byte ++ text) more

-- the same in the first 43 of more copies, with bytes in place of the others
pub filled_before : (byte width start more : ℕ) (old head new text rest behind : List ℕ)
    → width ≤ 16 → start ≤ 43 → old ≡ replicate (43 + more) byte → head ≡ take 43 old
    → length new ≡ 43 → take start new ≡ take start head → drop start new ≡ text → rest ≡ behind
    → drop (min start (43 - width)) (new ++ rest)
    ≡ (replicate (width - length text) byte ++ text) ++ behind
filled_before byte width start more old head new text rest behind narrow inside are is_head len
    front is is_rest =
    let n = min start (43 - width) in
    let within : n ≤ length new = omega (arith, len, inside) in
    let some : 43 ≤ 43 + more = omega arith in
    let copied : head ≡ replicate 43 byte =
    is_head ∙ ap (take 43) are ∙ take-replicate 43 (43 + more) byte some in
    drop-append-le n new rest within
    ∙ ap (λ (l : List ℕ). l ++ rest)
    (filled byte width start head new text narrow inside copied len front is)
    ∙ ap (λ (l : List ℕ). (replicate (width - length text) byte ++ text) ++ l) is_rest

-- the bytes of a buffer from a place on
pub tail_is : (m : ℕ) (bytes : List ℕ) → take (length bytes - m) (drop m bytes) ≡ drop m bytes
tail_is m bytes =
    take_all (length bytes - m) (drop m bytes) (omega (arith, length-drop m bytes))
