-- Texts that are written from their end into a buffer, one before the other.
use Rattle.std.proofs.Common.{◌≡◌, ◌+◌, ◌-◌, ◌≤◌, ◌++◌, ℕ, List, length, take, drop, sym, ap, ◌∙◌, subst, arith, append_assoc, length-append, length-drop}
use borrow.Rule.Slice.PartMut.{put_mid}
use Rattle.std.proofs.lemmas.List.{drop_at, drop-drop, drop-append-le, length-take-le}
use Rattle.readelf_rows.specs.Fronts.{Precedes}

-- ---- One text

pub over_precedes : (old new bytes : List ℕ) (end at : ℕ) → at + length bytes ≡ end → end ≤ length old
    → new ≡ (take at old ++ bytes) ++ drop (at + length bytes) old → Precedes old new end at bytes
over_precedes old new bytes end at place inside is =
    let first = length-take-le at old (omega (arith, place, inside)) in
    let whole = length-append (take at old ++ bytes) (drop (at + length bytes) old) in
    let front = length-append (take at old) bytes in
    let rest = length-drop (at + length bytes) old in
    let all = ap length is in record {
      place = place;
      long = omega (arith, first, whole, front, rest, all, place, inside);
      stands = ap (drop at) (is ∙ append_assoc (take at old) bytes (drop (at + length bytes) old))
          ∙ drop_at (take at old) (bytes ++ drop (at + length bytes) old) at first
          ∙ ap (λ (n : ℕ). bytes ++ drop n old) place;
    }

-- by bytes that are the text
pub text_precedes : (old new bytes text : List ℕ) (end at : ℕ) → bytes ≡ text → at + length text ≡ end → end ≤ length old
    → new ≡ (take at old ++ bytes) ++ drop (at + length bytes) old → Precedes old new end at text
text_precedes old new bytes text end at same place inside is =
    over_precedes old new text end at place inside
    (is ∙ ap (λ (b : List ℕ). (take at old ++ b) ++ drop (at + length b) old) same)

-- by a window of the buffer that it ends
pub window_precedes : (old window text : List ℕ) (from end start : ℕ) → from + 16 ≡ end → end ≤ length old → length window ≡ 16 → start ≤ 16
    → drop start window ≡ text → Precedes old (put_mid from (end - from) old window) end (from + start) text
window_precedes old window text from end start room inside len low is =
    let behind = drop (end - from) (drop from old) in
    let first = length-take-le from old (omega (arith, room, inside)) in
    let digits = length-drop start window in
    let same = ap length is in
    let whole = length-append (take from old) (window ++ behind) in
    let second = length-append window behind in
    let third = length-drop (end - from) (drop from old) in
    let fourth = length-drop from old in
    let up : from + (end - from) ≡ end = omega (arith, room) in record {
      place = omega (arith, room, len, low, digits, same);
      long = omega (arith, room, inside, len, first, whole, second, third, fourth);
      stands = sym (drop-drop start from (take from old ++ (window ++ behind)))
          ∙ ap (drop start) (drop_at (take from old) (window ++ behind) from first)
          ∙ drop-append-le start window behind (omega (arith, len, low))
          ∙ ap (λ (l : List ℕ). l ++ behind) is
          ∙ ap (λ (l : List ℕ). text ++ l) (drop-drop (end - from) from old ∙ ap (λ (n : ℕ). drop n old) up);
    }

-- ---- One before the other

pub precedes_then : {a b c : List ℕ} {end mid at : ℕ} {x y : List ℕ} → Precedes a b end mid y → Precedes b c mid at x
    → Precedes a c end at (x ++ y)
precedes_then {a} {b} {c} {end} {mid} {at} {x} {y} before this =
    let both = length-append x y in record {
      place = omega (arith, both, before.place, this.place);
      long = this.long ∙ before.long;
      stands = this.stands ∙ ap (λ (l : List ℕ). x ++ l) before.stands ∙ sym (append_assoc x y (drop end a));
    }

-- before what stood from the place on
pub stands_before : {a b : List ℕ} {end at : ℕ} {x y : List ℕ} → Precedes a b end at x → drop end a ≡ y → drop at b ≡ x ++ y
stands_before {a} {b} {end} {at} {x} {y} h is = h.stands ∙ ap (λ (l : List ℕ). x ++ l) is

pub begins_inside : {a b : List ℕ} {end at : ℕ} {x : List ℕ} → Precedes a b end at x → end ≤ length a → at ≤ length b
begins_inside {a} {b} {end} {at} {x} h inside = omega (arith, h.place, h.long, inside)

-- the same text, stated otherwise
pub precedes_as : {a b : List ℕ} {end at : ℕ} {x y : List ℕ} → x ≡ y → Precedes a b end at x → Precedes a b end at y
precedes_as {a} {b} {end} {at} {x} {y} same h = subst (λ (l : List ℕ). Precedes a b end at l) same h

-- ---- Texts in a row

pub three_texts : (a b c : List ℕ) → a ++ (b ++ c) ≡ (a ++ b) ++ c
three_texts a b c = sym (append_assoc a b c)

pub four_texts : (a b c d : List ℕ) → a ++ (b ++ (c ++ d)) ≡ ((a ++ b) ++ c) ++ d
four_texts a b c d = sym (append_assoc a b (c ++ d)) ∙ sym (append_assoc (a ++ b) c d)
