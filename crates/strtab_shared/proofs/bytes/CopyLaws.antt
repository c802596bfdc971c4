-- Bytes that are copied or compared, piece by piece.
use Rattle.std.proofs.Common.{◌≡◌, ◌⊎◌, inl, inr, ◌+◌, ◌-◌, ◌<◌, ◌≤◌, ℕ, true, false, List, ◌++◌, length, take, drop, refl, sym, ap, ◌∙◌, arith, length-append}
use Rattle.std.specs.Prelude.{min}
use Rattle.std.specs.Str.{bytes_eq}
use Rattle.std.proofs.lemmas.Bool.{cases_lt, false_from_ne_true}
use Rattle.std.proofs.lemmas.List.{length-take, length-drop, drop_all, drop-drop, drop-take, take_at, take_all, take-take, take-append-le, take-append-drop}
use Rattle.std.proofs.lemmas.Slice.Eq.{bytes_eq-Decides}
use Rattle.strtab_shared.specs.Bytes.Pieces.{IsPieceAt, IsCopiedToBuffer}

take_both : (n m : ℕ) (l : List ℕ) → take (n + m) l ≡ take n l ++ take m (drop n l)
take_both n m l =
    sym (take-append-drop n (take (n + m) l))
    ∙ (λ j. take-take n (n + m) l (omega arith) j ++ drop-take n m l j)

-- the bytes from a place on behind some of them
from_place : (all piece : List ℕ) (at done n : ℕ) (found : IsPieceAt (at + done) all piece)
    → n ≤ length piece → take n (drop done (drop at all)) ≡ take n piece
from_place all piece at done n found within =
    ap (take n) (drop-drop done at all ∙ found.is)
    ∙ take-append-le n piece found.rest within

-- ---- Copied

pub copied_more : (all piece old new : List ℕ) (at done n : ℕ) → IsPieceAt (at + done) all piece
    → n ≤ length piece → done + n ≤ length old
    → take done old ≡ take done (drop at all)
    → new ≡ (take done old ++ take n piece) ++ drop (done + length (take n piece)) old
    → IsCopiedToBuffer all at old new (done + n)
copied_more all piece old new at done n found within room same is =
    let front = length-take done old in
    let cut = length-take n piece in
    let both = length-append (take done old) (take n piece) in
    let rest = length-drop (done + length (take n piece)) old in
    let long = ap (λ (l : List ℕ). length l) is
    ∙ length-append (take done old ++ take n piece) (drop (done + length (take n piece)) old) in
    record {
      within = room;
      long = omega (arith, front, cut, both, rest, long, within, room);
      same = ap (take (done + n)) is
          ∙ take_at (take done old ++ take n piece) (drop (done + length (take n piece)) old)
          (done + n) (omega (arith, front, cut, both, within, room))
          ∙ (λ j. same j ++ sym (from_place all piece at done n found within) j)
          ∙ sym (take_both done n (drop at all));
    }

pub copied_none : (all buf : List ℕ) (at : ℕ) → IsCopiedToBuffer all at buf buf 0
copied_none all buf at = record { within = omega arith; long = refl; same = refl }

pub copied_then : (all old mid new : List ℕ) (at done next : ℕ) → IsCopiedToBuffer all at old mid done
    → IsCopiedToBuffer all at mid new next → IsCopiedToBuffer all at old new next
copied_then all old mid new at done next first second =
    let long = first.long in
    let within = second.within in
    record {
      within = omega (arith, long, within);
      long = second.long ∙ first.long;
      same = second.same;
    }

pub copied_all : (all old new : List ℕ) (at done : ℕ) → length new ≤ done
    → IsCopiedToBuffer all at old new done → new ≡ take (length old) (drop at all)
copied_all all old new at done full copied =
    let within = copied.within in
    let long = copied.long in
    let count : done ≡ length old = omega (arith, within, long, full) in
    sym (take_all done new full) ∙ copied.same ∙ ap (λ (n : ℕ). take n (drop at all)) count

-- ---- Ranges that are cut to what is there

pub cut_range : (all : List ℕ) (at len count start n : ℕ) → count ≡ length all
    → start ≡ min at count → n ≡ min len (count - start)
    → take n (drop start all) ≡ take len (drop at all)
cut_range all at len count start n count_is start_is n_is = by_place (cases_lt at count)
  where
    by_place : (at < count) ⊎ (count ≤ at) → take n (drop start all) ≡ take len (drop at all)
    by_place (inl below) =
        let place : start ≡ at = omega (arith, start_is, below) in
        ap (λ (k : ℕ). take n (drop k all)) place ∙ by_length (cases_lt len (count - at))
      where
        by_length : (len < count - at) ⊎ (count - at ≤ len)
            → take n (drop at all) ≡ take len (drop at all)
        by_length (inl less) =
            let same : n ≡ len = omega (arith, start_is, n_is, below, less) in
            ap (λ (k : ℕ). take k (drop at all)) same
        by_length (inr more) =
            let rest = length-drop at all in
            take_all n (drop at all) (omega (arith, rest, count_is, start_is, n_is, below, more))
            ∙ sym (take_all len (drop at all) (omega (arith, rest, count_is, more)))
    by_place (inr past) =
        let rest = length-drop start all in
        let behind = length-drop at all in
        let none : ◌≡◌ {A = List ℕ} (drop start all) (drop at all) =
        drop_all start all (omega (arith, count_is, start_is, past))
        ∙ sym (drop_all at all (omega (arith, count_is, past))) in
        ap (take n) none
        ∙ take_all n (drop at all) (omega (arith, behind, count_is, past))
        ∙ sym (take_all len (drop at all) (omega (arith, behind, count_is, past)))

-- ---- Compared

pub compared_more : (all piece bytes : List ℕ) (at done n : ℕ) → IsPieceAt (at + done) all piece
    → n ≤ length piece → take done bytes ≡ take done (drop at all)
    → take (done + n - done) (drop done bytes) ≡ take n piece
    → take (done + n) bytes ≡ take (done + n) (drop at all)
compared_more all piece bytes at done n found within same next =
    let count : n ≡ done + n - done = omega arith in
    take_both done n bytes
    ∙ (λ j. same j ++ take (count j) (drop done bytes))
    ∙ ap (λ (b : List ℕ). take done (drop at all) ++ b)
    (next ∙ sym (from_place all piece at done n found within))
    ∙ sym (take_both done n (drop at all))

pub differs : (all piece bytes : List ℕ) (at done n : ℕ) → IsPieceAt (at + done) all piece
    → n ≤ length piece → done + n ≤ length bytes
    → bytes_eq (take (done + n - done) (drop done bytes)) (take n piece) ≡ false
    → bytes ≡ take (length bytes) (drop at all) → ⊥
differs all piece bytes at done n found within room other same =
    let count : done + n - done ≡ n = omega arith in
    let rest : length bytes ≡ done + (length bytes - done) = omega (arith, room) in
    let behind : drop done bytes ≡ take (length bytes - done) (drop done (drop at all)) =
    ap (drop done) (same ∙ ap (λ (k : ℕ). take k (drop at all)) rest)
    ∙ drop-take done (length bytes - done) (drop at all) in
    let alike : take (done + n - done) (drop done bytes) ≡ take n piece =
    (λ j. take (count j) (behind j))
    ∙ take-take n (length bytes - done) (drop done (drop at all)) (omega (arith, room))
    ∙ from_place all piece at done n found within in
    let clash : true ≡ false =
    sym ((bytes_eq-Decides (take (done + n - done) (drop done bytes)) (take n piece)).1 alike)
    ∙ other in
    cc

pub all_same : (all bytes : List ℕ) (at done : ℕ) → length bytes ≤ done → done ≤ length bytes
    → take done bytes ≡ take done (drop at all)
    → true ≡ bytes_eq bytes (take (length bytes) (drop at all))
all_same all bytes at done full within same =
    let count : done ≡ length bytes = omega (arith, full, within) in
    let alike : bytes ≡ take (length bytes) (drop at all) =
    sym (take_all done bytes full) ∙ same ∙ ap (λ (n : ℕ). take n (drop at all)) count in
    sym ((bytes_eq-Decides bytes (take (length bytes) (drop at all))).1 alike)

pub not_same : (all bytes : List ℕ) (at : ℕ)
    → (bytes ≡ take (length bytes) (drop at all) → ⊥)
    → false ≡ bytes_eq bytes (take (length bytes) (drop at all))
not_same all bytes at other =
    sym (false_from_ne_true (bytes_eq bytes (take (length bytes) (drop at all)))
    (λ same. other ((bytes_eq-Decides bytes (take (length bytes) (drop at all))).0 same)))
