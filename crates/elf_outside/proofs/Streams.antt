-- A piece that is written a part at a time.
use Rattle.std.proofs.Common.{◌≡◌, ◌+◌, ◌-◌, ◌≤◌, ℕ, List, ◌++◌, Option, length, take, drop, replicate, sym, ap, ◌∙◌, subst, arith}
use Rattle.std.proofs.Math.Seq.{take-add}
use Rattle.std.proofs.lemmas.Grind.{common_steps}
use Rattle.std.proofs.lemmas.List.{length-take, take-replicate, replicate-append-replicate}
use Rattle.std.specs.Io.KnownBytes.{Appends}
use Rattle.std.proofs.KnownBytes.{Appends-trans}

take-rest : (n i : ℕ) (piece : List ℕ) → take n (take (length piece - i) (drop i piece)) ≡ take n (drop i piece)
take-rest n i piece = grind (arith, common_steps)

-- after the first i bytes, the next n
pub wrote_more : (a b c : Option (List ℕ)) (piece : List ℕ) (i n : ℕ) → Appends a b (take i piece) → Appends b c (take n (take (length piece - i) (drop i piece))) → Appends a c (take (i + n) piece)
wrote_more a b c piece i n before now =
    subst (Appends a c) (ap (λ more. take i piece ++ more) (take-rest n i piece) ∙ sym (take-add i n piece)) (Appends-trans a b c _ _ before now)

-- zeros
abbrev zeros : ℕ → List ℕ
zeros n = replicate n 0

-- the next zeros of a page are the next of all zeros
next_zeros : (n i m size page : ℕ) → i + m ≤ n → m ≤ size → size ≤ page
    → take i (zeros n) ++ take m (take size (zeros page)) ≡ take (i + m) (zeros n)
next_zeros n i m size page within part fits =
    let front : take i (zeros n) ≡ zeros i = take-replicate {X = ℕ} i n 0 (omega arith) in
    let whole : take size (zeros page) ≡ zeros size = take-replicate {X = ℕ} size page 0 fits in
    let next : take m (zeros size) ≡ zeros m = take-replicate {X = ℕ} m size 0 part in
    let both : take (i + m) (zeros n) ≡ zeros (i + m) =
    take-replicate {X = ℕ} (i + m) n 0 within in
    rw (front, whole, next, both) (replicate-append-replicate {A = ℕ} i m 0)

-- after the first i zeros, the next m, which are a part of a page
pub zeros_more : (a b c : Option (List ℕ)) (n i m size page : ℕ)
    → i + m ≤ n → m ≤ size → size ≤ page → Appends a b (take i (zeros n))
    → Appends b c (take m (take size (zeros page))) → Appends a c (take (i + m) (zeros n))
zeros_more a b c n i m size page within part fits before now =
    subst (Appends a c) (next_zeros n i m size page within part fits)
    (Appends-trans a b c _ _ before now)

-- a part of a part of a page is no longer than that
pub part_within : (m size page : ℕ) → m ≤ length (take size (zeros page)) → m ≤ size
part_within m size page bound = omega (arith, bound, length-take size (zeros page))
