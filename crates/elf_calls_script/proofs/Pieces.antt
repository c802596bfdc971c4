-- Bytes that are cut at the first separator.
use Rattle.std.proofs.Common.{◌≡◌, ◌==◌, ◌+◌, ◌-◌, ◌≤◌, ℕ, Bool, true, false, not, cond, ltb, List, [], ◌∷◌, length, take, drop, Option, Some, None, Ok, Bor, refl, sym, ap, ◌∙◌, length-drop, arith}
use Rattle.std.specs.List.{position, position_or_len}
use Rattle.std.proofs.lemmas.Bool.{ltb-true, ltb-false, le-leb, ne_eqb}
use Rattle.std.proofs.lemmas.List.{take_all}
use Rattle.std.proofs.lemmas.List.Elements.{All-from_get_or}
use Rattle.std.proofs.lemmas.List.Splits.{slice_split_first, slice_split_none, join_with_byte-slice_split, length-slice_split}
use Rattle.std.proofs.lemmas.List.Sums.{prefix_len_passes}
use Rattle.std.specs.Option.{is_some, option_copied}
use Rattle.std.specs.Str.{byte}
use Rattle.elf_calls_script.specs.Left.{pieces_left}
use Rattle.elf_calls_script.specs.Parts.{pieces_between, words_of, name}

of_some : (b : Bool) (n k : ℕ) → cond b (Some n) None ≡ Some k → (b ≡ true) × (n ≡ k)
of_some true n k e = (refl, cc)
of_some false n k e = absurd (cc)

of_none : (b : Bool) (n : ℕ) → cond b (Some n) None ≡ None → b ≡ false
of_none true n e = absurd (cc)
of_none false n e = refl

of_not : (b : Bool) → not b ≡ true → b ≡ false
of_not true e = absurd (cc)
of_not false e = refl

pub cut_at : (separator : ℕ) (bytes : List ℕ) (end : ℕ) → position (λ b. b == separator) bytes ≡ Some end
    → pieces_between separator bytes ≡ take end bytes ∷ pieces_between separator (take (length bytes - (end + 1)) (drop (end + 1) bytes))
cut_at separator bytes end e =
    let p : ℕ → Bool = λ b. b == separator in
    let found = of_some (ltb (position_or_len p bytes) (length bytes)) (position_or_len p bytes) end e in
    slice_split_first p bytes 0 (ltb-true _ _ found.0)
    ∙ ap (λ n. take n bytes ∷ pieces_between separator (drop (n + 1) bytes)) found.1
    ∙ ap (λ rest. take end bytes ∷ pieces_between separator rest) (sym (take_all (length bytes - (end + 1)) (drop (end + 1) bytes) (omega (arith, length-drop (end + 1) bytes))))

pub uncut : (separator : ℕ) (bytes : List ℕ) → position (λ b. b == separator) bytes ≡ None
    → pieces_between separator bytes ≡ bytes ∷ []
uncut separator bytes e =
    let p : ℕ → Bool = λ b. b == separator in
    let past = ltb-false _ _ (of_none (ltb (position_or_len p bytes) (length bytes)) (position_or_len p bytes) e) in
    slice_split_none p bytes (All-from_get_or (λ b. p b ≡ false) bytes 0 (λ i h. of_not _ (prefix_len_passes (λ b. not (p b)) bytes i 0 (omega arith))))

-- there is always a first piece
pub some_left : (separator : ℕ) (bytes : List ℕ) → (length (pieces_between separator bytes) == 0) ≡ false
some_left separator bytes =
    ne_eqb _ 0 (λ none. let some = length-slice_split (λ b. b == separator) bytes in omega arith)

-- the pieces of what is left of a line, joined, are it
pub named : (rest : List ℕ) → 1 ≤ length rest → name (words_of rest) ≡ Ok (Some rest, [])
unfolding name
named rest h = rw (join_with_byte-slice_split (byte " ") rest) (rw (le-leb 1 _ h) refl)

pub nothing_left : (separator : ℕ) (rest : Option (Bor (List ℕ))) (none : Bool) → is_some rest ≡ not none
    → none ≡ (length (pieces_left separator (option_copied rest)) == 0)
nothing_left separator None true e = refl
nothing_left separator None false e = absurd (cc)
nothing_left separator (Some bytes) true e = absurd (cc)
nothing_left separator (Some bytes) false e = sym (some_left separator bytes.now)
