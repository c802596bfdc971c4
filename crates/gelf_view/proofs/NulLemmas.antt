-- The first NUL of bytes, as a search for it answers.
use Rattle.std.proofs.Common.{◌≡◌, ℕ, List, take, get_or, false, not, ◌==◌, Some, None, ap, ◌∙◌, arith}
use Rattle.std.proofs.lemmas.Bool.{cond-true, cond-false, false_from_ne_true, not_from_true, not_from_false}
use Rattle.std.proofs.lemmas.List.Elements.{All-from_get_or}
use Rattle.std.proofs.lemmas.List.Folds.{list_any_at, list_any_none}
use Rattle.std.proofs.lemmas.List.Sums.{prefix_len_is}
use Rattle.memchr.specs.Find.{IsFirstByte, is_byte}
use Rattle.gelf_view.specs.Records.{string_front}

-- a NUL follows: the string is what stands before it
pub string_ended : (bytes : List ℕ) (end : ℕ) → IsFirstByte (is_byte 0) bytes (Some end) → string_front bytes ≡ Some (take end bytes)
unfolding string_front
string_ended bytes end first =
    let there = list_any_at (λ b. b == 0) bytes end 0 first.0.high first.1 in
    let front = prefix_len_is (λ b. not (b == 0)) bytes end 0 (omega (arith, first.0.high))
    (λ k below. not_from_false (get_or bytes k 0 == 0) (false_from_ne_true (get_or bytes k 0 == 0) (first.0.before k (omega arith) below)))
    (λ _. not_from_true (get_or bytes end 0 == 0) first.1) in
    cond-true _ _ _ there ∙ ap (λ (n : ℕ). Some (take n bytes)) front

-- none follows
pub string_unended : (bytes : List ℕ) → IsFirstByte (is_byte 0) bytes None → string_front bytes ≡ None
unfolding string_front
string_unended bytes nowhere =
    let none = list_any_none (λ b. b == 0) bytes
    (All-from_get_or (λ b. (b == 0) ≡ false) bytes 0 (λ k below. false_from_ne_true (get_or bytes k 0 == 0) (nowhere k (omega arith) below))) in
    cond-false _ _ _ none
