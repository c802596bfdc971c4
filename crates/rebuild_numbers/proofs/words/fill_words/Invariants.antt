use Rattle.std.proofs.Common.{◌≡◌, ℕ, map, take}
use Rattle.std.specs.Prelude.{slice_get}
use Rattle.std.specs.List.{enumerate_from}
use Rattle.rebuild_select.specs.rebuild_model.Followed.{word_of_sym}
use Rattle.rebuild_numbers.proofs.words.fill_words.Given as goal

abbrev pub invariant-loop-i : goal.invariant-loop-i
invariant-loop-i l =
    l.made
    ≡ map (λ (row : ℕ × ℕ). word_of_sym l.numbering row.1 (slice_get l.syms row.0))
    (enumerate_from 0 (take l.i l.words))
