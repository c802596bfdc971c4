use Rattle.std.proofs.Common.{ℕ, ◌+◌, ap, ◌∙◌}
use Rattle.std.specs.Prelude.{slice_get}
use Rattle.elf_lint_hashes.proofs.SysvWords.{chain_word}
use Rattle.elf_lint_hashes.proofs.words.behind.Goals as goal

pub returns : goal.returns
returns c =
    let w = c.args.words.now in
    c.get.ensures
    ∙ ap (λ (n : ℕ). slice_get w (2 + n + c.from-2.result)) c.from.ensures
    ∙ ap (λ (n : ℕ). slice_get w (2 + c.args.t.nbucket + n)) c.from-2.ensures
    ∙ chain_word w c.args.t c.args.at
