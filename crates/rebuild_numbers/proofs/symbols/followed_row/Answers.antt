use Rattle.std.proofs.Common.{ℕ, Option, ap, ◌∙◌}
use Rattle.rebuild_select.specs.rebuild_model.Followed.{followed_by_word}
use Rattle.rebuild_numbers.proofs.symbols.followed_row.Goals as goal

pub returns : goal.returns
returns c =
    c.followed_by_word.ensures
    ∙ ap (λ (o : Option ℕ). followed_by_word c.args.numbering.now o c.args.x) c.word_at.ensures
