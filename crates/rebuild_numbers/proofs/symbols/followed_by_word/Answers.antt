use Rattle.std.proofs.Common.{ℕ, Option, sym, ap, ◌∙◌}
use Rattle.rebuild_select.specs.rebuild_model.Followed.{followed_by_word}
use Rattle.rebuild_numbers.proofs.symbols.followed_by_word.Goals as goal

pub returns-in-Some : goal.returns-in-Some
returns-in-Some c =
    c.sym_with_word.ensures
    ∙ ap (λ (o : Option ℕ). followed_by_word c.args.numbering.now o c.args.x) (sym c.in-Some.is)

pub returns-in-None : goal.returns-in-None
returns-in-None c =
    c.followed_sym.ensures
    ∙ ap (λ (o : Option ℕ). followed_by_word c.args.numbering.now o c.args.x) (sym c.in-None.is)
