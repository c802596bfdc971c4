use Rattle.std.proofs.Common.{Bool, sym, ap, ◌∙◌}
use Rattle.std.specs.Prelude.{if◌then◌else◌}
use Rattle.rebuild_numbers.proofs.words.moved_word.Goals as goal

pub returns-then-moves_in : goal.returns-then-moves_in
returns-then-moves_in c =
    sym (ap (λ (b : Bool). if b then 0 else c.args.number)
    (sym c.moves_in.ensures ∙ c.if-moves_in.true))

pub returns : goal.returns
returns c =
    sym (ap (λ (b : Bool). if b then 0 else c.args.number)
    (sym c.moves_in.ensures ∙ c.if-moves_in.false))
