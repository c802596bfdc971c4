use Rattle.std.proofs.Common.{List, ℕ, ap, ◌∙◌}
use Rattle.rebuild_select.specs.Sought.Names.{is_sought}
use Rattle.rebuild_select.proofs.sought.NameLaws.{by_order}
use Rattle.rebuild_select.proofs.sought.names.NameSet.has.Goals as goal

pub returns : goal.returns
returns c =
    c.contains.ensures ∙ by_order c.self.inside.names.keys c.args.name.now
    ∙ ap (λ (l : List (List ℕ)). is_sought l c.args.name.now) c.self.view_is
