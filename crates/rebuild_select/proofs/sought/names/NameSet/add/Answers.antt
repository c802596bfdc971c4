use Rattle.std.proofs.Common.{◌||◌, List, ℕ, ap, ◌∙◌, arith}
use Rattle.std.specs.Str.{bytes_eq}
use Rattle.rebuild_select.specs.Sought.Names.{is_sought}
use Rattle.rebuild_select.proofs.sought.NameLaws.{sought_added, up_to_added}
use Rattle.rebuild_select.proofs.sought.names.NameSet.add.Goals as goal

pub invariant_of-self-2 : goal.invariant_of-self-2
invariant_of-self-2 c =
    up_to_added c.self.inside.longest c.max-self-inside.result c.self.inside.names c.insert.new.self
    c.args.name c.in_ok-insert.ensures.updates c.self.invariant
    (omega (arith, c.max-self-inside.ensures)) (omega (arith, c.max-self-inside.ensures))

pub returns-clause-ok : goal.returns-clause-ok
returns-clause-ok c = λ q.
    sought_added c.self.inside.names c.insert.new.self c.args.name
    c.in_ok-insert.ensures.updates q
    ∙ ap (λ (l : List (List ℕ)). bytes_eq c.args.name.now q || is_sought l q) c.self.view_is
