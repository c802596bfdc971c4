use Rattle.std.proofs.Common.{List, ℕ, sym, ap, ◌∙◌}
use Rattle.std.proofs.lemmas.Map.Lookups.{exact_bytes}
use Rattle.rebuild_select.specs.Sought.Names.{is_sought}
use Rattle.rebuild_select.proofs.sought.NameLaws.{by_order}
use Rattle.rebuild_select.proofs.sought.names.NameSet.find.Goals as goal

pub returns-in-Some-clause-found : goal.returns-in-Some-clause-found
returns-in-Some-clause-found c =
    c.in-Some.ensures.variant ∙ by_order c.self.inside.names.keys c.args.name.now
    ∙ ap (λ (l : List (List ℕ)). is_sought l c.args.name.now) c.self.view_is

pub returns-in-Some-clause-same : goal.returns-in-Some-clause-same
returns-in-Some-clause-same c = sym (exact_bytes c.args.name.now _ c.in-Some.ensures.same_key)

pub returns-in-None-clause-found : goal.returns-in-None-clause-found
returns-in-None-clause-found c =
    c.in-None.ensures.variant ∙ by_order c.self.inside.names.keys c.args.name.now
    ∙ ap (λ (l : List (List ℕ)). is_sought l c.args.name.now) c.self.view_is
