use Rattle.std.proofs.Common.{◌||◌, ℕ, Bool, List, ap, ◌∙◌}
use Rattle.std.specs.Str.{bytes_eq}
use Rattle.std.proofs.lemmas.List.{take_all}
use Rattle.rebuild_select.specs.Sought.Names.{is_sought}
use Rattle.rebuild_select.proofs.sought.NameLaws.{sought_more}
use Rattle.rebuild_select.proofs.names.add_names.Goals as goal

pub loop-name-init : goal.loop-name-init
loop-name-init c = λ q. ap (λ (l : List (List ℕ)). is_sought l q) c.requires

pub loop-name-preserved : goal.loop-name-preserved
loop-name-preserved c = λ q.
    let name = c.name-item.result in
    c.in-Ok.ensures.ok q
    ∙ ap (λ (n : List ℕ). bytes_eq n q || is_sought c.loop-name.sought q) c.as_bytes.ensures
    ∙ ap (λ (b : Bool). bytes_eq name q || b) (c.loop-name.invariant q)
    ∙ sought_more c.args.names.now c.loop-name.name-index name q c.loop-name-test.true
    c.name-item.is

pub returns-clause-ok : goal.returns-clause-ok
returns-clause-ok c = λ q.
    c.loop-name.invariant q
    ∙ ap (λ (l : List (List ℕ)). is_sought l q)
    (take_all c.loop-name.name-index c.args.names.now c.loop-name-test.false)
