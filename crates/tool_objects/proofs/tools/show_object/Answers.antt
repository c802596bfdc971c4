use Rattle.std.proofs.Common.{◌∙◌, rules}
use Rattle.tool_objects.proofs.ShowLemmas.{shows}
use Rattle.tool_objects.proofs.tools.show_object.Goals as goal

pub returns-clause-shows : goal.returns-clause-shows
returns-clause-shows g c =
    let v = c.new-outputs.ensures.values in
    shows g.S.Source g.O.Sink g.E.Sink _ _ _ c.args.elf.now _ c.new-outputs.result c.show-shown.new.outputs _ _ _ _ _ _ (v.2 ∙ c.new-page.ensures) v.0 v.1 (search rules) (search rules)
    c.show-shown.ensures.reports c.end.ensures
