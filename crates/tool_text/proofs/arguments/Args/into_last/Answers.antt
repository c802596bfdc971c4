use Rattle.std.proofs.Common.{length, sym, ap, ◌∙◌}
use Rattle.tool_text.proofs.LastLemmas.{last_popped}
use Rattle.tool_text.proofs.arguments.Args.into_last.Goals as goal

pub returns : goal.returns
returns c =
    let same = c.into_vec.ensures ∙ c.self.view_is in
    last_popped c.args.self c.pop.new.self.items c.pop.result _ _ (c.into_vec.result.ok.0 ∙ ap length same) (sym same ∙ c.pop.ensures.items) c.pop.ensures.cases
