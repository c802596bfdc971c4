use Rattle.std.proofs.Common.{◌∙◌, rules}
use Rattle.tool_text.proofs.LastLemmas.{last-one}
use Rattle.tool_text.proofs.arguments.Args.into_one.Goals as goal

pub returns-then-len-eq1 : goal.returns-then-len-eq1
returns-then-len-eq1 c = c.into_last.ensures ∙ last-one c.args.self (search rules)
