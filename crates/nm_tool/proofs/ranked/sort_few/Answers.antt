use Rattle.nm_tool.specs.Kept.{shown_name_in}
use Rattle.nm_tool.proofs.Ranking.{few_sorted}
use Rattle.nm_tool.proofs.ranked.sort_few.Goals as goal

pub returns-then-rows-lt2 : goal.returns-then-rows-lt2
returns-then-rows-lt2 c = few_sorted (shown_name_in c.args.strings.now) c.args.rows.now c.if-rows-lt2.true
