use Rattle.rebuild_join.proofs.rebuild_keep.WholeLaws.{clean_stays}
use Rattle.unstrip_tool.proofs.SplitLemmas.{split_unarranged, split_unhalved, both_split}
use Rattle.unstrip_tool.proofs.planning.plan_split.Goals as goal

pub returns-in-Err : goal.returns-in-Err
returns-in-Err g c =
    split_unarranged g.S.Source c.args.removed.now c.args.elf.now c.arrange_rebuilt.new.elf
    c.in-Err.e c.in-Err.ensures

pub keep_half-requires : goal.keep_half-requires
keep_half-requires g c =
    clean_stays c.args.elf.now c.arrange_rebuilt.new.elf c.in-Ok.ensures.asks.object
    c.in-Ok.ensures.asks.told c.requires.clean

pub plan_both-requires-clause-clean : goal.plan_both-requires-clause-clean
plan_both-requires-clause-clean g c =
    clean_stays c.args.elf.now c.arrange_rebuilt.new.elf c.in-Ok.ensures.asks.object
    c.in-Ok.ensures.asks.told c.requires.clean

pub plan_both-requires-clause-listable : goal.plan_both-requires-clause-listable
plan_both-requires-clause-listable g c = c.in-Ok.ensures.small

pub plan_both-requires-clause-half : goal.plan_both-requires-clause-half
plan_both-requires-clause-half g c = c.in-Ok-keep_half.ensures.ok

pub plan_both-requires-clause-read : goal.plan_both-requires-clause-read
plan_both-requires-clause-read g c = c.in-Ok-keep_half.ensures.read

pub plan_both-requires-clause-passed : goal.plan_both-requires-clause-passed
plan_both-requires-clause-passed g c = c.in-Ok-keep_half.ensures.passed

pub returns-in-Ok-keep_half : goal.returns-in-Ok-keep_half
returns-in-Ok-keep_half g c =
    both_split g.S.Source c.args.removed.now c.args.elf.now c.arrange_rebuilt.new.elf
    c.in-Ok.kept c.in-Ok.ensures c.in-Ok-keep_half.half c.plan_both.result
    c.in-Ok-keep_half.ensures c.plan_both.ensures

pub returns-in-Err-keep_half : goal.returns-in-Err-keep_half
returns-in-Err-keep_half g c =
    split_unhalved g.S.Source c.args.removed.now c.args.elf.now c.arrange_rebuilt.new.elf
    c.in-Ok.kept c.in-Ok.ensures c.in-Err-keep_half.e c.in-Err-keep_half.ensures
