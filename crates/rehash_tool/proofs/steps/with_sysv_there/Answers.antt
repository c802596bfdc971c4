use Rattle.rehash_tool.proofs.StepLemmas.{turns_none}
use Rattle.rehash_tool.proofs.steps.with_sysv_there.Goals as goal

pub returns-in-Some : goal.returns-in-Some
returns-in-Some g c = rw c.in-Some.is c.with_sysv.ensures

pub returns-in-None : goal.returns-in-None
returns-in-None g c = rw c.in-None.is (turns_none g.S.Source c.args.elf.now)
