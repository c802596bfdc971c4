use Rattle.law_files.proofs.commands.SelftestLaws as laws
use Rattle.law_files.proofs.commands.laws.selftest_law.Goals as goal

pub returns : goal.returns
returns c = laws.selftest_law c.reopen_law.ensures c.settling_keeps_items.ensures
