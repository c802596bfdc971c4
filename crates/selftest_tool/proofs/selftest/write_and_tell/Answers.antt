use Rattle.selftest_tool.proofs.selftest.write_and_tell.Goals as goal

pub returns-clause-does : goal.returns-clause-does
returns-clause-does g c = rw c.as_str.ensures at c.make_and_tell.ensures.does
