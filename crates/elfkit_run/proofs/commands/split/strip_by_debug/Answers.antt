use Rattle.elfkit_run.proofs.commands.split.strip_by_debug.Goals as goal

pub strip-requires-clause-apart : goal.strip-requires-clause-apart
strip-requires-clause-apart g c = c.requires.0

pub strip-requires-clause-alone : goal.strip-requires-clause-alone
strip-requires-clause-alone g c = c.in-None.is

pub split-requires-clause-differ : goal.split-requires-clause-differ
split-requires-clause-differ g c = rw c.in-Some.is at c.requires.1

pub split-requires-clause-debug : goal.split-requires-clause-debug
split-requires-clause-debug g c = c.in-Some.is
