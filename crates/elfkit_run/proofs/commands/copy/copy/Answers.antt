use Rattle.elfkit_run.proofs.commands.copy.copy.Goals as goal

pub copy_file-requires-clause-apart : goal.copy_file-requires-clause-apart
copy_file-requires-clause-apart g c =
    rw (c.as_str.ensures, c.as_str-2.ensures) c.requires.apart

pub returns-clause-does : goal.returns-clause-does
returns-clause-does g c = rw (c.as_str.ensures, c.as_str-2.ensures) at c.copy_file.ensures.does
