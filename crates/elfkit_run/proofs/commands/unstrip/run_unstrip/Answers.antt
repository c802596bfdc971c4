use Rattle.elfkit_run.proofs.commands.unstrip.run_unstrip.Goals as goal

pub invariant_of-names : goal.invariant_of-names
invariant_of-names g c =
    rw (c.as_str.ensures, c.as_str-2.ensures) (record { apart = c.requires.last_two_differ })

pub join_files-requires-clause-stripped : goal.join_files-requires-clause-stripped
join_files-requires-clause-stripped g c =
    rw (c.as_str.ensures, c.as_str-3.ensures) c.requires.second_differs

pub join_files-requires-clause-debug : goal.join_files-requires-clause-debug
join_files-requires-clause-debug g c =
    rw (c.as_str-2.ensures, c.as_str-3.ensures) c.requires.third_differs

pub returns-clause-does : goal.returns-clause-does
returns-clause-does g c =
    rw (c.as_str.ensures, c.as_str-2.ensures, c.as_str-3.ensures) at c.join_files.ensures.does
