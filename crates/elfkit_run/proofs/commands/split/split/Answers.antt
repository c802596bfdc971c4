use Rattle.std.proofs.Common.{sym}
use Rattle.selftest_tool.specs.tool_objects.Images.{file_object}
use Rattle.elfkit_run.proofs.SplitLemmas.{halves_unwritten, split_is}
use Rattle.elfkit_run.proofs.commands.split.split.Goals as goal

pub invariant_of-halves : goal.invariant_of-halves
invariant_of-halves g c =
    rw (c.as_str.ensures, c.as_str-2.ensures)
    (record { apart = c.requires.differ.third_differs })

pub split_named-requires : goal.split_named-requires
split_named-requires g c = λ bytes.
    rw (c.as_str.ensures, c.as_str-2.ensures, c.as_str-3.ensures)
    (halves_unwritten c.args.options.now.out c.args.debug.now c.args.file.now
    c.requires.differ.second_differs
    (λ same. c.requires.differ.last_two_differ (sym same)) c.args.options.now.debug_only
    c.args.options.now.names (file_object bytes))

pub returns-clause-does : goal.returns-clause-does
returns-clause-does g c = λ told.
    rw (split_is c.args.options.now (g.F.Files.named c.args.files.now) c.args.file.now
    c.args.debug.now c.requires.debug)
    ((rw (c.as_str.ensures, c.as_str-2.ensures, c.as_str-3.ensures)
    at c.split_named.ensures.does) told)
