use Rattle.elfkit_run.proofs.StripLemmas.{strip_unwritten, strip_is}
use Rattle.selftest_tool.specs.tool_objects.Images.{file_object}
use Rattle.elfkit_run.proofs.commands.strip.strip.Goals as goal

pub strip_named-requires : goal.strip_named-requires
strip_named-requires g c = λ bytes.
    rw (c.as_str.ensures, c.as_str-2.ensures)
    (strip_unwritten c.args.options.now.debug_only c.args.options.now.names
    c.args.options.now.out c.args.file.now c.requires.apart (file_object bytes))

pub returns-clause-does : goal.returns-clause-does
returns-clause-does g c = λ told.
    rw (strip_is c.args.options.now (g.F.Files.named c.args.files.now) c.args.file.now c.requires.alone)
    ((rw (c.as_str.ensures, c.as_str-2.ensures) at c.strip_named.ensures.does) told)
