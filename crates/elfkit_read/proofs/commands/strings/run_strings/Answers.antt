use Rattle.tool_output.proofs.OutcomeLemmas.{reads_done}
use Rattle.elfkit_read.specs.Strings.{strings_outcome}
use Rattle.elfkit_read.proofs.commands.strings.run_strings.Goals as goal

pub returns-clause-does : goal.returns-clause-does
unfolding strings_outcome
returns-clause-does g c = λ told.
    reads_done g.F.Files g.O.Sink g.E.Sink c.args.files.now _ c.args.outputs.now _ _ _ _ told c.each_file.ensures.reports.reads
    (rw (← c.as_slice.ensures) (c.each_file.ensures.asks told)) (rw (← c.as_slice.ensures) (c.each_file.ensures.reports.reports told))
