use Rattle.tool_output.specs.Statuses.{refused_status}
use Rattle.tool_output.proofs.StepLemmas.{keeps_none}
use Rattle.tool_output.proofs.FileLemmas.{totals_none}
use Rattle.tool_output.proofs.OutcomeLemmas.{nothing_done}
use Rattle.selftest_tool.proofs.selftest.write_made.Goals as goal

pub returns-in-Ok-clause-does : goal.returns-in-Ok-clause-does
returns-in-Ok-clause-does g c = c.write_shifted.ensures.does

pub returns-in-Ok-clause-leaves : goal.returns-in-Ok-clause-leaves
returns-in-Ok-clause-leaves g c = c.write_shifted.ensures.leaves

pub returns-in-Err-clause-does : goal.returns-in-Err-clause-does
returns-in-Err-clause-does g c = λ tells.
    nothing_done g.F.Files g.O.Sink g.E.Sink refused_status _ c.want_of.result c.args.files.now
    c.args.outputs.now

pub returns-in-Err-clause-leaves : goal.returns-in-Err-clause-leaves
returns-in-Err-clause-leaves g c =
    rw c.want_of.ensures (record {
      totals = totals_none g.F.Files g.O.Sink g.E.Sink c.args.files.now;
      keeps = keeps_none g.O.Sink g.E.Sink c.args.outputs.now;
      read = tt;
      write = tt;
    })
