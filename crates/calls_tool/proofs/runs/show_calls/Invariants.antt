use Rattle.calls_tool.proofs.RunLemmas.{RunUnderWay}
use Rattle.calls_tool.proofs.runs.show_calls.Given as goal

abbrev pub invariant-loop-call : goal.invariant-loop-call
invariant-loop-call g l =
    RunUnderWay g.S.Source g.O.Sink g.E.Sink l.calls l.call-index l.refused l.initial.elf l.elf l.initial.outputs l.outputs
