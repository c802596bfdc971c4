use Rattle.std.proofs.Common.{IsTrue, IsSome, ◌<◌, ◌⊎◌, inr}
use Rattle.rebuild_join.proofs.elf_descriptor.BeginAnswers.{begun_clean}
use Rattle.rebuild_files.proofs.tool_objects.SourceSteps.{leaves_then}
use Rattle.rebuild_files.proofs.BegunLemmas.{begun_over, begun_tied}
use Rattle.unstrip_tool.specs.Joins.{objects_done}
use Rattle.unstrip_tool.proofs.BesideLemmas.{same_source, begun_writes, begun_refused}
use Rattle.unstrip_tool.proofs.joining.join_debug.Goals as goal

pub write_joined-requires-clause-over : goal.write_joined-requires-clause-over
write_joined-requires-clause-over g c =
    (c.requires.over, begun_over g.T.Source c.args.src c.in-Ok.debug c.in-Ok.ensures.begun)

pub write_joined-requires-clause-stripped : goal.write_joined-requires-clause-stripped
write_joined-requires-clause-stripped g c = c.requires.clean

pub write_joined-requires-clause-debug : goal.write_joined-requires-clause-debug
write_joined-requires-clause-debug g c =
    begun_clean g.T.Source c.args.src c.in-Ok.debug c.in-Ok.ensures.begun

pub write_joined-requires-clause-tied : goal.write_joined-requires-clause-tied
write_joined-requires-clause-tied g c = (
  c.requires.tied,
  begun_tied g.T.Source c.args.src c.in-Ok.debug c.in-Ok.ensures.begun c.dirty-sound.ensures.sound,
)

pub write_joined-requires-clause-fits : goal.write_joined-requires-clause-fits
write_joined-requires-clause-fits g c = c.requires.fits

pub returns-in-Ok-clause-writes : goal.returns-in-Ok-clause-writes
returns-in-Ok-clause-writes g c =
    let stripped = c.args.stripped in
    let left = c.write_joined.result.0 in
    begun_writes g.T.Source g.F.Files g.O.Sink g.E.Sink c.args.names.now.debug.now
    (objects_done c.args.out.now c.args.names.now stripped.o) 1
    ((0 < g.S.Source.faults left.0) ⊎ (0 < g.T.Source.faults left.1))
    (IsTrue stripped.told × IsSome (g.T.Source.holds c.args.src)) c.args.src (λ known. known.1)
    (IsTrue stripped.told × IsTrue c.in-Ok.debug.told) c.in-Ok.debug
    c.write_joined.result.1 c.args.files.now c.write_joined.new.files c.args.outputs.now
    c.write_joined.new.outputs c.in-Ok.ensures.answer c.in-Ok.ensures.told
    (λ known told. (known.0, told)) c.write_joined.ensures.writes

pub returns-in-Ok-clause-leaves_stripped : goal.returns-in-Ok-clause-leaves_stripped
returns-in-Ok-clause-leaves_stripped g c = c.write_joined.ensures.leaves_stripped

pub returns-in-Ok-clause-leaves_debug : goal.returns-in-Ok-clause-leaves_debug
returns-in-Ok-clause-leaves_debug g c =
    leaves_then g.T.Source c.args.src c.in-Ok.debug.source c.write_joined.result.0.1
    c.in-Ok.ensures.asks.leaves c.write_joined.ensures.leaves_debug

pub returns-in-Err-clause-writes : goal.returns-in-Err-clause-writes
returns-in-Err-clause-writes g c =
    let stripped = c.args.stripped in
    begun_refused g.T.Source g.F.Files g.O.Sink g.E.Sink c.args.names.now.debug.now
    (objects_done c.args.out.now c.args.names.now stripped.o) 1 _
    (IsTrue stripped.told × IsSome (g.T.Source.holds c.args.src)) c.args.src
    (λ known. known.1) _ _ _
    c.refuse_half-refused.result c.args.files.now c.args.outputs.now
    c.refuse_half-refused.new.outputs c.in-Err.ensures.asks c.in-Err.ensures.answer
    (λ some. inr some) c.refuse_half-refused.ensures

pub returns-in-Err-clause-leaves_stripped : goal.returns-in-Err-clause-leaves_stripped
returns-in-Err-clause-leaves_stripped g c =
    rw c.end.ensures (same_source g.S.Source c.args.stripped.source)

pub returns-in-Err-clause-leaves_debug : goal.returns-in-Err-clause-leaves_debug
returns-in-Err-clause-leaves_debug g c = c.in-Err.ensures.asks.leaves
