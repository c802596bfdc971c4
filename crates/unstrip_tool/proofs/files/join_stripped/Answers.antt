use Rattle.std.proofs.Common.{IsTrue, IsSome, ◌<◌, ◌⊎◌, inr}
use Rattle.elf_outside.specs.Counts.{Rose}
use Rattle.rebuild_join.proofs.elf_descriptor.BeginAnswers.{begun_clean}
use Rattle.rebuild_files.proofs.tool_objects.SourceSteps.{leaves_then}
use Rattle.rebuild_files.proofs.BegunLemmas.{begun_over, begun_tied, begun_object_fits}
use Rattle.unstrip_tool.specs.Joins.{debug_done}
use Rattle.unstrip_tool.proofs.BesideLemmas.{begun_writes, begun_refused}
use Rattle.unstrip_tool.proofs.files.join_stripped.Goals as goal

pub join_named-requires-clause-apart : goal.join_named-requires-clause-apart
join_named-requires-clause-apart g c = c.requires

pub join_named-requires-clause-over : goal.join_named-requires-clause-over
join_named-requires-clause-over g c =
    begun_over g.S.Source c.args.src c.in-Ok.stripped c.in-Ok.ensures.begun

pub join_named-requires-clause-clean : goal.join_named-requires-clause-clean
join_named-requires-clause-clean g c =
    begun_clean g.S.Source c.args.src c.in-Ok.stripped c.in-Ok.ensures.begun

pub join_named-requires-clause-tied : goal.join_named-requires-clause-tied
join_named-requires-clause-tied g c =
    begun_tied g.S.Source c.args.src c.in-Ok.stripped c.in-Ok.ensures.begun
    c.dirty-sound.ensures.sound

pub join_named-requires-clause-fits : goal.join_named-requires-clause-fits
join_named-requires-clause-fits g c =
    begun_object_fits g.S.Source c.args.src c.in-Ok.stripped c.in-Ok.ensures.begun

pub returns-in-Ok-clause-writes : goal.returns-in-Ok-clause-writes
returns-in-Ok-clause-writes g c =
    let f = g.F.Files in
    let names = c.args.names.now in
    let next = c.join_named.new.files in
    begun_writes g.S.Source f g.O.Sink g.E.Sink names.stripped.now
    (debug_done c.args.out.now names (f.named c.args.files.now names.debug.now)) 2
    (Rose (f.read_faults c.args.files.now) (f.read_faults next)
    ⊎ (0 < g.S.Source.faults c.join_named.result.0))
    (IsSome (g.S.Source.holds c.args.src)) c.args.src (λ known. known)
    (IsTrue c.in-Ok.stripped.told) c.in-Ok.stripped c.join_named.result.1 c.args.files.now next
    c.args.outputs.now c.join_named.new.outputs c.in-Ok.ensures.answer c.in-Ok.ensures.told
    (λ known told. told) c.join_named.ensures.writes

pub returns-in-Ok-clause-leaves_stripped : goal.returns-in-Ok-clause-leaves_stripped
returns-in-Ok-clause-leaves_stripped g c =
    leaves_then g.S.Source c.args.src c.in-Ok.stripped.source c.join_named.result.0
    c.in-Ok.ensures.asks.leaves c.join_named.ensures.leaves_stripped

pub returns-in-Err-clause-writes : goal.returns-in-Err-clause-writes
returns-in-Err-clause-writes g c =
    let f = g.F.Files in
    let names = c.args.names.now in
    begun_refused g.S.Source f g.O.Sink g.E.Sink names.stripped.now
    (debug_done c.args.out.now names (f.named c.args.files.now names.debug.now)) 2 _
    (IsSome (g.S.Source.holds c.args.src)) c.args.src (λ known. known) _ _ _
    c.refuse_half-refused.result c.args.files.now c.args.outputs.now
    c.refuse_half-refused.new.outputs c.in-Err.ensures.asks c.in-Err.ensures.answer
    (λ some. inr some) c.refuse_half-refused.ensures

pub returns-in-Err-clause-leaves_stripped : goal.returns-in-Err-clause-leaves_stripped
returns-in-Err-clause-leaves_stripped g c = c.in-Err.ensures.asks.leaves
