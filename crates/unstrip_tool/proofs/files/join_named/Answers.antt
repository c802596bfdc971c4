use Rattle.std.proofs.Common.{IsTrue, ◌<◌, ◌⊎◌, inl, inr, arith}
use Rattle.elf_outside.specs.Counts.{Rose}
use Rattle.unstrip_tool.specs.Joins.{objects_done}
use Rattle.unstrip_tool.proofs.BesideLemmas.{same_source}
use Rattle.unstrip_tool.proofs.DoneLemmas.{objects_unwritten}
use Rattle.unstrip_tool.proofs.OpenedLemmas.{closed_writes, unopened}
use Rattle.unstrip_tool.proofs.files.join_named.Goals as goal

pub join_debug-stripped-requires-clause-over : goal.join_debug-stripped-requires-clause-over
join_debug-stripped-requires-clause-over g c = c.requires.over

pub join_debug-stripped-requires-clause-clean : goal.join_debug-stripped-requires-clause-clean
join_debug-stripped-requires-clause-clean g c = c.requires.clean

pub join_debug-stripped-requires-clause-tied : goal.join_debug-stripped-requires-clause-tied
join_debug-stripped-requires-clause-tied g c = c.requires.tied

pub join_debug-stripped-requires-clause-fits : goal.join_debug-stripped-requires-clause-fits
join_debug-stripped-requires-clause-fits g c = c.requires.fits

pub returns-in-Ok-clause-writes : goal.returns-in-Ok-clause-writes
returns-in-Ok-clause-writes g c =
    let f = g.F.Files in
    let stripped = c.args.stripped in
    let names = c.args.names.now in
    let left = c.join_debug-stripped.result.0 in
    let beside = 0 < g.S.Source.faults left.0 in
    closed_writes f g.O.Sink g.E.Sink names.debug.now
    (objects_done c.args.out.now names stripped.o) _ _ 1 beside _
    c.join_debug-stripped.result.1 c.args.files.now _ c.join_debug-stripped.new.files
    c.close.new.self c.in-Ok.file left.1 c.args.outputs.now c.join_debug-stripped.new.outputs
    c.in-Ok.ensures.names c.in-Ok.ensures.hands c.join_debug-stripped.ensures.writes
    c.join_debug-stripped.ensures.leaves_debug c.close.ensures.names
    c.close.ensures.read_faults c.close.ensures.write_faults c.close.ensures.taken
    c.close.ensures.given c.close.ensures.live
    (Rose (f.read_faults c.args.files.now) (f.read_faults c.close.new.self) ⊎ beside)
    (λ some. inr some) (λ rose. inl rose) (IsTrue stripped.told) (omega arith)
    (λ debug. objects_unwritten c.args.out.now names names.debug.now c.requires.apart stripped.o
    debug)
    (λ told none. let h = (c.in-Ok.ensures.not_there told).1 none in cc) c.in-Ok.ensures.bytes
    (λ told some. (told, some))

pub returns-in-Ok-clause-leaves_stripped : goal.returns-in-Ok-clause-leaves_stripped
returns-in-Ok-clause-leaves_stripped g c = c.join_debug-stripped.ensures.leaves_stripped

pub returns-in-Err-clause-writes : goal.returns-in-Err-clause-writes
returns-in-Err-clause-writes g c =
    let f = g.F.Files in
    let stripped = c.args.stripped in
    let names = c.args.names.now in
    unopened f g.O.Sink g.E.Sink names.debug.now (objects_done c.args.out.now names stripped.o)
    _ _ 2
    (Rose (f.read_faults c.args.files.now) (f.read_faults c.open.new.self)
    ⊎ (0 < g.S.Source.faults c.end.result))
    (IsTrue stripped.told) c.args.files.now c.open.new.self c.args.outputs.now
    c.refuse_unopened-refused.new.outputs c.in-Err.ensures.names c.in-Err.fault
    c.refuse_unopened-refused.result c.in-Err.ensures.hands c.in-Err.ensures.not_there
    (λ failed. inl (c.in-Err.ensures.failed failed)) c.refuse_unopened-refused.ensures

pub returns-in-Err-clause-leaves_stripped : goal.returns-in-Err-clause-leaves_stripped
returns-in-Err-clause-leaves_stripped g c =
    rw c.end.ensures (same_source g.S.Source c.args.stripped.source)
