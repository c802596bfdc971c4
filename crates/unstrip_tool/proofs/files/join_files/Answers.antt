use Rattle.std.proofs.Common.{arith}
use Rattle.elf_outside.specs.Counts.{Rose}
use Rattle.unstrip_tool.specs.Joins.{debug_done}
use Rattle.unstrip_tool.proofs.DoneLemmas.{debug_unwritten}
use Rattle.unstrip_tool.proofs.OpenedLemmas.{closed_writes, unopened}
use Rattle.unstrip_tool.proofs.EndLemmas.{rose_around, joined_does, joined_after}
use Rattle.unstrip_tool.proofs.files.join_files.Goals as goal

pub join_stripped-file-requires : goal.join_stripped-file-requires
join_stripped-file-requires g c = c.requires.debug

pub returns-in-Ok-clause-does : goal.returns-in-Ok-clause-does
returns-in-Ok-clause-does g c = λ told.
    let f = g.F.Files in
    let names = c.args.names.now in
    let between = c.open.new.self in
    let next = c.join_stripped-file.new.files in
    joined_after f g.O.Sink g.E.Sink c.args.out.now names c.join_stripped-file.result.1
    c.args.files.now between c.close.new.self c.args.outputs.now
    c.join_stripped-file.new.outputs 3
    (Rose (f.read_faults c.args.files.now) (f.read_faults c.close.new.self))
    c.in-Ok.ensures.names
    (closed_writes f g.O.Sink g.E.Sink names.stripped.now
    (debug_done c.args.out.now names (f.named between names.debug.now)) _ _ 2
    (Rose (f.read_faults between) (f.read_faults next)) _ c.join_stripped-file.result.1
    c.args.files.now between next c.close.new.self c.in-Ok.file
    c.join_stripped-file.result.0 c.args.outputs.now c.join_stripped-file.new.outputs
    c.in-Ok.ensures.names c.in-Ok.ensures.hands c.join_stripped-file.ensures.writes
    c.join_stripped-file.ensures.leaves_stripped c.close.ensures.names
    c.close.ensures.read_faults c.close.ensures.write_faults c.close.ensures.taken
    c.close.ensures.given c.close.ensures.live
    (Rose (f.read_faults c.args.files.now) (f.read_faults c.close.new.self))
    (λ rose. rose_around _ _ _ _ c.in-Ok.ensures.hands.read_faults
    c.close.ensures.read_faults.later rose)
    (λ rose. rose) (Unit {0}) (omega arith)
    (λ stripped. debug_unwritten c.args.out.now names names.stripped.now c.requires.stripped
    (f.named between names.debug.now) stripped)
    (λ told none. let h = (c.in-Ok.ensures.not_there told).1 none in cc) c.in-Ok.ensures.bytes
    (λ known some. some))
    told

pub returns-in-Ok-clause-leaves : goal.returns-in-Ok-clause-leaves
returns-in-Ok-clause-leaves g c =
    let f = g.F.Files in
    let names = c.args.names.now in
    let between = c.open.new.self in
    let next = c.join_stripped-file.new.files in
    let beside = closed_writes f g.O.Sink g.E.Sink names.stripped.now
    (debug_done c.args.out.now names (f.named between names.debug.now)) _ _ 2
    (Rose (f.read_faults between) (f.read_faults next)) _ c.join_stripped-file.result.1
    c.args.files.now between next c.close.new.self c.in-Ok.file
    c.join_stripped-file.result.0 c.args.outputs.now c.join_stripped-file.new.outputs
    c.in-Ok.ensures.names c.in-Ok.ensures.hands c.join_stripped-file.ensures.writes
    c.join_stripped-file.ensures.leaves_stripped c.close.ensures.names
    c.close.ensures.read_faults c.close.ensures.write_faults c.close.ensures.taken
    c.close.ensures.given c.close.ensures.live
    (Rose (f.read_faults c.args.files.now) (f.read_faults c.close.new.self))
    (λ rose. rose_around _ _ _ _ c.in-Ok.ensures.hands.read_faults
    c.close.ensures.read_faults.later rose)
    (λ rose. rose) (Unit {0}) (omega arith)
    (λ stripped. debug_unwritten c.args.out.now names names.stripped.now c.requires.stripped
    (f.named between names.debug.now) stripped)
    (λ told none. let h = (c.in-Ok.ensures.not_there told).1 none in cc) c.in-Ok.ensures.bytes
    (λ known some. some) in
    beside.leaves

pub returns-in-Err-clause-does : goal.returns-in-Err-clause-does
returns-in-Err-clause-does g c = λ told.
    let f = g.F.Files in
    let names = c.args.names.now in
    let rose = Rose (f.read_faults c.args.files.now) (f.read_faults c.open.new.self) in
    joined_does f g.O.Sink g.E.Sink c.args.out.now names c.refuse_unopened.result
    c.args.files.now c.open.new.self c.args.outputs.now c.refuse_unopened.new.outputs 3 rose
    (unopened f g.O.Sink g.E.Sink names.stripped.now
    (debug_done c.args.out.now names (f.named c.args.files.now names.debug.now)) _ _ 3 rose
    (Unit {0}) c.args.files.now c.open.new.self c.args.outputs.now
    c.refuse_unopened.new.outputs c.in-Err.ensures.names c.in-Err.fault
    c.refuse_unopened.result c.in-Err.ensures.hands c.in-Err.ensures.not_there
    c.in-Err.ensures.failed c.refuse_unopened.ensures)
    told

pub returns-in-Err-clause-leaves : goal.returns-in-Err-clause-leaves
returns-in-Err-clause-leaves g c =
    let f = g.F.Files in
    let names = c.args.names.now in
    let rose = Rose (f.read_faults c.args.files.now) (f.read_faults c.open.new.self) in
    let beside = unopened f g.O.Sink g.E.Sink names.stripped.now
    (debug_done c.args.out.now names (f.named c.args.files.now names.debug.now)) _ _ 3 rose
    (Unit {0}) c.args.files.now c.open.new.self c.args.outputs.now
    c.refuse_unopened.new.outputs c.in-Err.ensures.names c.in-Err.fault
    c.refuse_unopened.result c.in-Err.ensures.hands c.in-Err.ensures.not_there
    c.in-Err.ensures.failed c.refuse_unopened.ensures in
    beside.leaves
