use Rattle.rebuild_join.specs.elf_descriptor.Reads.{wanted}
use Rattle.rebuild_join.specs.rebuild_select.Calls as calls
use Rattle.rebuild_join.proofs.rebuild_keep.WholeLaws.{clean_stays, removable_stays}
use Rattle.rebuild_files.proofs.BegunLemmas.{over_stays}
use Rattle.unstrip_tool.proofs.WriteLemmas.{removed_written, removed_refused}
use Rattle.unstrip_tool.proofs.writing.write_halves.Goals as goal

pub write_unless_lost-requires-clause-over : goal.write_unless_lost-requires-clause-over
write_unless_lost-requires-clause-over g c =
    over_stays g.S.Source c.args.elf c.removed.new.elf c.requires.over
    c.in-Ok.ensures.queries.object c.in-Ok.ensures.queries.reads.told
    c.in-Ok.ensures.queries.reads.source.leaves

pub write_unless_lost-requires-clause-clean : goal.write_unless_lost-requires-clause-clean
write_unless_lost-requires-clause-clean g c =
    clean_stays c.args.elf c.removed.new.elf c.in-Ok.ensures.queries.object
    c.in-Ok.ensures.queries.reads.told c.requires.clean

pub write_unless_lost-requires-clause-removable : goal.write_unless_lost-requires-clause-removable
write_unless_lost-requires-clause-removable g c =
    removable_stays c.args.elf c.removed.new.elf c.in-Ok.ensures.queries.object
    c.in-Ok.ensures.queries.reads.told c.in-Ok.set c.in-Ok.ensures.removable

pub returns-in-Ok : goal.returns-in-Ok
returns-in-Ok g c =
    let command = c.args.command.now in
    removed_written g.S.Source g.F.Files g.O.Sink g.E.Sink c.args.file.now command.halves.now
    command.debug_only command.names.now
    (wanted (calls.removed command.debug_only command.names.now) c.args.elf) c.args.elf
    c.removed.new.elf c.write_unless_lost.result.0 c.in-Ok.set c.write_unless_lost.result.1
    c.args.files.now _ c.args.outputs.now _ c.in-Ok.ensures.answer c.in-Ok.ensures.queries
    c.write_unless_lost.ensures

pub returns-in-Err : goal.returns-in-Err
returns-in-Err g c =
    let command = c.args.command.now in
    rw c.end.ensures (removed_refused g.S.Source g.F.Files g.O.Sink g.E.Sink c.args.file.now
    command.halves.now command.debug_only command.names.now
    (wanted (calls.removed command.debug_only command.names.now) c.args.elf) c.args.elf
    c.removed.new.elf c.in-Err.e c.refuse_for-refused.result c.args.files.now
    c.args.outputs.now _ c.in-Err.ensures.answer c.in-Err.ensures.queries
    c.refuse_for-refused.ensures)
