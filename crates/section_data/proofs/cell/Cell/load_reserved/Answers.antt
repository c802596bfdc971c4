use Rattle.std.proofs.Common.{sym, ◌∙◌}
use Rattle.section_data.proofs.Loading.{due_unread}
use Rattle.section_data.proofs.Reserving.{fills_same, reserved_answers, reserved_errs, room_inside}
use Rattle.section_data.proofs.cell.Cell.load_reserved.Goals as goal

pub returns-then-is_loaded-clause-fills : goal.returns-then-is_loaded-clause-fills
returns-then-is_loaded-clause-fills g c = fills_same _ c.args.self.now (sym c.is_loaded.ensures.value ∙ c.if-is_loaded.true)

pub returns-clause-answer : goal.returns-clause-answer
returns-clause-answer g c =
    let unread = sym c.is_loaded.ensures.value ∙ c.if-is_loaded.false in
    let inside = room_inside c.args.self.now c.is_loaded.ensures.cell c.requires.room unread in
    reserved_answers c.args.self.now c.fill_room.result unread inside (rw c.self.view_is at c.fill_room.ensures.err)

pub returns-clause-asks : goal.returns-clause-asks
returns-clause-asks g c =
    let unread = sym c.is_loaded.ensures.value ∙ c.if-is_loaded.false in
    let inside = room_inside c.args.self.now c.is_loaded.ensures.cell c.requires.room unread in
    rw (due_unread c.args.self.now unread inside) (rw c.self.view_is at c.fill_room.ensures.asks)

pub returns-clause-err : goal.returns-clause-err
returns-clause-err g c =
    let unread = sym c.is_loaded.ensures.value ∙ c.if-is_loaded.false in
    let inside = room_inside c.args.self.now c.is_loaded.ensures.cell c.requires.room unread in
    reserved_errs c.args.self.now c.fill_room.result unread inside (rw c.self.view_is at c.fill_room.ensures.err)
