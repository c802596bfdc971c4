use Rattle.std.proofs.Common.{refl}
use Rattle.strtab_shared.proofs.bytes.PartLaws.{not_put, text_put}
use Rattle.std.proofs.Common.{Ok, Err}
use Rattle.strtab_shared.proofs.bytes.parts.put_behind.Goals as goal

pub returns-then-not-has_room : goal.returns-then-not-has_room
returns-then-not-has_room c =
    not_put c.args.parts.now c.args.bytes.now _ c.requires refl

pub returns-in-Ok : goal.returns-in-Ok
returns-in-Ok c =
    let room = c.has_room.ensures c.if-not-has_room.false in
    text_put c.args.parts.now c.extend.new.self c.args.bytes.now (Ok tt) c.requires
    room c.in-Ok.ensures.ok tt tt

pub returns-in-Err : goal.returns-in-Err
returns-in-Err c =
    let room = c.has_room.ensures c.if-not-has_room.false in
    text_put c.args.parts.now c.extend.new.self c.args.bytes.now (Err c.in-Err.e) c.requires
    room tt c.in-Err.ensures.unchanged c.in-Err.ensures.err
