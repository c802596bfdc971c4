use Rattle.std.proofs.Common.{◌∙◌, sym}
use Rattle.elf_update_in_place.proofs.RoomLaws.{out_never, raw_ok, keeps_reserved, wants_only}
use Rattle.elf_update_in_place.proofs.rooms.reserve_one.Goals as goal

pub returns-then-home_is_out-clause-room : goal.returns-then-home_is_out-clause-room
returns-then-home_is_out-clause-room g c =
    out_never c.args.elf.now c.args.s c.home_is_out.result c.home_is_out.ensures
    c.if-home_is_out.true

pub returns-clause-aside : goal.returns-clause-aside
returns-clause-aside g c =
    keeps_reserved c.reserve_home.result c.args.elf.now c.reserve_home.new.self c.args.s _
    c.reserve_home.ensures.edits

pub returns-clause-err : goal.returns-clause-err
returns-clause-err g c =
    wants_only c.reserve_home.result tt c.args.elf.now c.reserve_home.new.self _ _
    c.reserve_home.ensures.edits
    (raw_ok c.args.elf.now.o c.args.s c.requires (sym c.home_is_out.ensures ∙ c.if-home_is_out.false))
