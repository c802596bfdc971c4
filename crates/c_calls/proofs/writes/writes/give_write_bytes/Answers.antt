use Rattle.c_calls.proofs.writes.Named.{room_for_bytes, bytes_given_out, no_bytes}
use Rattle.c_calls.proofs.writes.writes.give_write_bytes.Goals as goal

pub copy_from_slice-requires : goal.copy_from_slice-requires
copy_from_slice-requires c =
    room_for_bytes c.args.writes.now.list c.args.i c.in-Some.x.now c.args.out.now
    c.as_slice.result.now c.in-Some.ensures c.as_slice.ensures c.requires

pub returns-in-Some : goal.returns-in-Some
returns-in-Some c =
    bytes_given_out c.args.writes.now.list c.args.i c.in-Some.x.now c.copy_from_slice.new.self
    c.as_slice.result.now c.in-Some.ensures c.as_slice.ensures c.copy_from_slice.ensures.after

pub returns-in-None : goal.returns-in-None
returns-in-None c =
    no_bytes c.args.writes.now.list c.args.i c.args.out.now c.in-None.ensures
