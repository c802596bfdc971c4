use Rattle.c_calls.proofs.archives.Named.{room_for_name, name_given, no_name}
use Rattle.c_calls.proofs.archives.symbols.give_symbol_name.Goals as goal

pub copy_from_slice-requires : goal.copy_from_slice-requires
copy_from_slice-requires c =
    room_for_name c.args.archive.now.symbols c.args.i c.in-Some.x.now c.args.out.now
    c.as_slice.result.now c.in-Some.ensures c.as_slice.ensures c.requires

pub returns-in-Some : goal.returns-in-Some
returns-in-Some c =
    name_given c.args.archive.now.symbols c.args.i c.in-Some.x.now c.copy_from_slice.new.self
    c.as_slice.result.now c.in-Some.ensures c.as_slice.ensures c.copy_from_slice.ensures.after

pub returns-in-None : goal.returns-in-None
returns-in-None c =
    no_name c.args.archive.now.symbols c.args.i c.args.out.now c.in-None.ensures
