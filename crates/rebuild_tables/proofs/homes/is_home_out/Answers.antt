use Rattle.rebuild_tables.proofs.HomeLaws.{out_value, out_never}
use Rattle.rebuild_tables.proofs.homes.is_home_out.Goals as goal

pub unreachable-requires : goal.unreachable-requires
unreachable-requires g c =
    out_never c.args.elf.now.o c.args.s.0 _ c.requires c.in-Err.ensures.value

pub returns : goal.returns
returns g c = out_value c.args.elf.now.o c.args.s.0 c.in-Ok.out c.in-Ok.ensures.value
