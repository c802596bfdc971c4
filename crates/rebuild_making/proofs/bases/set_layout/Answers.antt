use Rattle.rebuild_making.proofs.BaseLaws.{layout_set, layout_allowed}
use Rattle.rebuild_making.proofs.bases.set_layout.Goals as goal

pub unreachable-requires : goal.unreachable-requires
unreachable-requires g c = layout_allowed c.args.elf.now.o _ _ c.in-Err.ensures.answer

pub returns : goal.returns
returns g c = layout_set c.args.elf.now c.flag.new.self c.in-Ok.ensures.state
