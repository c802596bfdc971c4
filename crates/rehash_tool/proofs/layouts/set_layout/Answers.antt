use Rattle.rehash_tool.proofs.RehashLemmas.{layout_set, layout_allowed}
use Rattle.rehash_tool.proofs.layouts.set_layout.Goals as goal

pub unreachable-requires : goal.unreachable-requires
unreachable-requires g c = layout_allowed c.args.elf.now.o _ _ c.in-Err.ensures.answer

pub returns : goal.returns
returns g c = layout_set c.args.elf.now c.flag.new.self c.in-Ok.ensures.state
