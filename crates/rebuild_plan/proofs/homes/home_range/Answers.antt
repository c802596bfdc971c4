use Rattle.std.proofs.Common.{refl, sym, ◌∙◌}
use Rattle.rebuild_plan.proofs.RangeLaws.{range_same}
use Rattle.rebuild_plan.proofs.homes.home_range.Goals as goal

pub returns-then-is_home_out : goal.returns-then-is_home_out
returns-then-is_home_out g c = (sym c.is_home_out.ensures ∙ c.if-is_home_out.true, refl)

pub returns : goal.returns
returns g c = (
  sym c.is_home_out.ensures ∙ c.if-is_home_out.false,
  range_same c.args.elf.now.o c.args.s.0 _ _ c.base_place.result c.extent-at.ensures.at
      c.extent-at.ensures.len c.base_place.ensures,
)
