use Rattle.std.proofs.Common.{sym, ◌∙◌, arith}
use Rattle.rebuild_tables.proofs.FindLaws.{extent_found}
use Rattle.rebuild_tables.proofs.finding.find_table.Goals as goal

pub returns : goal.returns
returns g c =
    extent_found c.args.elf.now.o c.args.s.0 c.args.size _ _ c.whole_table.result
    (sym c.is_home_out.ensures ∙ c.if-is_home_out.false) c.extent-at.ensures.at c.extent-at.ensures.len
    (omega (arith, c.lie_within.ensures c.if-not-lie_within.false, c.base_len.ensures))
    c.whole_table.ensures
