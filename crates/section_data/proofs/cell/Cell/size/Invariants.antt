use Rattle.std.proofs.Common.{◌≡◌, ◌<◌, ◌^◌, drop}
use Rattle.section_data.specs.Sizes.{data_size, stacked_end}
use Rattle.section_data.proofs.cell.Cell.size.Given as goal

abbrev pub invariant-loop-p : goal.invariant-loop-p
invariant-loop-p l =
    (l.end < 2 ^ 64) × (data_size l.class l.self ≡ stacked_end l.class l.home_len l.end (drop l.p l.self.pieces))
