use Rattle.std.proofs.Common.{sym}
use Rattle.symbol_lookup.proofs.AtHand.{piece_there}
use Rattle.symbol_lookup.proofs.passing.raw_at_hand.Goals as goal

pub returns-in-Ok-Raw : goal.returns-in-Ok-Raw
returns-in-Ok-Raw g c =
    let held = rw c.in-Ok-Raw.field-0-is at c.in-Ok-Raw.ensures.held in record {
      there = piece_there c.args.elf.now.o c.args.s.0 (sym c.in-Ok-Raw.ensures.refusal);
      clean = held.clean;
      exact = held.exact;
    }
