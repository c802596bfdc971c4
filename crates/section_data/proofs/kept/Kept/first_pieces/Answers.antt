use Rattle.section_data.proofs.LeadingPieces.{first_none}
use Rattle.section_data.proofs.kept.Kept.first_pieces.Goals as goal

pub returns-in_default-clause-first : goal.returns-in_default-clause-first
returns-in_default-clause-first c =
    first_none c.args.self.now c.none.result.count c.none.result.end c.none.ensures.count
    c.none.ensures.end

pub returns-then-limit-end-clause-first : goal.returns-then-limit-end-clause-first
returns-then-limit-end-clause-first c =
    first_none c.args.self.now c.none-then-limit-end.result.count c.none-then-limit-end.result.end
    c.none-then-limit-end.ensures.count c.none-then-limit-end.ensures.end
