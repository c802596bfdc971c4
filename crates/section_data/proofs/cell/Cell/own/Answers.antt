use Rattle.std.proofs.Common.{Err, sym, ◌∙◌}
use Rattle.section_data.specs.Refused.{kind_refused}
use Rattle.section_data.proofs.Preparing.{passed_by}
use Rattle.section_data.proofs.Owning.{stays_same, lend_answers, lend_due_passed, owns_kind}
use Rattle.section_data.proofs.cell.Cell.own.Goals as goal

pub returns-in-Err-clause-stays : goal.returns-in-Err-clause-stays
returns-in-Err-clause-stays g c = stays_same _ c.in-Err.e c.args.self.now

pub returns-in-Err-prepare-clause-answer : goal.returns-in-Err-prepare-clause-answer
returns-in-Err-prepare-clause-answer g c =
    let passed = passed_by (kind_refused c.args.class c.args.self.now c.args.kind c.args.p) (sym c.check_lend.ensures.answer ∙ c.in_default.is) in
    lend_answers c.args.class c.args.self.now c.args.kind c.args.p (Err c.in-Err-prepare.e) passed c.in-Err-prepare.ensures.answer

pub returns-in-Err-prepare-clause-asks : goal.returns-in-Err-prepare-clause-asks
returns-in-Err-prepare-clause-asks g c =
    let passed = passed_by (kind_refused c.args.class c.args.self.now c.args.kind c.args.p) (sym c.check_lend.ensures.answer ∙ c.in_default.is) in
    rw (lend_due_passed c.args.class c.args.self.now c.args.kind c.args.p passed) c.in-Err-prepare.ensures.asks

pub returns-clause-own : goal.returns-clause-own
returns-clause-own g c =
    owns_kind c.args.class c.args.order _ c.args.self.now _ _ c.args.p c.args.kind c.prepare.ensures.warms c.prepare.ensures.items c.claim.ensures.claims
    c.in_default.ensures.there c.in_default.ensures.kind

pub returns-clause-asks : goal.returns-clause-asks
returns-clause-asks g c =
    let passed = passed_by (kind_refused c.args.class c.args.self.now c.args.kind c.args.p) (sym c.check_lend.ensures.answer ∙ c.in_default.is) in
    rw (lend_due_passed c.args.class c.args.self.now c.args.kind c.args.p passed) c.in_default-prepare.ensures.asks
