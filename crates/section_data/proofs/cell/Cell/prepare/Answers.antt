use Rattle.std.proofs.Common.{true, sym, ◌∙◌}
use Rattle.elf_object.proofs.AnswerLaws.{answers_refused}
use Rattle.section_data.specs.Refused.{items_refused, items_due, preparing}
use Rattle.section_data.proofs.Loading.{warms_same, due_clean}
use Rattle.section_data.proofs.Preparing.{refused_by, passed_by, due_passed, asks_nothing, home_inside, home_whole, unheld_clean, unheld_home, prepare_answers, prepare_holds}
use Rattle.section_data.proofs.cell.Cell.prepare.Goals as goal

pub returns-in-Err-clause-answer : goal.returns-in-Err-clause-answer
returns-in-Err-clause-answer g c =
    answers_refused true (preparing c.args.self.now c.args.p (items_due c.args.class c.args.self.now c.args.p)) (items_refused c.args.class c.args.self.now c.args.p) (tt {0}) c.in-Err.e c.in-Err.ensures.err
    (refused_by (items_refused c.args.class c.args.self.now c.args.p) c.in-Err.e (sym c.in-Err.ensures.answer))

pub returns-in-Err-clause-warms : goal.returns-in-Err-clause-warms
returns-in-Err-clause-warms g c = warms_same _ c.args.self.now

pub returns-in-Err-clause-asks : goal.returns-in-Err-clause-asks
returns-in-Err-clause-asks g c = asks_nothing g.S.Source c.in-Err.e c.args.src.now _ c.in-Err.ensures.err

pub returns-then-holds_items-clause-warms : goal.returns-then-holds_items-clause-warms
returns-then-holds_items-clause-warms g c = warms_same _ c.args.self.now

pub warm-requires-clause-inside : goal.warm-requires-clause-inside
warm-requires-clause-inside g c =
    let passed = passed_by (items_refused c.args.class c.args.self.now c.args.p) (sym c.check.ensures.answer ∙ c.in_default.is) in
    let unheld = sym c.holds_items.ensures.value ∙ c.if-holds_items.false in
    home_inside c.args.class c.args.self.now c.args.p passed (unheld_clean c.args.self.now c.args.p unheld)

pub warm-requires-clause-whole : goal.warm-requires-clause-whole
warm-requires-clause-whole g c =
    let passed = passed_by (items_refused c.args.class c.args.self.now c.args.p) (sym c.check.ensures.answer ∙ c.in_default.is) in
    let unheld = sym c.holds_items.ensures.value ∙ c.if-holds_items.false in
    home_whole c.args.class c.args.self.now c.args.p passed (unheld_clean c.args.self.now c.args.p unheld)

pub warm-requires-clause-unheld : goal.warm-requires-clause-unheld
warm-requires-clause-unheld g c =
    let unheld = sym c.holds_items.ensures.value ∙ c.if-holds_items.false in
    unheld_home c.args.self.now c.args.p unheld

pub returns-clause-answer : goal.returns-clause-answer
returns-clause-answer g c =
    let passed = passed_by (items_refused c.args.class c.args.self.now c.args.p) (sym c.check.ensures.answer ∙ c.in_default.is) in
    let unheld = sym c.holds_items.ensures.value ∙ c.if-holds_items.false in
    prepare_answers c.args.class c.args.self.now c.args.p c.warm.result passed unheld c.warm.ensures.err

pub returns-clause-holds : goal.returns-clause-holds
returns-clause-holds g c =
    let passed = passed_by (items_refused c.args.class c.args.self.now c.args.p) (sym c.check.ensures.answer ∙ c.in_default.is) in
    let unheld = sym c.holds_items.ensures.value ∙ c.if-holds_items.false in
    prepare_holds c.warm.result _ c.args.self.now _ c.args.p c.warm.ensures.warms (unheld_clean c.args.self.now c.args.p unheld) c.warm.ensures.holds

pub returns-clause-asks : goal.returns-clause-asks
returns-clause-asks g c =
    let passed = passed_by (items_refused c.args.class c.args.self.now c.args.p) (sym c.check.ensures.answer ∙ c.in_default.is) in
    let unheld = sym c.holds_items.ensures.value ∙ c.if-holds_items.false in
    rw (due_passed c.args.class c.args.self.now c.args.p passed ∙ due_clean c.args.self.now c.args.p (unheld_clean c.args.self.now c.args.p unheld)) c.warm.ensures.asks

pub returns-clause-own : goal.returns-clause-own
returns-clause-own g c =
    λ own. let clean = unheld_clean c.args.self.now c.args.p (sym c.holds_items.ensures.value ∙ c.if-holds_items.false) in cc
