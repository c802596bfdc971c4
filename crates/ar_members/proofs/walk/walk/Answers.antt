use Rattle.std.proofs.Common.{◌<◌, ◌≤◌, Some, refl, ap, subst}
use Rattle.std.proofs.lemmas.Result.{err_from_is_err_and}
use Rattle.ar_members.specs.declared.entries.Entry.TheVariants.{LongNames, Passed}
use Rattle.ar_members.specs.Steps.{entry_of, asked_of}
use Rattle.ar_members.proofs.WalkLemmas.{walked_more, walked_to, walked_past, walked_refused, walked_due, walked_end}
use Rattle.ar_members.proofs.walk.walk.Goals as goal

pub returns-in_err-entry-clause-members : goal.returns-in_err-entry-clause-members
returns-in_err-entry-clause-members g c =
    let before = subst (λ n. c.loop-at.at < n) c.len-size.ensures.size c.loop-at-test.true in
    let p = err_from_is_err_and c.from_residual.result c.from_residual.ensures.1 in
    rw (p.1, p.2) (walked_refused g.S.Source c.args.place c.args.names.now c.args.src.now c.loop-at.src c.loop-at.met c.loop-at.at c.loop-at.invariant before (g.met.S.Source.sized c.args.src.now)
    c.known.result.now c.known.ensures c.in_err-entry.field-0.0 c.in_err-entry.ensures.refusals c.in_err-entry.ensures.entry)

pub returns-in_err-entry-clause-due : goal.returns-in_err-entry-clause-due
returns-in_err-entry-clause-due g c =
    let before = subst (λ n. c.loop-at.at < n) c.len-size.ensures.size c.loop-at-test.true in
    walked_due g.S.Source c.args.place c.args.names.now c.args.src.now c.loop-at.src c.loop-at.met c.loop-at.at c.loop-at.invariant before (g.met.S.Source.sized c.args.src.now)
    c.known.result.now c.known.ensures c.step_at.new.src c.in_err-entry.ensures.due

pub returns-in-Member-clause-members : goal.returns-in-Member-clause-members
returns-in-Member-clause-members g c =
    let before = subst (λ n. c.loop-at.at < n) c.len-size.ensures.size c.loop-at-test.true in
    walked_to g.S.Source c.args.place c.args.names.now c.args.src.now c.loop-at.src c.loop-at.met c.loop-at.at c.loop-at.invariant before (g.met.S.Source.sized c.args.src.now)
    c.known.result.now c.known.ensures c.in_ok-entry.field-0 c.in-Member.header c.in-Member.is c.in_ok-entry.ensures.entry

pub returns-in-Member-clause-due : goal.returns-in-Member-clause-due
returns-in-Member-clause-due g c =
    let before = subst (λ n. c.loop-at.at < n) c.len-size.ensures.size c.loop-at-test.true in
    walked_due g.S.Source c.args.place c.args.names.now c.args.src.now c.loop-at.src c.loop-at.met c.loop-at.at c.loop-at.invariant before (g.met.S.Source.sized c.args.src.now)
    c.known.result.now c.known.ensures c.step_at.new.src c.in_ok-entry.ensures.due

pub returns-in-Member-clause-left : goal.returns-in-Member-clause-left
returns-in-Member-clause-left g c =
    let before = subst (λ n. c.loop-at.at < n) c.len-size.ensures.size c.loop-at-test.true in
    walked_past g.S.Source c.args.place c.args.names.now c.args.src.now c.loop-at.src c.loop-at.met
    c.loop-at.at c.loop-at.invariant before (g.met.S.Source.sized c.args.src.now)
    c.known.result.now c.known.ensures c.step_at.new.src c.in_ok-entry.field-0 c.in-Member.header
    c.in-Member.is c.in_ok-entry.ensures.asks.taken.no_more c.in_ok-entry.ensures.entry

pub loop-at-preserved-in-LongNames : goal.loop-at-preserved-in-LongNames
loop-at-preserved-in-LongNames g c =
    let before = subst (λ n. c.loop-at.at < n) c.len-size.ensures.size c.loop-at-test.true in
    let step = c.in_ok-entry.field-0 in
    let e = entry_of c.known.result.now step.next (LongNames c.in-LongNames.more) in
    walked_more g.S.Source c.args.place c.args.names.now c.args.src.now c.loop-at.src c.loop-at.met c.loop-at.at c.loop-at.invariant before (g.met.S.Source.sized c.args.src.now)
    c.known.result.now c.known.ensures c.step_at.new.src (Some c.in-LongNames.more) step e (ap (entry_of c.known.result.now step.next) c.in-LongNames.is) (ap asked_of c.in-LongNames.is) refl refl refl
    c.in_ok-entry.ensures.lies c.in_ok-entry.ensures.asks c.in_ok-entry.ensures.entry

pub loop-at-preserved : goal.loop-at-preserved
loop-at-preserved g c =
    let before = subst (λ n. c.loop-at.at < n) c.len-size.ensures.size c.loop-at-test.true in
    let step = c.in_ok-entry.field-0 in
    let e = entry_of c.known.result.now step.next Passed in
    walked_more g.S.Source c.args.place c.args.names.now c.args.src.now c.loop-at.src c.loop-at.met c.loop-at.at c.loop-at.invariant before (g.met.S.Source.sized c.args.src.now)
    c.known.result.now c.known.ensures c.step_at.new.src c.loop-at.met step e (ap (entry_of c.known.result.now step.next) c.in-Passed.is) (ap asked_of c.in-Passed.is) refl refl c.known.ensures
    c.in_ok-entry.ensures.lies c.in_ok-entry.ensures.asks c.in_ok-entry.ensures.entry

pub returns-clause-left : goal.returns-clause-left
returns-clause-left g c = c.loop-at.invariant.left

pub returns-clause-members : goal.returns-clause-members
returns-clause-members g c =
    walked_end g.S.Source c.args.place c.args.names.now c.args.src.now c.loop-at.src c.loop-at.met c.loop-at.at c.loop-at.invariant (subst (λ n. n ≤ c.loop-at.at) c.len-size.ensures.size c.loop-at-test.false)
    (g.met.S.Source.sized c.args.src.now)
