use Rattle.std.proofs.Common.{ℕ, ◌-◌, ◌+◌, ◌≡◌, arith, sym, subst, ◌∙◌}
use Rattle.symbol_lookup.proofs.FollowLaws.{same_follows}
use Rattle.symbol_lookup.proofs.WalkLaws.{Walking, walk_begins, walk_goes, walk_stops, search_stops, walk_done, walk_out, search_done}
use Rattle.symbol_lookup.proofs.walking.find_from.Goals as goal

pub loop-taken-init : goal.loop-taken-init
loop-taken-init g c = walk_begins g.S.Source c.args.h.0 c.args.s.0 c.args.name.now c.args.start c.args.elf.now (c.count-steps.result - 0) (omega (arith, c.count-steps.ensures)) c.requires.index

pub returns-then-walk-eq0-clause-follows : goal.returns-then-walk-eq0-clause-follows
returns-then-walk-eq0-clause-follows g c = walk_done g.S.Source c.args.h.0 c.args.s.0 c.args.name.now c.args.start c.args.elf.now c.loop-taken.elf c.loop-taken.walk (c.count-steps.result - c.loop-taken.taken) c.loop-taken.invariant c.if-walk-eq0.true

pub returns-then-walk-eq0-clause-searches : goal.returns-then-walk-eq0-clause-searches
returns-then-walk-eq0-clause-searches g c = search_done g.S.Source c.args.h.0 c.args.s.0 c.args.name.now c.args.start c.args.elf.now c.loop-taken.elf c.loop-taken.walk (c.count-steps.result - c.loop-taken.taken) c.loop-taken.invariant _ tt

pub returns-in-Err-clause-follows : goal.returns-in-Err-clause-follows
returns-in-Err-clause-follows g c =
    let left : ℕ = c.count-steps.result - (c.loop-taken.taken + 1) in
    let one_less : c.count-steps.result - c.loop-taken.taken ≡ left + 1 = omega (arith, c.loop-taken-test.true) in
    walk_stops g.S.Source c.args.h.0 c.args.s.0 c.args.name.now c.args.start c.args.elf.now c.loop-taken.elf c.loop-taken.walk left
    (subst (λ (n : ℕ). Walking g.S.Source c.args.h.0 c.args.s.0 c.args.name.now c.args.start c.args.elf.now c.loop-taken.elf c.loop-taken.walk n) one_less c.loop-taken.invariant)
    c.if-walk-eq0.false c.in-Err.e c.in-Err.ensures.follows

pub returns-in-Err-clause-searches : goal.returns-in-Err-clause-searches
returns-in-Err-clause-searches g c =
    let left : ℕ = c.count-steps.result - (c.loop-taken.taken + 1) in
    let one_less : c.count-steps.result - c.loop-taken.taken ≡ left + 1 = omega (arith, c.loop-taken-test.true) in
    search_stops g.S.Source c.args.h.0 c.args.s.0 c.args.name.now c.args.start c.args.elf.now c.loop-taken.elf c.loop-taken.walk left
    (subst (λ (n : ℕ). Walking g.S.Source c.args.h.0 c.args.s.0 c.args.name.now c.args.start c.args.elf.now c.loop-taken.elf c.loop-taken.walk n) one_less c.loop-taken.invariant)
    c.if-walk-eq0.false c.in-Err.e c.look_on.new.elf c.in-Err.ensures.searches

pub loop-taken-preserved : goal.loop-taken-preserved
loop-taken-preserved g c =
    let left : ℕ = c.count-steps.result - (c.loop-taken.taken + 1) in
    let one_less : c.count-steps.result - c.loop-taken.taken ≡ left + 1 = omega (arith, c.loop-taken-test.true) in
    walk_goes g.S.Source c.args.h.0 c.args.s.0 c.args.name.now c.args.start c.args.elf.now c.loop-taken.elf c.loop-taken.walk left
    (subst (λ (n : ℕ). Walking g.S.Source c.args.h.0 c.args.s.0 c.args.name.now c.args.start c.args.elf.now c.loop-taken.elf c.loop-taken.walk n) one_less c.loop-taken.invariant)
    c.if-walk-eq0.false c.in-Ok.later c.look_on.new.elf c.in-Ok.ensures.stays c.in-Ok.ensures.index c.in-Ok.ensures.searches c.in-Ok.ensures.follows

pub returns-clause-follows : goal.returns-clause-follows
returns-clause-follows g c = λ told.
    same_follows c.end_of.result _
    (c.end_of.ensures.value
    ∙ sym (walk_out g.S.Source c.args.h.0 c.args.s.0 c.args.name.now c.args.start c.args.elf.now c.loop-taken.elf c.loop-taken.walk (c.count-steps.result - c.loop-taken.taken) c.loop-taken.invariant (omega (arith, c.loop-taken-test.false)) told))

pub returns-clause-searches : goal.returns-clause-searches
returns-clause-searches g c = search_done g.S.Source c.args.h.0 c.args.s.0 c.args.name.now c.args.start c.args.elf.now c.loop-taken.elf c.loop-taken.walk (c.count-steps.result - c.loop-taken.taken) c.loop-taken.invariant c.end_of.result c.end_of.ensures.bad
