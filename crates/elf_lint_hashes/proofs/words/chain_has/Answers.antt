use Rattle.std.proofs.Common.{◌≡◌, ℕ, false, ◌-◌, ◌+◌, suc, sym, ap, ◌∙◌, arith}
use Rattle.elf_lint_hashes.proofs.SysvWords.{left, left_begins, left_ends, left_stops, left_more, left_past}
use Rattle.elf_lint_hashes.proofs.words.chain_has.Goals as goal

pub loop-step-init : goal.loop-step-init
loop-step-init c =
    let w = c.args.words.now in
    ap (λ (n : ℕ). left w c.args.t c.args.i false n c.args.first)
    (let same : c.args.t.nchain - 0 ≡ c.args.t.nchain = omega arith in same)
    ∙ left_begins w c.args.t c.args.i c.args.first

pub returns-then-at-eq0 : goal.returns-then-at-eq0
returns-then-at-eq0 c =
    let t = c.args.t in
    let n = t.nchain - c.loop-step.step in
    left_ends c.args.words.now t c.args.i c.loop-step.met n
    ∙ ap (λ (k : ℕ). left c.args.words.now t c.args.i c.loop-step.met n k) (sym c.if-at-eq0.true)
    ∙ c.loop-step.invariant

pub returns-then-at-eq0-2 : goal.returns-then-at-eq0-2
returns-then-at-eq0-2 c =
    let t = c.args.t in
    let n = t.nchain - c.loop-step.step in
    left_ends c.args.words.now t c.args.i c.loop-step.met n
    ∙ ap (λ (k : ℕ). left c.args.words.now t c.args.i c.loop-step.met n k) (sym c.if-at-eq0-2.true)
    ∙ c.loop-step.invariant

pub loop-step-preserved : goal.loop-step-preserved
loop-step-preserved c =
    let t = c.args.t in
    let step = c.loop-step.step in
    let one : t.nchain - step ≡ suc (t.nchain - (step + 1)) =
    omega (arith, c.loop-step-test.true) in
    left_more c.args.words.now t c.args.i c.loop-step.met (t.nchain - (step + 1)) (t.nchain - step)
    c.loop-step.at c.from.result c.in-Some.next one c.from.ensures c.if-at-eq0.false
    c.in-Some.ensures ∙ c.loop-step.invariant

pub returns-in-None : goal.returns-in-None
returns-in-None c =
    let t = c.args.t in
    let step = c.loop-step.step in
    let one : t.nchain - step ≡ suc (t.nchain - (step + 1)) =
    omega (arith, c.loop-step-test.true) in
    left_past c.args.words.now t c.args.i c.loop-step.met (t.nchain - (step + 1)) (t.nchain - step)
    c.loop-step.at one c.if-at-eq0.false c.in-None.ensures ∙ c.loop-step.invariant

pub returns : goal.returns
returns c =
    let t = c.args.t in
    let none : 0 ≡ t.nchain - c.loop-step.step = omega (arith, c.loop-step-test.false) in
    left_stops c.args.words.now t c.args.i c.loop-step.met c.loop-step.at c.if-at-eq0-2.false
    ∙ ap (λ (n : ℕ). left c.args.words.now t c.args.i c.loop-step.met n c.loop-step.at) none
    ∙ c.loop-step.invariant
