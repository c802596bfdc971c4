use Rattle.std.proofs.Common.{◌≡◌, ℕ, true, sym, ◌∙◌, subst, arith}
use Rattle.hash_model.specs.HashSections.{is_on}
use Rattle.elf_lint_hashes.specs.Paths.{chain_from}
use Rattle.elf_lint_hashes.proofs.PathLaws.{self_leads}
use Rattle.elf_lint_hashes.proofs.paths.is_met.Goals as goal

pub loop-step-init : goal.loop-step-init
loop-step-init c = λ on. on

pub loop-step-preserved : goal.loop-step-preserved
loop-step-preserved c = λ on. c.loop-step.invariant (c.next_by-at.ensures c.args.i on)

pub returns-then-from-i : goal.returns-then-from-i
returns-then-from-i c = λ told.
    let same : c.loop-step.at ≡ c.args.i = omega arith in
    c.loop-step.invariant (subst (λ (k : ℕ).
    is_on k (chain_from c.args.words.now c.args.t c.loop-step.at) ≡ true) same
    (self_leads c.args.words.now c.args.t c.args.paths.now c.requires c.loop-step.at (omega arith)
    (sym c.is_known.ensures ∙ c.if-not-is_known.false)))
