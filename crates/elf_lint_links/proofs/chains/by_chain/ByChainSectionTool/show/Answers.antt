use Rattle.std.proofs.Common.{ℕ, Option, Some, None}
use Rattle.elf_lint_findings.specs.elf_object.Object.{Object}
use Rattle.elf_lint_findings.proofs.tool_objects.ElfSteps.{elf_left, elf_says, elf_says_none, elf_learns, elf_learns_none}
use Rattle.elf_lint_findings.specs.Findings.{findings_shown}
use Rattle.elf_lint_findings.proofs.FindingLemmas.{no_findings}
use Rattle.elf_lint_links.specs.Chains.Chains.{chain_found}
use Rattle.elf_lint_links.proofs.chains.by_chain.ByChainSectionTool.show.Goals as goal

pub returns-in-Ok-Some : goal.returns-in-Ok-Some
returns-in-Ok-Some g c =
    let t = c.args.self.now in
    let bad = λ (o : Object). g.R.ChainRule.bad o c.args.s.0 in
    let report = λ (v : Option ℕ) (o : Object). findings_shown t.name.now (chain_found t.number c.args.s.0 v) in
    elf_learns g.S.Source g.O.Sink g.E.Sink bad c.args.elf.now _ (Some c.in-Ok-Some.at) report _ _ c.args.outputs.now _
    (rw c.in-Ok-Some.field-0-is at c.in-Ok-Some.ensures)
    (elf_says g.S.Source g.O.Sink g.E.Sink (report (Some c.in-Ok-Some.at)) _ c.find_bad.new.elf _ c.args.outputs.now _ (elf_left g.S.Source c.find_bad.new.elf)
    (λ told. c.find.ensures.reports) c.find.ensures.leaves)

pub returns-in-Ok-None : goal.returns-in-Ok-None
returns-in-Ok-None g c =
    let t = c.args.self.now in
    let bad = λ (o : Object). g.R.ChainRule.bad o c.args.s.0 in
    let report = λ (v : Option ℕ) (o : Object). findings_shown t.name.now (chain_found t.number c.args.s.0 v) in
    elf_learns g.S.Source g.O.Sink g.E.Sink bad c.args.elf.now _ None report _ _ c.args.outputs.now _
    (rw c.in-Ok-None.field-0-is at c.in-Ok-None.ensures)
    (elf_says_none g.S.Source g.O.Sink g.E.Sink (report None) c.find_bad.new.elf _ c.args.outputs.now (elf_left g.S.Source c.find_bad.new.elf) (λ told. no_findings t.name.now))

pub returns-in-Err : goal.returns-in-Err
returns-in-Err g c =
    elf_learns_none g.S.Source g.O.Sink g.E.Sink _ c.args.elf.now _ _ _ c.args.outputs.now c.in-Err.ensures
