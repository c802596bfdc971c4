use Rattle.std.proofs.Common.{ℕ, sym}
use Rattle.elf_lint_findings.specs.elf_object.Due.{all_sections}
use Rattle.elf_lint_findings.proofs.tool_objects.ElfSteps.{elf_as}
use Rattle.elf_lint_findings.proofs.FindingLemmas.{findings_of}
use Rattle.elf_lint_links.specs.Chains.Chains.{at_bad_chains, chain_found}
use Rattle.elf_lint_links.proofs.chains.by_chain.each_bad_chain.Goals as goal

pub returns : goal.returns
unfolding at_bad_chains
returns g c =
    let r = g.R.ChainRule in
    let o = c.args.elf.now.o in
    elf_as g.S.Source g.O.Sink g.E.Sink _ _ _ c.args.elf.now _ c.args.outputs.now _
    (λ told. sym (findings_of c.args.name.now (λ (s : ℕ). chain_found c.args.number s (r.bad o s)) (all_sections o))) c.each_section.ensures
