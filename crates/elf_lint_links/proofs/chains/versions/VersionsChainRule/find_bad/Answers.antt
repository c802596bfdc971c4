use Rattle.std.proofs.Common.{None, sym, ◌∙◌}
use Rattle.elf_lint_findings.specs.gelf_view.Chains.{verdefs, verneeds}
use Rattle.elf_lint_findings.proofs.tool_objects.ElfSteps.{elf_left}
use Rattle.elf_lint_findings.proofs.tool_objects.LearnLemmas.{learns_as, learns_by}
use Rattle.elf_lint_findings.specs.Looking.{data_bytes}
use Rattle.elf_lint_links.specs.Chains.Chains.{section_bad, verdef_names_bad, verneed_names_bad, version_bad}
use Rattle.elf_lint_links.proofs.chains.ChainLemmas.{definitions_looked, needs_looked, versions_passed}
use Rattle.elf_lint_links.proofs.chains.versions.VersionsChainRule.find_bad.Goals as goal

pub returns-then-is_plain_of : goal.returns-then-is_plain_of
returns-then-is_plain_of g c =
    let s = c.args.s.0 in
    learns_as g.S.Source (λ o. version_bad o s) (λ o. section_bad (verdef_names_bad o s) (verdefs o s 0) (data_bytes o s)) _ c.args.elf.now _
    (λ told. sym (definitions_looked c.args.elf.now.o s (sym c.is_plain_of.ensures ∙ c.if-is_plain_of.true))) c.walk_entries.ensures

pub returns-then-is_plain_of-2 : goal.returns-then-is_plain_of-2
returns-then-is_plain_of-2 g c =
    let s = c.args.s.0 in
    learns_as g.S.Source (λ o. version_bad o s) (λ o. section_bad (verneed_names_bad o s) (verneeds o s 0) (data_bytes o s)) _ c.args.elf.now _
    (λ told. sym (needs_looked c.args.elf.now.o s (sym c.is_plain_of.ensures ∙ c.if-is_plain_of.false) (sym c.is_plain_of-2.ensures ∙ c.if-is_plain_of-2.true))) c.walk_entries-then-is_plain_of-2.ensures

pub returns : goal.returns
returns g c =
    let s = c.args.s.0 in
    learns_by g.S.Source (λ o. version_bad o s) None c.args.elf.now _ (elf_left g.S.Source c.args.elf.now)
    (λ told. sym (versions_passed c.args.elf.now.o s (sym c.is_plain_of.ensures ∙ c.if-is_plain_of.false) (sym c.is_plain_of-2.ensures ∙ c.if-is_plain_of-2.false)))
