use Rattle.std.proofs.Common.{ℕ, sym}
use Rattle.tool_objects.specs.elf_object.Due.{all_sections}
use Rattle.elf_lint_findings.specs.declared.places.Place.TheVariants.{Section}
use Rattle.elf_lint_findings.specs.Findings.{at_sections, finding, found_if}
use Rattle.tool_objects.proofs.ElfSteps.{elf_as}
use Rattle.elf_lint_findings.proofs.FindingLemmas.{findings_of}
use Rattle.elf_lint_findings.proofs.by_section.each_section_by.Goals as goal

pub returns : goal.returns
unfolding at_sections
returns g c =
    let r = g.R.SectionRule in
    let o = c.args.elf.now.o in
    elf_as g.S.Source g.O.Sink g.E.Sink _ _ _ c.args.elf.now _ c.args.outputs.now _
    (λ told. sym (findings_of c.args.name.now (λ (s : ℕ). found_if (r.finds o s) (finding c.args.number (Section s) c.args.text.now)) (all_sections o))) c.each_section.ensures
