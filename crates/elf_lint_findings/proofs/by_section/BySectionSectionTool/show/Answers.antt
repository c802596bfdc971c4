use Rattle.std.proofs.Common.{Bool}
use Rattle.tool_objects.specs.elf_object.Object.{Object}
use Rattle.elf_lint_findings.specs.declared.places.Place.TheVariants.{Section}
use Rattle.elf_lint_findings.specs.Findings.{finding, findings_shown, found_if}
use Rattle.tool_objects.proofs.ElfSteps.{elf_left, elf_says, elf_learns, elf_learns_none}
use Rattle.elf_lint_findings.proofs.by_section.BySectionSectionTool.show.Goals as goal

pub returns-in-Ok : goal.returns-in-Ok
returns-in-Ok g c =
    let t = c.args.self.now in
    let finds = λ (o : Object). g.R.SectionRule.finds o c.args.s.0 in
    let report = λ (b : Bool) (o : Object). findings_shown t.name.now (found_if b (finding t.number (Section c.args.s.0) t.text.now)) in
    elf_learns g.S.Source g.O.Sink g.E.Sink finds c.args.elf.now _ c.in-Ok.holds report _ _ c.args.outputs.now _ c.in-Ok.ensures
    (elf_says g.S.Source g.O.Sink g.E.Sink (report c.in-Ok.holds) _ c.finds.new.elf _ c.args.outputs.now _ (elf_left g.S.Source c.finds.new.elf)
    (λ told. c.find_if.ensures.reports) c.find_if.ensures.leaves)

pub returns-in-Err : goal.returns-in-Err
returns-in-Err g c =
    elf_learns_none g.S.Source g.O.Sink g.E.Sink _ c.args.elf.now _ _ _ c.args.outputs.now c.in-Err.ensures
