use Rattle.std.proofs.Common.{List, length, refl, ap, ◌∙◌, arith}
use Rattle.std.proofs.lemmas.List.{length-set}
use Rattle.section_table.specs.Sections.{SectionView as Scn}
use Rattle.elf_descriptor.specs.Views.{scn_at}
use Rattle.elf_descriptor.proofs.EditSteps.{section_marked}
use Rattle.elf_descriptor.proofs.body.Body.mark_section.Goals as goal

pub returns-clause-step : goal.returns-clause-step
unfolding scn_at
returns-clause-step c =
    section_marked c.args.self.now _ c.args.s (scn_at c.args.self.now c.args.s) refl refl
    c.mark.ensures

pub returns-clause-there : goal.returns-clause-there
returns-clause-there c =
    let same = ap (λ (l : List Scn). length l) c.mark.ensures
    ∙ length-set c.args.self.now.sections c.args.s _ in
    omega (arith, same, c.requires)
