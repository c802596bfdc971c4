-- One section more is made.
use Rattle.std.proofs.Common.{List, length, ap, ◌∙◌, arith}
use Rattle.section_table.specs.Sections.{SectionView as Scn, new_scn}
use Rattle.elf_descriptor.proofs.EditSections.{none_new, one_new, new_count}
use Rattle.elf_descriptor.proofs.body.edits.sections.first_scns.Goals as goal

pub loop-number-init : goal.loop-number-init
loop-number-init c = none_new _ c.new-sections.ensures

pub push_new-requires : goal.push_new-requires
push_new-requires c =
    let long = ap (λ (l : List Scn). length l) c.loop-number.invariant
    ∙ new_count 0 c.loop-number.number in
    omega (arith, long, c.loop-number-test.true, c.requires)

pub loop-number-preserved : goal.loop-number-preserved
loop-number-preserved c =
    let long = ap (λ (l : List Scn). length l) c.loop-number.invariant
    ∙ new_count 0 c.loop-number.number in
    one_new c.loop-number.number c.loop-number.sections _ (new_scn (length c.loop-number.sections))
    c.loop-number.invariant
    (ap new_scn long) c.in_ok-push_new.ensures.ok
