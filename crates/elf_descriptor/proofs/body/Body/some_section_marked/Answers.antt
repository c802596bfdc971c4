use Rattle.std.proofs.Common.{List, refl, sym, ap, ◌∙◌, ◌||◌, Bool, arith}
use Rattle.std.specs.List.{list_any}
use Rattle.std.proofs.lemmas.List.{take_all}
use Rattle.std.proofs.lemmas.List.Folds.{list_any_more}
use Rattle.section_table.specs.Sections.{SectionView as Scn, absent_scn}
use Rattle.elf_descriptor.specs.Views.{scn_at}
use Rattle.elf_descriptor.specs.Bodies.{is_scn_dirty}
use Rattle.elf_descriptor.proofs.Marks.{any_at}
use Rattle.elf_descriptor.proofs.body.Body.some_section_marked.Goals as goal

pub loop-s-init : goal.loop-s-init
loop-s-init c = refl

pub is_scn_dirty-requires : goal.is_scn_dirty-requires
is_scn_dirty-requires c = omega (arith, c.loop-s-test.true, c.count-s-end.ensures)

pub returns-then-is_scn_dirty : goal.returns-then-is_scn_dirty
unfolding scn_at
returns-then-is_scn_dirty c =
    sym (any_at is_scn_dirty c.args.self.now.sections c.loop-s.s absent_scn
    (omega (arith, c.loop-s-test.true, c.count-s-end.ensures))
    (sym c.is_scn_dirty.ensures ∙ c.if-is_scn_dirty.true))

pub loop-s-preserved : goal.loop-s-preserved
unfolding scn_at
loop-s-preserved c =
    list_any_more is_scn_dirty c.args.self.now.sections c.loop-s.s absent_scn
    (omega (arith, c.loop-s-test.true, c.count-s-end.ensures))
    ∙ ap (λ (b : Bool). b || is_scn_dirty (scn_at c.args.self.now c.loop-s.s)) c.loop-s.invariant
    ∙ sym c.is_scn_dirty.ensures
    ∙ c.if-is_scn_dirty.false

pub returns : goal.returns
returns c =
    sym (ap (λ (l : List Scn). list_any is_scn_dirty l)
    (sym (take_all c.loop-s.s c.args.self.now.sections
    (omega (arith, c.loop-s-test.false, c.count-s-end.ensures))))
    ∙ c.loop-s.invariant)
