use Rattle.std.proofs.Common.{◌≡◌, refl, sym, subst}
use Rattle.std.specs.Prelude.{OnOk, OnErr, IsTrue}
use Rattle.section_table.specs.section_data.Held.{cell_is_loaded}
use Rattle.section_table.specs.section_data.Leaves.{LiesIn}
use Rattle.section_table.specs.Sections.{SectionView as Scn}
use Rattle.elf_descriptor.specs.Views.{scn_at}
use Rattle.elf_descriptor.proofs.Warming.{lent_scn, lent_read, cell_written, warmed_by, warm_held}
use Rattle.elf_descriptor.proofs.body.Body.load_there.Goals as goal

pub load-requires : goal.load-requires
load-requires g c =
    let read = lent_read c.args.self.now c.args.s _ c.cell_mut-cell.ensures.value in
    subst (λ (x : Scn). LiesIn x.cell (g.S.Source.size c.args.src.now)) (sym read) c.requires.lies

pub returns-clause-answer : goal.returns-clause-answer
returns-clause-answer g c =
    let read = lent_read c.args.self.now c.args.s _ c.cell_mut-cell.ensures.value in
    rw (← read) c.load.ensures.answer

pub returns-clause-loaded : goal.returns-clause-loaded
returns-clause-loaded g c =
    cell_written (λ n. OnOk c.load.result (IsTrue (cell_is_loaded n))) c.args.self.now _ c.args.s
    (lent_scn c.args.self.now c.args.s c.cell_mut-cell.result.now) c.load.new.self c.requires.there
    refl
    c.load.ensures.loaded

pub returns-clause-held : goal.returns-clause-held
returns-clause-held g c =
    let read = lent_read c.args.self.now c.args.s _ c.cell_mut-cell.ensures.value in
    cell_written (λ n. n.held ≡ (scn_at c.args.self.now c.args.s).cell.held) c.args.self.now _
    c.args.s (lent_scn c.args.self.now c.args.s c.cell_mut-cell.result.now) c.load.new.self
    c.requires.there refl
    (rw (← read) c.load.ensures.held)

pub returns-clause-unchanged : goal.returns-clause-unchanged
returns-clause-unchanged g c =
    let read = lent_read c.args.self.now c.args.s _ c.cell_mut-cell.ensures.value in
    cell_written (λ n. OnErr c.load.result (n ≡ (scn_at c.args.self.now c.args.s).cell))
    c.args.self.now _ c.args.s (lent_scn c.args.self.now c.args.s c.cell_mut-cell.result.now)
    c.load.new.self c.requires.there refl
    (rw (← read) c.load.ensures.unchanged)

pub returns-clause-warmed : goal.returns-clause-warmed
returns-clause-warmed g c =
    let read = lent_read c.args.self.now c.args.s _ c.cell_mut-cell.ensures.value in
    warmed_by _ c.args.self.now _ c.args.s _ c.load.new.self read refl refl c.load.ensures.warms
    (warm_held _ _ _ _ c.load.new.self c.load.ensures.warms c.load.ensures.held)

pub returns-clause-asks : goal.returns-clause-asks
returns-clause-asks g c =
    let read = lent_read c.args.self.now c.args.s _ c.cell_mut-cell.ensures.value in
    rw (← read) c.load.ensures.asks
