use Rattle.std.proofs.Common.{refl, sym, subst}
use Rattle.std.specs.Prelude.{IsTrue, ◌||◌}
use Rattle.section_table.specs.section_data.Held.{cell_is_loaded}
use Rattle.section_table.specs.section_data.Leaves.{LiesIn}
use Rattle.section_table.specs.Sections.{SectionView as Scn}
use Rattle.elf_descriptor.proofs.Warming.{lent_scn, lent_read}
use Rattle.elf_descriptor.proofs.Keeping.{filled_by, unfilled_by, only_read}
use Rattle.elf_descriptor.proofs.body.Body.load_home.Goals as goal

pub load_reserved-requires-clause-lies : goal.load_reserved-requires-clause-lies
load_reserved-requires-clause-lies g c =
    let read = lent_read c.args.self.now c.args.s _ c.cell_mut-cell.ensures.value in
    subst (λ (x : Scn). LiesIn x.cell (g.S.Source.size c.args.src.now)) (sym read) c.requires.lies

pub load_reserved-requires-clause-room : goal.load_reserved-requires-clause-room
load_reserved-requires-clause-room g c =
    let read = lent_read c.args.self.now c.args.s _ c.cell_mut-cell.ensures.value in
    subst (λ (x : Scn). IsTrue (cell_is_loaded x.cell || x.cell.room)) (sym read) c.requires.room

pub returns-clause-answer : goal.returns-clause-answer
returns-clause-answer g c =
    let read = lent_read c.args.self.now c.args.s _ c.cell_mut-cell.ensures.value in
    rw (← read) c.load_reserved.ensures.answer

pub returns-clause-fills : goal.returns-clause-fills
returns-clause-fills g c =
    let read = lent_read c.args.self.now c.args.s _ c.cell_mut-cell.ensures.value in
    filled_by c.load_reserved.result _ c.args.self.now _ c.args.s
    (lent_scn c.args.self.now c.args.s c.cell_mut-cell.result.now) c.load_reserved.new.self read
    refl refl c.load_reserved.ensures.fills

pub returns-clause-same : goal.returns-clause-same
returns-clause-same g c =
    let read = lent_read c.args.self.now c.args.s _ c.cell_mut-cell.ensures.value in
    unfilled_by c.load_reserved.result c.args.self.now _ c.args.s
    (lent_scn c.args.self.now c.args.s c.cell_mut-cell.result.now) c.load_reserved.new.self read
    refl refl c.load_reserved.ensures.unchanged

pub returns-clause-asks : goal.returns-clause-asks
returns-clause-asks g c =
    let read = lent_read c.args.self.now c.args.s _ c.cell_mut-cell.ensures.value in
    rw (← read) c.load_reserved.ensures.asks

pub returns-clause-err : goal.returns-clause-err
returns-clause-err g c = only_read c.load_reserved.result _ c.load_reserved.ensures.err
