use Rattle.std.proofs.Common.{refl, sym, subst}
use Rattle.section_table.specs.section_data.Held.{HeldIs}
use Rattle.section_table.specs.section_data.Leaves.{LiesIn}
use Rattle.section_table.specs.Sections.{SectionView as Scn}
use Rattle.elf_descriptor.proofs.Warming.{lent_scn, lent_read}
use Rattle.elf_descriptor.proofs.OwnedBodies.{owned_by, stays_warmed, stays_held, stays_unchanged}
use Rattle.elf_descriptor.proofs.body.Body.own_there.Goals as goal

pub own-requires-clause-lies : goal.own-requires-clause-lies
own-requires-clause-lies g c =
    let read = lent_read c.args.self.now c.args.d.section _ c.cell_mut-cell.ensures.value in
    subst (λ (x : Scn). LiesIn x.cell (g.S.Source.size c.args.src.now)) (sym read) c.requires.lies

pub own-requires-clause-items : goal.own-requires-clause-items
own-requires-clause-items g c =
    let read = lent_read c.args.self.now c.args.d.section _ c.cell_mut-cell.ensures.value in
    subst (λ (x : Scn). HeldIs c.args.self.now.header.class c.args.self.now.header.order x.cell) (sym read) c.requires.items

pub returns-clause-answer : goal.returns-clause-answer
returns-clause-answer g c =
    let read = lent_read c.args.self.now c.args.d.section _ c.cell_mut-cell.ensures.value in
    rw (← read) c.own.ensures.answer

pub returns-clause-owned : goal.returns-clause-owned
returns-clause-owned g c =
    let read = lent_read c.args.self.now c.args.d.section _ c.cell_mut-cell.ensures.value in
    owned_by _ c.args.kind c.args.self.now _ c.args.d.section c.args.d.piece
    (lent_scn c.args.self.now c.args.d.section c.cell_mut-cell.result.now) c.own.new.self
    c.requires.there read refl refl c.own.result
    c.own.ensures.owns c.own.ensures.cell c.own.ensures.there c.own.ensures.own c.own.ensures.items

pub returns-clause-warmed : goal.returns-clause-warmed
returns-clause-warmed g c =
    let read = lent_read c.args.self.now c.args.d.section _ c.cell_mut-cell.ensures.value in
    stays_warmed _ c.args.kind c.args.self.now _ c.args.d.section c.args.d.piece
    (lent_scn c.args.self.now c.args.d.section c.cell_mut-cell.result.now) c.own.new.self
    c.requires.there read refl refl c.own.result
    c.own.ensures.stays c.own.ensures.items

pub returns-clause-held : goal.returns-clause-held
returns-clause-held g c =
    let read = lent_read c.args.self.now c.args.d.section _ c.cell_mut-cell.ensures.value in
    stays_held _ c.args.kind c.args.self.now _ c.args.d.section c.args.d.piece
    (lent_scn c.args.self.now c.args.d.section c.cell_mut-cell.result.now) c.own.new.self
    c.requires.there read refl refl c.own.result c.own.ensures.stays

pub returns-clause-unchanged : goal.returns-clause-unchanged
returns-clause-unchanged g c =
    let read = lent_read c.args.self.now c.args.d.section _ c.cell_mut-cell.ensures.value in
    stays_unchanged _ c.args.kind c.args.self.now _ c.args.d.section c.args.d.piece
    (lent_scn c.args.self.now c.args.d.section c.cell_mut-cell.result.now) c.own.new.self
    c.requires.there read refl refl c.own.result c.own.ensures.stays

pub returns-clause-asks : goal.returns-clause-asks
returns-clause-asks g c =
    let read = lent_read c.args.self.now c.args.d.section _ c.cell_mut-cell.ensures.value in
    rw (← read) c.own.ensures.asks
