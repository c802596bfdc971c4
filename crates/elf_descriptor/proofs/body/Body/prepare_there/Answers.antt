use Rattle.std.proofs.Common.{◌≡◌, ◌≢◌, true, refl, sym, subst}
use Rattle.std.specs.Prelude.{OnOk, IfErr, IsTrue, is_some}
use Rattle.elf_types.specs.declared.errors.ElfError.TheVariants.{Memory}
use Rattle.section_table.specs.section_data.Held.{piece_in, piece_holds_items, HeldIs}
use Rattle.section_table.specs.section_data.Leaves.{LiesIn}
use Rattle.section_table.specs.Sections.{SectionView as Scn}
use Rattle.elf_descriptor.specs.Views.{scn_at}
use Rattle.elf_descriptor.proofs.Warming.{lent_scn, lent_read, cell_written, warmed_by}
use Rattle.elf_descriptor.proofs.body.Body.prepare_there.Goals as goal

pub prepare-requires-clause-lies : goal.prepare-requires-clause-lies
prepare-requires-clause-lies g c =
    let read = lent_read c.args.self.now c.args.d.section _ c.cell_mut-cell.ensures.value in
    subst (λ (x : Scn). LiesIn x.cell (g.S.Source.size c.args.src.now)) (sym read) c.requires.lies

pub prepare-requires-clause-items : goal.prepare-requires-clause-items
prepare-requires-clause-items g c =
    let read = lent_read c.args.self.now c.args.d.section _ c.cell_mut-cell.ensures.value in
    subst (λ (x : Scn). HeldIs c.args.self.now.header.class c.args.self.now.header.order x.cell) (sym read) c.requires.items

pub returns-clause-answer : goal.returns-clause-answer
returns-clause-answer g c =
    let read = lent_read c.args.self.now c.args.d.section _ c.cell_mut-cell.ensures.value in
    rw (← read) c.prepare.ensures.answer

pub returns-clause-piece : goal.returns-clause-piece
returns-clause-piece g c =
    let read = lent_read c.args.self.now c.args.d.section _ c.cell_mut-cell.ensures.value in
    rw (← read) c.prepare.ensures.there

pub returns-clause-holds : goal.returns-clause-holds
returns-clause-holds g c =
    cell_written (λ n. OnOk c.prepare.result (IsTrue (piece_holds_items n c.args.d.piece)))
    c.args.self.now _ c.args.d.section
    (lent_scn c.args.self.now c.args.d.section c.cell_mut-cell.result.now) c.prepare.new.self
    c.requires.there refl
    c.prepare.ensures.holds

pub returns-clause-unchanged : goal.returns-clause-unchanged
returns-clause-unchanged g c =
    let read = lent_read c.args.self.now c.args.d.section _ c.cell_mut-cell.ensures.value in
    cell_written
    (λ n.
    IfErr c.prepare.result (λ e. e ≢ Memory → n ≡ (scn_at c.args.self.now c.args.d.section).cell))
    c.args.self.now _ c.args.d.section
    (lent_scn c.args.self.now c.args.d.section c.cell_mut-cell.result.now) c.prepare.new.self
    c.requires.there refl (rw (← read) c.prepare.ensures.unchanged)

pub returns-clause-own : goal.returns-clause-own
returns-clause-own g c =
    let read = lent_read c.args.self.now c.args.d.section _ c.cell_mut-cell.ensures.value in
    cell_written (λ n. is_some (piece_in (scn_at c.args.self.now c.args.d.section).cell c.args.d.piece).own ≡ true → n ≡ (scn_at c.args.self.now c.args.d.section).cell) c.args.self.now _ c.args.d.section
    (lent_scn c.args.self.now c.args.d.section c.cell_mut-cell.result.now) c.prepare.new.self
    c.requires.there refl (rw (← read) c.prepare.ensures.own)

pub returns-clause-warmed : goal.returns-clause-warmed
returns-clause-warmed g c =
    let read = lent_read c.args.self.now c.args.d.section _ c.cell_mut-cell.ensures.value in
    warmed_by _ c.args.self.now _ c.args.d.section
    (lent_scn c.args.self.now c.args.d.section c.cell_mut-cell.result.now) c.prepare.new.self read
    refl refl c.prepare.ensures.warms (λ held. c.prepare.ensures.items)

pub returns-clause-asks : goal.returns-clause-asks
returns-clause-asks g c =
    let read = lent_read c.args.self.now c.args.d.section _ c.cell_mut-cell.ensures.value in
    rw (← read) c.prepare.ensures.asks
