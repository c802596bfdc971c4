use Rattle.std.proofs.Common.{◌≡◌, true, refl, sym, subst}
use Rattle.std.specs.Prelude.{OnErr, is_some}
use Rattle.section_table.specs.section_data.Held.{piece_in}
use Rattle.section_table.specs.section_data.Leaves.{LiesIn}
use Rattle.section_table.specs.Sections.{SectionView as Scn}
use Rattle.elf_descriptor.specs.Views.{scn_at}
use Rattle.elf_descriptor.proofs.Warming.{lent_scn, lent_read, cell_written, warmed_by, warm_held}
use Rattle.elf_descriptor.proofs.ListedCells.{listed_by}
use Rattle.elf_descriptor.proofs.body.Body.fetch_there.Goals as goal

pub fetch_list-requires : goal.fetch_list-requires
fetch_list-requires g c =
    let read = lent_read c.args.self.now c.args.d.section _ c.cell_mut-cell.ensures.value in
    record { lies = subst (λ (x : Scn). LiesIn x.cell (g.S.Source.size c.args.src.now)) (sym read) c.requires.lies }

pub returns-clause-answer : goal.returns-clause-answer
returns-clause-answer g c =
    let read = lent_read c.args.self.now c.args.d.section _ c.cell_mut-cell.ensures.value in
    rw (← read) c.fetch_list.ensures.answer

pub returns-clause-hand : goal.returns-clause-hand
returns-clause-hand g c =
    listed_by c.args.self.now _ c.args.d.section c.args.d.piece c.args.kind
    (lent_scn c.args.self.now c.args.d.section c.fetch_list.new.cell) c.fetch_list.result
    c.requires.there refl refl c.fetch_list.ensures.there c.fetch_list.ensures.kind
    c.fetch_list.ensures.hand

pub returns-clause-unchanged : goal.returns-clause-unchanged
returns-clause-unchanged g c =
    let read = lent_read c.args.self.now c.args.d.section _ c.cell_mut-cell.ensures.value in
    cell_written
    (λ n. OnErr c.fetch_list.result (n ≡ (scn_at c.args.self.now c.args.d.section).cell))
    c.args.self.now _ c.args.d.section
    (lent_scn c.args.self.now c.args.d.section c.cell_mut-cell.result.now) c.fetch_list.new.cell
    c.requires.there refl
    (rw (← read) c.fetch_list.ensures.unchanged)

pub returns-clause-own : goal.returns-clause-own
returns-clause-own g c =
    let read = lent_read c.args.self.now c.args.d.section _ c.cell_mut-cell.ensures.value in
    cell_written (λ n. is_some (piece_in (scn_at c.args.self.now c.args.d.section).cell c.args.d.piece).own ≡ true → n ≡ (scn_at c.args.self.now c.args.d.section).cell) c.args.self.now _ c.args.d.section
    (lent_scn c.args.self.now c.args.d.section c.cell_mut-cell.result.now) c.fetch_list.new.cell
    c.requires.there refl (rw (← read) c.fetch_list.ensures.own)

pub returns-clause-warmed : goal.returns-clause-warmed
returns-clause-warmed g c =
    let read = lent_read c.args.self.now c.args.d.section _ c.cell_mut-cell.ensures.value in
    warmed_by _ c.args.self.now _ c.args.d.section
    (lent_scn c.args.self.now c.args.d.section c.cell_mut-cell.result.now) c.fetch_list.new.cell
    read refl refl c.fetch_list.ensures.warms
    (warm_held _ _ _ _ c.fetch_list.new.cell c.fetch_list.ensures.warms c.fetch_list.ensures.held)

pub returns-clause-asks : goal.returns-clause-asks
returns-clause-asks g c =
    let read = lent_read c.args.self.now c.args.d.section _ c.cell_mut-cell.ensures.value in
    rw (← read) c.fetch_list.ensures.asks
