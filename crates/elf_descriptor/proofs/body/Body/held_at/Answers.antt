use Rattle.std.proofs.Common.{◌<◌, List, ℕ, length, Option, refl, sym, subst}
use Rattle.std.specs.Prelude.{IfSome}
use Rattle.section_table.specs.section_data.Views.{CellView, IsCell}
use Rattle.elf_descriptor.specs.Views.{scn_at}
use Rattle.elf_descriptor.specs.Held.{IsHeldIn}
use Rattle.elf_descriptor.proofs.Loaded.{opened_held, cell_where_raw}
use Rattle.elf_descriptor.proofs.body.Body.held_at.Goals as goal

pub held_in-requires : goal.held_in-requires
held_in-requires c =
    subst (λ (x : CellView). c.args.p < length x.pieces) (sym c.in-Some.ensures.some)
    c.requires.piece

pub returns-in-Some-clause-held : goal.returns-in-Some-clause-held
returns-in-Some-clause-held c =
    subst (λ (x : CellView). IsHeldIn x c.args.p c.held_in.result) c.in-Some.ensures.some
    c.held_in.ensures.held

pub returns-in-Some-clause-cell : goal.returns-in-Some-clause-cell
returns-in-Some-clause-cell c =
    cell_where_raw (scn_at c.args.self.now c.args.s).cell
    (subst (λ (x : CellView). IsCell x) c.in-Some.ensures.some c.held_in.ensures.cell)

pub returns-in-None-clause-held : goal.returns-in-None-clause-held
returns-in-None-clause-held c =
    opened_held (scn_at c.args.self.now c.args.s).cell c.args.p (c.in-None.ensures.none refl)

pub returns-in-None-clause-cell : goal.returns-in-None-clause-cell
returns-in-None-clause-cell c =
    let opened = c.in-None.ensures.none refl in
    subst (λ (o : Option (List ℕ)). IfSome o (λ raw. IsCell (scn_at c.args.self.now c.args.s).cell))
    (sym opened.raw) tt
