use Rattle.std.proofs.Common.{List, ℕ, subst}
use Rattle.std.specs.Prelude.{OnOk}
use Rattle.elf_xlate.specs.Translation.{encoded}
use Rattle.rebuild_tables.specs.Rows.{rows_made, HoldsMade}
use Rattle.rebuild_tables.proofs.HoldLaws.{room_wanted}
use Rattle.rebuild_tables.proofs.holding.hold_rows.Goals as goal

pub returns-in-Err-clause-asks : goal.returns-in-Err-clause-asks
returns-in-Err-clause-asks g c =
    room_wanted g.S.Source c.args.numbering.now c.args.x c.args.elf.now c.args.held.now
    c.in-Err.e c.in-Err.ensures.err

pub returns-clause-ok : goal.returns-clause-ok
returns-clause-ok g c =
    subst (λ (l : List ℕ). OnOk c.hold_all.result (HoldsMade c.args.elf.now.told
    (encoded c.args.x.class c.args.x.order
    (rows_made c.args.numbering.now c.args.elf.now.o.base c.args.x)) l c.hold_all.new.held))
    c.in_default.ensures.same c.hold_all.ensures.ok
