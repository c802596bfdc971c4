use Rattle.std.proofs.Common.{ℕ, List, subst}
use Rattle.std.specs.Prelude.{IfOk}
use Rattle.rebuild_names.specs.Known.{NotesName}
use Rattle.rebuild_names.specs.Names.{IsAddedAt}
use Rattle.rebuild_numbers.proofs.rebuild_select.NameLaws.{names_push, names_end}
use Rattle.rebuild_names.proofs.building.add_read.Goals as goal

pub place_copied-requires : goal.place_copied-requires
place_copied-requires g c = c.in-Ok.ensures.plain

pub returns-in-Ok-clause-told : goal.returns-in-Ok-clause-told
returns-in-Ok-clause-told g c = λ told.
    subst (λ (l : List ℕ). IfOk c.place_copied.result (λ fits.
    IsAddedAt c.args.making.now.strings c.place_copied.new.making.strings
    c.args.making.now.places c.place_copied.new.making.places l fits))
    (c.in-Ok.ensures.told told) c.place_copied.ensures.placed

pub returns-in-Ok-clause-noted : goal.returns-in-Ok-clause-noted
returns-in-Ok-clause-noted g c = λ told.
    subst (λ (l : List ℕ). IfOk c.place_copied.result (NotesName c.args.at l
    c.place_copied.new.making.strings c.args.making.now.known
    c.place_copied.new.making.known)) (c.in-Ok.ensures.told told) c.place_copied.ensures.noted

pub returns-in-Ok-clause-reads : goal.returns-in-Ok-clause-reads
returns-in-Ok-clause-reads g c =
    names_push g.S.Source (tt {0}) c.place_copied.result c.args.elf.now c.copy_name.new.elf
    c.place_copied.ensures.err c.in-Ok.ensures.reads

pub returns-in-Err-clause-reads : goal.returns-in-Err-clause-reads
returns-in-Err-clause-reads g c =
    names_end g.S.Source c.in-Err.e c.args.elf.now c.copy_name.new.elf c.in-Err.ensures.reads
