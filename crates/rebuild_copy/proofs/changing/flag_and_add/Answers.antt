use Rattle.std.proofs.Common.{◌≡◌, true, List, sym, subst}
use Rattle.std.specs.Prelude.{All}
use Rattle.elf_object.specs.Object.{Object}
use Rattle.rebuild_select.specs.Sought.Names.{is_sought}
use Rattle.rebuild_changes.specs.declared.changes.NameBits.{NameBits}
use Rattle.rebuild_edits.specs.Edits.Names.{names_now}
use Rattle.rebuild_copy.specs.Indexes.{IsIndexOf}
use Rattle.rebuild_copy.proofs.ChangeLaws.{flagged_then, flagged_end}
use Rattle.rebuild_copy.proofs.TurnLaws.{alters_known}
use Rattle.rebuild_copy.proofs.changing.flag_and_add.Goals as goal

pub flag_sections-requires : goal.flag_sections-requires
flag_sections-requires c =
    subst (λ (l : List NameBits). All (λ n. is_sought c.args.index.now.sought n.name ≡ true) l)
    (sym c.as_slice.ensures) c.requires.sought

pub returns-in-Ok : goal.returns-in-Ok
returns-in-Ok c =
    let renames = c.args.changes.now.rename in
    flagged_then c.args.changes.now c.args.naming c.args.x.now c.flag_sections.new.x
    c.add_and_name.new.x c.args.marks.now c.add_and_name.result
    (alters_known
    (λ (p : Object). IsIndexOf c.args.index.now (names_now p c.args.marks.now renames)) _ _
    c.args.x.now c.flag_sections.new.x c.requires.index
    (rw c.as_slice.ensures at (c.in-Ok.ensures c.args.marks.now renames)))
    c.add_and_name.ensures

pub returns-in-Err : goal.returns-in-Err
returns-in-Err c =
    let renames = c.args.changes.now.rename in
    rw c.refuse_names.ensures (flagged_end c.args.changes.now c.args.naming c.args.x.now
    c.flag_sections.new.x c.flag_sections.new.x c.args.marks.now c.in-Err.fault
    (alters_known
    (λ (p : Object). IsIndexOf c.args.index.now (names_now p c.args.marks.now renames)) _ _
    c.args.x.now c.flag_sections.new.x c.requires.index
    (rw c.as_slice.ensures at (c.in-Err.ensures c.args.marks.now renames))))
