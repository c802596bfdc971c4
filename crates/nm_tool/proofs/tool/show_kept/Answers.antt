use Rattle.std.proofs.Common.{◌≡◌, ◌-◌, Bool, length, IsTrue, refl, sym, subst, ◌∙◌}
use Rattle.std.proofs.lemmas.Bool.{eqb-true}
use Rattle.elf_object.specs.Object.{Object}
use Rattle.tool_objects.proofs.ElfSteps.{elf_left, elf_says_none, elf_after, elf_unread}
use Rattle.nm_tool.specs.Kept.{kept_of}
use Rattle.nm_tool.specs.Listed.{symbols_in_table}
use Rattle.nm_tool.specs.Tables.{AreTables}
use Rattle.nm_tool.specs.Tool.{rows_report}
use Rattle.nm_tool.proofs.KeptLemmas.{none_reported}
use Rattle.nm_tool.proofs.tool.show_kept.Goals as goal

pub returns-then-is_empty : goal.returns-then-is_empty
returns-then-is_empty g c =
    let f = c.args.form in
    let s = c.args.t.symbols.0 in
    elf_says_none g.S.Source g.O.Sink g.E.Sink (λ o. rows_report f.options.now f.file.now o s)
    c.args.elf.now _ c.args.outputs.now (elf_left g.S.Source c.args.elf.now)
    (λ told. none_reported f.options.now f.file.now c.args.elf.now.o s c.args.count c.args.list
    c.requires.count (c.requires.list told)
    (eqb-true (length c.args.list) 0 (sym c.is_empty.ensures ∙ c.if-is_empty.true)))

pub show_loaded-requires-clause-tables : goal.show_loaded-requires-clause-tables
show_loaded-requires-clause-tables g c =
    subst (λ (o : Object). AreTables o c.args.t) (sym c.in-Ok.ensures.elf.object)
    c.requires.tables

pub show_loaded-requires-clause-list : goal.show_loaded-requires-clause-list
show_loaded-requires-clause-list g c = λ told.
    let left = c.in-Ok.ensures.elf in
    subst (λ (o : Object). c.args.list
    ≡ kept_of c.args.form.options.now o c.args.t.symbols.0 (c.args.count - 1)) (sym left.object)
    (c.requires.list (subst (λ (is : Bool). IsTrue is) left.told told))

pub show_loaded-requires-clause-count : goal.show_loaded-requires-clause-count
show_loaded-requires-clause-count g c =
    subst (λ (o : Object). c.args.count ≡ length (symbols_in_table o c.args.t.symbols.0))
    (sym c.in-Ok.ensures.elf.object) c.requires.count

pub returns-in-Ok : goal.returns-in-Ok
returns-in-Ok g c =
    let f = c.args.form in
    let rows = λ (o : Object). rows_report f.options.now f.file.now o c.args.t.symbols.0 in
    elf_after g.S.Source g.O.Sink g.E.Sink rows rows _ c.args.elf.now c.load.new.elf _
    c.args.outputs.now _ c.in-Ok.ensures.elf c.show_loaded.ensures (λ told. refl)

pub returns-in-Err : goal.returns-in-Err
returns-in-Err g c =
    let f = c.args.form in
    elf_unread g.S.Source g.O.Sink g.E.Sink (Unit {0}) c.in-Err.stop
    (λ o. rows_report f.options.now f.file.now o c.args.t.symbols.0) c.args.elf.now _
    c.args.outputs.now c.in-Err.ensures
