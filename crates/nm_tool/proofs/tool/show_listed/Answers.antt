use Rattle.std.proofs.Common.{◌≡◌, ◌-◌, Bool, length, IsTrue, refl, sym, subst}
use Rattle.elf_object.specs.Object.{Object}
use Rattle.tool_objects.proofs.ElfSteps.{elf_after, elf_learns_none}
use Rattle.nm_tool.specs.Kept.{kept_of}
use Rattle.nm_tool.specs.Listed.{symbols_in_table}
use Rattle.nm_tool.specs.Tables.{AreTables}
use Rattle.nm_tool.specs.Tool.{rows_report}
use Rattle.nm_tool.proofs.tool.show_listed.Goals as goal

pub show_kept-requires-clause-tables : goal.show_kept-requires-clause-tables
show_kept-requires-clause-tables g c =
    subst (λ (o : Object). AreTables o c.args.t) (sym c.in-Ok.ensures.reads.elf.object)
    c.requires.tables

pub show_kept-requires-clause-list : goal.show_kept-requires-clause-list
show_kept-requires-clause-list g c = λ told.
    let left = c.in-Ok.ensures.reads.elf in
    subst (λ (o : Object). c.in-Ok.list
    ≡ kept_of c.args.form.options.now o c.args.t.symbols.0 (c.args.count - 1)) (sym left.object)
    (c.in-Ok.ensures.value (subst (λ (is : Bool). IsTrue is) left.told told))

pub show_kept-requires-clause-count : goal.show_kept-requires-clause-count
show_kept-requires-clause-count g c =
    subst (λ (o : Object). c.args.count ≡ length (symbols_in_table o c.args.t.symbols.0))
    (sym c.in-Ok.ensures.reads.elf.object) c.requires.count

pub returns-in-Ok : goal.returns-in-Ok
returns-in-Ok g c =
    let f = c.args.form in
    let rows = λ (o : Object). rows_report f.options.now f.file.now o c.args.t.symbols.0 in
    elf_after g.S.Source g.O.Sink g.E.Sink rows rows _ c.args.elf.now c.kept_of.new.elf _
    c.args.outputs.now _ c.in-Ok.ensures.reads.elf c.show_kept.ensures (λ told. refl)

pub returns-in-Err : goal.returns-in-Err
returns-in-Err g c =
    let f = c.args.form in
    let s = c.args.t.symbols.0 in
    elf_learns_none g.S.Source g.O.Sink g.E.Sink
    (λ o. kept_of f.options.now o s (c.args.count - 1)) c.args.elf.now _ c.in-Err.stop
    (λ o. rows_report f.options.now f.file.now o s) c.args.outputs.now c.in-Err.ensures
