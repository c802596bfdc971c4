use Rattle.std.proofs.Common.{◌≡◌, ◌-◌, ℕ, Bool, length, Option, IsTrue, refl, sym, subst}
use Rattle.elf_object.specs.Object.{Object}
use Rattle.tool_objects.proofs.ElfSteps.{elf_after, elf_unread}
use Rattle.tool_objects.proofs.at_hand.Ends.{end_stays}
use Rattle.nm_tool.specs.Kept.{kept_of}
use Rattle.nm_tool.specs.Listed.{symbols_in_table}
use Rattle.nm_tool.specs.Tables.{AreTables}
use Rattle.nm_tool.specs.Tool.{rows_report}
use Rattle.nm_tool.proofs.tool.show_by_calls.Goals as goal

pub show_in_order-requires-clause-tables : goal.show_in_order-requires-clause-tables
show_in_order-requires-clause-tables g c =
    subst (λ (o : Object). AreTables o c.args.t) (sym c.in-Ok.ensures.reads.elf.object)
    c.requires.tables

pub show_in_order-requires-clause-end : goal.show_in_order-requires-clause-end
show_in_order-requires-clause-end g c =
    end_stays g.S.Source c.args.elf.now c.strings_end.new.elf c.args.t.names.0 c.in-Ok.end
    c.in-Ok.ensures.reads.elf c.in-Ok.ensures.end

pub show_in_order-requires-clause-list : goal.show_in_order-requires-clause-list
show_in_order-requires-clause-list g c = λ told.
    let left = c.in-Ok.ensures.reads.elf in
    subst (λ (o : Object). c.args.list
    ≡ kept_of c.args.form.options.now o c.args.t.symbols.0 (c.args.count - 1)) (sym left.object)
    (c.requires.list (subst (λ (is : Bool). IsTrue is) left.told told))

pub show_in_order-requires-clause-count : goal.show_in_order-requires-clause-count
show_in_order-requires-clause-count g c =
    subst (λ (o : Object). c.args.count ≡ length (symbols_in_table o c.args.t.symbols.0))
    (sym c.in-Ok.ensures.reads.elf.object) c.requires.count

pub returns-in-Ok : goal.returns-in-Ok
returns-in-Ok g c =
    let f = c.args.form in
    let rows = λ (o : Object). rows_report f.options.now f.file.now o c.args.t.symbols.0 in
    elf_after g.S.Source g.O.Sink g.E.Sink rows rows _ c.args.elf.now c.strings_end.new.elf _
    c.args.outputs.now _ c.in-Ok.ensures.reads.elf c.show_in_order.ensures (λ told. refl)

pub returns-in-Err : goal.returns-in-Err
returns-in-Err g c =
    let f = c.args.form in
    elf_unread g.S.Source g.O.Sink g.E.Sink (Option ℕ) c.in-Err.stop
    (λ o. rows_report f.options.now f.file.now o c.args.t.symbols.0) c.args.elf.now _
    c.args.outputs.now c.in-Err.ensures.reads
