use Rattle.std.proofs.Common.{◌≡◌, ◌<◌, ℕ, List, length, None, refl, sym, ap, ◌∙◌, subst, arith}
use Rattle.std.specs.Prelude.{slice_get}
use Rattle.std.proofs.lemmas.Result.{err_from_is_err_and}
use Rattle.elf_types.specs.declared.records.Kind.TheVariants as kinds
use Rattle.elf_types.specs.declared.records.Sym.{Sym}
use Rattle.tool_objects.specs.elf_object.Object.{Object}
use Rattle.tool_objects.specs.elf_object.Answers.{items_at, syms_of, lend_refusal}
use Rattle.tool_objects.proofs.ElfSteps.{elf_begins, elf_is_given, elf_left_then}
use Rattle.elf_lint_findings.specs.declared.places.Place.TheVariants.{Item}
use Rattle.elf_lint_findings.specs.Findings.{at_items, finding, found_if}
use Rattle.elf_lint_findings.specs.Looking.{section_symbols}
use Rattle.elf_lint_findings.proofs.FindingLemmas.{no_rows_left}
use Rattle.elf_lint_findings.proofs.LentLemmas.{symbols_are}
use Rattle.elf_lint_symbols.specs.Symbols.{IsCheckedSymbolTable}
use Rattle.elf_lint_symbols.proofs.ItemLemmas.{item_found, item_stopped, item_unread}
use Rattle.tool_objects.proofs.at_hand.Ends.{end_stays}
use Rattle.elf_lint_symbols.proofs.by_symbol.each_symbol.Goals as goal

pub loop-i-init : goal.loop-i-init
unfolding at_items
loop-i-init g c = elf_begins g.S.Source g.O.Sink g.E.Sink c.args.elf.now c.args.outputs.now _

pub item_there-requires-clause-passed : goal.item_there-requires-clause-passed
item_there-requires-clause-passed g c =
    subst (λ (o : Object). lend_refusal o kinds.Sym c.args.t.section.0 0 ≡ None) (sym c.loop-i.invariant.elf.object) c.requires.table.passed

pub item_there-requires-clause-there : goal.item_there-requires-clause-there
item_there-requires-clause-there g c =
    let s = c.args.t.section.0 in
    let all = ap length (symbols_are c.args.elf.now.o s c.requires.table.passed) in
    subst (λ (o : Object). c.loop-i.i < length (syms_of (items_at o s 0))) (sym c.loop-i.invariant.elf.object) (omega (arith, c.loop-i-test.true, c.requires.table.count, all))

pub show_symbol-requires-clause-table : goal.show_symbol-requires-clause-table
show_symbol-requires-clause-table g c =
    subst (λ (o : Object). IsCheckedSymbolTable o c.args.t)
    (sym (c.in_ok-x.ensures.reads.elf.object ∙ c.loop-i.invariant.elf.object)) c.requires.table

pub show_symbol-requires-clause-end : goal.show_symbol-requires-clause-end
show_symbol-requires-clause-end g c =
    end_stays g.S.Source c.args.elf.now c.item_there.new.elf c.args.t.strings.0 c.args.end
    (elf_left_then g.S.Source c.args.elf.now c.loop-i.elf c.item_there.new.elf
    c.loop-i.invariant.elf c.in_ok-x.ensures.reads.elf) c.requires.end

pub loop-i-preserved : goal.loop-i-preserved
loop-i-preserved g c =
    let r = g.R.SymbolRule in
    let by = c.args.by.now in
    let s = c.args.t.section.0 in
    let passed = subst (λ (o : Object). lend_refusal o kinds.Sym s 0 ≡ None) (sym c.loop-i.invariant.elf.object) c.requires.table.passed in
    item_found by.name.now (λ (o : Object) (row : ℕ × Sym). found_if (r.finds o s row.0 row.1) (finding by.number (Item s row.0) by.text.now)) (λ o. section_symbols o s) c.loop-i.i c.loop-i.invariant
    c.in_ok-x.x c.item_there.new.elf c.in_ok-x.ensures.reads.elf
    (λ told. ap (λ (l : List Sym). slice_get l c.loop-i.i) (symbols_are c.loop-i.elf.o s passed) ∙ c.in_ok-x.ensures.value told)
    c.in_ok-was_found.ensures refl

pub returns-in_err-x : goal.returns-in_err-x
returns-in_err-x g c =
    let r = g.R.SymbolRule in
    let by = c.args.by.now in
    let s = c.args.t.section.0 in
    let p = err_from_is_err_and c.from_residual.result c.from_residual.ensures.1 in
    rw (p.1, p.2) (item_unread by.name.now (λ (o : Object) (row : ℕ × Sym). found_if (r.finds o s row.0 row.1) (finding by.number (Item s row.0) by.text.now)) (λ o. section_symbols o s) c.loop-i.i c.loop-i.invariant
    Sym c.item_there.new.elf _ c.in_err-x.ensures.reads)

pub returns-in_err-was_found : goal.returns-in_err-was_found
returns-in_err-was_found g c =
    let r = g.R.SymbolRule in
    let by = c.args.by.now in
    let s = c.args.t.section.0 in
    let passed = subst (λ (o : Object). lend_refusal o kinds.Sym s 0 ≡ None) (sym c.loop-i.invariant.elf.object) c.requires.table.passed in
    let p = err_from_is_err_and c.from_residual-in_err-was_found.result c.from_residual-in_err-was_found.ensures.1 in
    rw (p.1, p.2) (item_stopped by.name.now (λ (o : Object) (row : ℕ × Sym). found_if (r.finds o s row.0 row.1) (finding by.number (Item s row.0) by.text.now)) (λ o. section_symbols o s) c.loop-i.i c.loop-i.invariant
    c.in_ok-x.x c.item_there.new.elf c.in_ok-x.ensures.reads.elf
    (λ told. ap (λ (l : List Sym). slice_get l c.loop-i.i) (symbols_are c.loop-i.elf.o s passed) ∙ c.in_ok-x.ensures.value told)
    c.in_err-was_found.ensures)

pub returns : goal.returns
returns g c =
    let r = g.R.SymbolRule in
    let by = c.args.by.now in
    let s = c.args.t.section.0 in
    let o = c.args.elf.now.o in
    elf_is_given c.loop-i.invariant
    (λ told. no_rows_left by.name.now (λ (row : ℕ × Sym). found_if (r.finds o s row.0 row.1) (finding by.number (Item s row.0) by.text.now)) (section_symbols o s) c.loop-i.i
    (omega (arith, c.requires.table.count, c.loop-i-test.false)))
