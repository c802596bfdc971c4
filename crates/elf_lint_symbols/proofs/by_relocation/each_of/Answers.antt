use Rattle.std.proofs.Common.{◌≡◌, ◌<◌, ℕ, length, None, refl, sym, subst, arith}
use Rattle.std.proofs.lemmas.Result.{err_from_is_err_and}
use Rattle.tool_objects.specs.elf_object.Object.{Object}
use Rattle.tool_objects.specs.elf_object.Answers.{items_at, lend_refusal}
use Rattle.tool_objects.proofs.ElfSteps.{elf_left, elf_begins, elf_is_given, elf_says}
use Rattle.elf_lint_findings.specs.declared.places.Place.TheVariants.{Item}
use Rattle.elf_lint_findings.specs.Findings.{at_items, finding, findings_shown, found_if}
use Rattle.elf_lint_findings.proofs.FindingLemmas.{no_rows_left}
use Rattle.elf_lint_symbols.specs.Relocations.{passes_bound}
use Rattle.elf_lint_symbols.proofs.ItemLemmas.{item_found, item_stopped, item_unread}
use Rattle.elf_lint_symbols.proofs.by_relocation.each_of.Goals as goal

pub loop-i-init : goal.loop-i-init
unfolding at_items
loop-i-init g c = elf_begins g.S.Source g.O.Sink g.E.Sink c.args.elf.now c.args.outputs.now _

pub item_there-requires-clause-passed : goal.item_there-requires-clause-passed
item_there-requires-clause-passed g c =
    subst (λ (o : Object). lend_refusal o g.T.Listed.kind c.args.r.section.0 0 ≡ None) (sym c.loop-i.invariant.elf.object) c.requires.passed

pub item_there-requires-clause-there : goal.item_there-requires-clause-there
item_there-requires-clause-there g c =
    subst (λ (o : Object). c.loop-i.i < length (g.T.Listed.list_of (items_at o c.args.r.section.0 0))) (sym c.loop-i.invariant.elf.object) (omega (arith, c.loop-i-test.true, c.requires.count))

pub loop-i-preserved : goal.loop-i-preserved
loop-i-preserved g c =
    let s = c.args.r.section.0 in
    let name = c.args.by.now.name.now in
    let symbol = g.T.RelocationItem.symbol in
    let x = c.in_ok-x.x in
    let f = λ (o : Object) (row : ℕ × g.row.T.Denot). found_if (passes_bound c.args.r.bound (symbol row.1)) (finding c.args.by.now.number (Item s row.0) c.args.by.now.text.now) in
    item_found name f (λ o. g.T.Listed.list_of (items_at o s 0)) c.loop-i.i c.loop-i.invariant
    x c.item_there.new.elf c.in_ok-x.ensures.reads.elf c.in_ok-x.ensures.value
    (elf_says g.S.Source g.O.Sink g.E.Sink (λ o. findings_shown name (f o (c.loop-i.i, x))) _ c.item_there.new.elf _ c.loop-i.outputs _ (elf_left g.S.Source c.item_there.new.elf)
    (λ told. rw (c.passes_bound-holds.ensures, c.symbol.ensures) at c.in_ok-was_found.ensures.reports) c.in_ok-was_found.ensures.leaves) refl

pub returns-in_err-x : goal.returns-in_err-x
returns-in_err-x g c =
    let s = c.args.r.section.0 in
    let symbol = g.T.RelocationItem.symbol in
    let f = λ (o : Object) (row : ℕ × g.row.T.Denot). found_if (passes_bound c.args.r.bound (symbol row.1)) (finding c.args.by.now.number (Item s row.0) c.args.by.now.text.now) in
    let p = err_from_is_err_and c.from_residual.result c.from_residual.ensures.1 in
    rw (p.1, p.2) (item_unread c.args.by.now.name.now f (λ o. g.T.Listed.list_of (items_at o s 0)) c.loop-i.i c.loop-i.invariant g.row.T.Denot c.item_there.new.elf _ c.in_err-x.ensures.reads)

pub returns-in_err-was_found : goal.returns-in_err-was_found
returns-in_err-was_found g c =
    let s = c.args.r.section.0 in
    let name = c.args.by.now.name.now in
    let symbol = g.T.RelocationItem.symbol in
    let x = c.in_ok-x.x in
    let f = λ (o : Object) (row : ℕ × g.row.T.Denot). found_if (passes_bound c.args.r.bound (symbol row.1)) (finding c.args.by.now.number (Item s row.0) c.args.by.now.text.now) in
    let p = err_from_is_err_and c.from_residual-in_err-was_found.result c.from_residual-in_err-was_found.ensures.1 in
    rw (p.1, p.2) (item_stopped name f (λ o. g.T.Listed.list_of (items_at o s 0)) c.loop-i.i c.loop-i.invariant
    x c.item_there.new.elf c.in_ok-x.ensures.reads.elf c.in_ok-x.ensures.value
    (elf_says g.S.Source g.O.Sink g.E.Sink (λ o. findings_shown name (f o (c.loop-i.i, x))) _ c.item_there.new.elf _ c.loop-i.outputs _ (elf_left g.S.Source c.item_there.new.elf)
    (λ told. rw (c.passes_bound-holds.ensures, c.symbol.ensures) at c.in_err-was_found.ensures.reports) c.in_err-was_found.ensures.leaves))

pub returns : goal.returns
returns g c =
    let s = c.args.r.section.0 in
    let symbol = g.T.RelocationItem.symbol in
    elf_is_given c.loop-i.invariant
    (λ told. no_rows_left c.args.by.now.name.now (λ (row : ℕ × g.row.T.Denot). found_if (passes_bound c.args.r.bound (symbol row.1)) (finding c.args.by.now.number (Item s row.0) c.args.by.now.text.now))
    (g.T.Listed.list_of (items_at c.args.elf.now.o s 0)) c.loop-i.i (omega (arith, c.requires.count, c.loop-i-test.false)))
