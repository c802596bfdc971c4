use Rattle.std.proofs.Common.{◌≡◌, ◌+◌, ℕ, length, Option, None, sym, subst, Err}
use Rattle.std.proofs.lemmas.Result.{err_from_is_err_and}
use Rattle.elf_types.specs.declared.records.Kind.TheVariants as kinds
use Rattle.elf_object.specs.Object.{Object}
use Rattle.elf_object.specs.Answers.{lend_refusal}
use Rattle.tool_output.specs.Reports.{shown_report}
use Rattle.elfkit_outcomes.proofs.tool_objects.ElfSteps.{elf_left, elf_says, elf_learns, elf_learns_none}
use Rattle.selftest_tool.specs.Told.{lines_text, value_sum, symbols_told, first_named}
use Rattle.selftest_tool.proofs.telling.show_lines.Goals as goal

pub sum_values-requires-clause-passed : goal.sum_values-requires-clause-passed
sum_values-requires-clause-passed g c =
    subst (λ (o : Object). lend_refusal o kinds.Sym (c.args.n + 1) 0 ≡ None)
    (sym c.in_ok-found.ensures.reads.elf.object) c.requires.passed

pub sum_values-requires-clause-count : goal.sum_values-requires-clause-count
sum_values-requires-clause-count g c =
    subst (λ (o : Object). c.args.symbols ≡ length (symbols_told c.args.n o))
    (sym c.in_ok-found.ensures.reads.elf.object) c.requires.count

pub returns-in_err-found : goal.returns-in_err-found
returns-in_err-found g c =
    let n = c.args.n in
    let p = err_from_is_err_and c.from_residual.result c.from_residual.ensures.1 in
    rw (p.1, p.2) (elf_learns_none g.S.Source g.O.Sink g.E.Sink (first_named n c.args.last.now)
    c.args.elf.now _ _ (λ o. shown_report (lines_text (length o.sections) c.args.symbols (length o.base)
    (value_sum (symbols_told n o)) (first_named n c.args.last.now o))) c.args.outputs.now
    c.in_err-found.ensures)

pub returns-in_err-sum : goal.returns-in_err-sum
returns-in_err-sum g c =
    let n = c.args.n in
    let r = c.from_residual-in_err-sum in
    let p = err_from_is_err_and r.result r.ensures.1 in
    let report = λ (found : Option ℕ) (o : Object).
    shown_report (lines_text (length o.sections) c.args.symbols (length o.base)
    (value_sum (symbols_told n o)) found) in
    rw (p.1, p.2) (elf_learns g.S.Source g.O.Sink g.E.Sink (first_named n c.args.last.now)
    c.args.elf.now c.find_first.new.elf c.in_ok-found.found report (Err _) c.sum_values.new.elf
    c.args.outputs.now c.args.outputs.now c.in_ok-found.ensures
    (elf_learns_none g.S.Source g.O.Sink g.E.Sink (λ o. value_sum (symbols_told n o))
    c.find_first.new.elf c.sum_values.new.elf _ (report c.in_ok-found.found) c.args.outputs.now
    c.in_err-sum.ensures))

pub returns : goal.returns
returns g c =
    let n = c.args.n in
    let found = c.in_ok-found.found in
    let total = c.in_ok-sum.sum in
    let elf = c.sum_values.new.elf in
    let lines = c.lines_of-lines in
    let last = λ (sum : ℕ) (o : Object).
    shown_report (lines_text (length o.sections) c.args.symbols (length o.base) sum found) in
    let report = λ (first : Option ℕ) (o : Object).
    shown_report (lines_text (length o.sections) c.args.symbols (length o.base)
    (value_sum (symbols_told n o)) first) in
    elf_learns g.S.Source g.O.Sink g.E.Sink (first_named n c.args.last.now) c.args.elf.now
    c.find_first.new.elf found report c.show.result elf c.args.outputs.now c.show.new.self
    c.in_ok-found.ensures
    (elf_learns g.S.Source g.O.Sink g.E.Sink (λ o. value_sum (symbols_told n o))
    c.find_first.new.elf elf total last c.show.result elf c.args.outputs.now c.show.new.self
    c.in_ok-sum.ensures
    (elf_says g.S.Source g.O.Sink g.E.Sink (last total) c.show.result elf elf
    c.args.outputs.now c.show.new.self (elf_left g.S.Source elf)
    (λ told. rw (
      lines.ensures.sections,
      lines.ensures.bytes,
      lines.ensures.learned.0,
      lines.ensures.learned.1,
      lines.ensures.learned.2,
    ) at c.show.ensures.reports)
    c.show.ensures.leaves))
