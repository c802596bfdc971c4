use Rattle.std.proofs.Common.{◌≡◌, ℕ, List, length, take, drop, sym, subst, ◌∙◌}
use Rattle.std.proofs.lemmas.Bool.{eqb-true}
use Rattle.elf_object.specs.Open.{begun}
use Rattle.tool_output.specs.Reports.{Report, Reports, no_report}
use Rattle.tool_output.proofs.SourceLemmas.{reports_after}
use Rattle.nm_front.specs.Tables.{IsPlain}
use Rattle.nm_tool.specs.Tool.{rows_report}
use Rattle.nm_tool.proofs.FrontLemmas.{plain_held, rows_told, plain_rows, no_rows}
use Rattle.nm_tool.proofs.FrontSteps.{of_both, of_three, range_stops, range_unread, want_stops, says_none}
use Rattle.nm_tool.proofs.front.show_read.Goals as goal

pub kept_at_hand-requires-clause-few : goal.kept_at_hand-requires-clause-few
kept_at_hand-requires-clause-few g c =
    c.symbol_count-count.ensures.few c.requires.plain.symbols.few

pub read_range-requires : goal.read_range-requires
read_range-requires g c = λ some. c.requires.plain.inside

pub show_at_hand-requires : goal.show_at_hand-requires
show_at_hand-requires g c = c.requires.whole

pub stop_for-requires : goal.stop_for-requires
stop_for-requires g c = range_stops c.in-Err-read_range.e c.in-Err-read_range.ensures.err

pub returns-in-Err-clause-reports : goal.returns-in-Err-clause-reports
returns-in-Err-clause-reports g c =
    want_stops g.S.Source g.O.Sink g.E.Sink _ c.in-Err.stop c.args.src.now c.args.outputs.now
    c.in-Err.ensures.err

pub returns-then-is_empty-clause-reports : goal.returns-then-is_empty-clause-reports
returns-then-is_empty-clause-reports g c =
    let f = c.args.form in
    let t = c.args.table in
    let front = c.args.front.now in
    let holds = g.S.Source.holds c.args.src.now in
    let range = λ (image : List ℕ). take t.symbols.size (drop t.symbols.offset image) in
    let none : length c.in-Ok.list ≡ 0 =
    eqb-true (length c.in-Ok.list) 0 (sym c.is_empty.ensures ∙ c.if-is_empty.true) in
    says_none g.S.Source g.O.Sink g.E.Sink
    (λ image. rows_report f.options.now f.file.now (begun front image) t.section)
    c.args.src.now c.args.outputs.now
    (of_both (λ image. length image ≡ g.S.Source.size c.args.src.now)
    (λ image. c.args.symbols.bytes.now ≡ range image)
    (λ image. rows_report f.options.now f.file.now (begun front image) t.section ≡ no_report)
    holds (g.met.S.Source.sized c.args.src.now) c.requires.held
    (λ image long held.
    let plain = subst (λ (n : ℕ). IsPlain front n t) (sym long) c.requires.plain in
    no_rows front image t plain c.requires.first f.options.now f.file.now
    c.symbol_count-count.result c.in-Ok.list c.symbol_count-count.ensures.count
    (c.in-Ok.ensures.ok (begun front image) t.section
    (plain_held front image t plain c.requires.first c.args.symbols c.requires.form held)) none))

pub returns-in-Ok-read_range-clause-reports : goal.returns-in-Ok-read_range-clause-reports
returns-in-Ok-read_range-clause-reports g c =
    let f = c.args.form in
    let t = c.args.table in
    let front = c.args.front.now in
    let holds = g.S.Source.holds c.args.src.now in
    let row = λ (image : List ℕ).
    rows_report f.options.now f.file.now (begun front image) t.section in
    let shown = λ (r : Report). Reports g.O.Sink g.E.Sink c.show_at_hand.result
    c.args.outputs.now c.show_at_hand.new.outputs r in
    let strings = c.up_to_last_nul-strings.ensures.same in
    reports_after g.O.Sink g.E.Sink g.S.Source row c.show_at_hand.result t.names.size
    c.args.src.now c.read_range.new.src c.args.outputs.now _ c.in-Ok-read_range.names
    c.in-Ok-read_range.ensures.asks
    (of_three (λ image. length image ≡ g.S.Source.size c.args.src.now)
    (λ image. c.args.symbols.bytes.now ≡ take t.symbols.size (drop t.symbols.offset image))
    (λ image. c.in-Ok-read_range.names ≡ take t.names.size (drop t.names.offset image))
    (λ image. shown (row image)) holds (g.met.S.Source.sized c.args.src.now) c.requires.held
    c.in-Ok-read_range.ensures.bytes
    (λ image long held read.
    let plain = subst (λ (n : ℕ). IsPlain front n t) (sym long) c.requires.plain in
    let symbols = plain_held front image t plain c.requires.first c.args.symbols c.requires.form
    held in
    subst shown
    (sym (plain_rows front image t plain c.requires.first f.options.now f.file.now
    c.symbol_count-count.result c.in-Ok.list c.symbol_count-count.ensures.count
    (c.in-Ok.ensures.ok (begun front image) t.section symbols)))
    (c.show_at_hand.ensures.reports (begun front image) t.section
    (rows_told front image t plain c.requires.first _ c.in-Ok-read_range.names c.requires.form held
    (rw c.as_slice.ensures at strings) read))))
    c.show_at_hand.ensures.leaves

pub returns-in-Err-read_range-clause-reports : goal.returns-in-Err-read_range-clause-reports
returns-in-Err-read_range-clause-reports g c =
    range_unread g.S.Source g.O.Sink g.E.Sink _ c.in-Err-read_range.e c.stop_for.result
    c.args.table.names.size c.args.src.now c.read_range.new.src c.args.outputs.now
    c.stop_for.ensures c.in-Err-read_range.ensures.asks
