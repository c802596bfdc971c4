use Rattle.std.proofs.Common.{◌≡◌, ◌+◌, ◌≤◌, ℕ, List, length, Ok, sym, subst, ◌∙◌, arith}
use Rattle.std.specs.Prelude.{codes}
use Rattle.elf_object.specs.Open.{begun, opened}
use Rattle.tool_output.specs.Reports.{Report, Reports}
use Rattle.tool_objects.specs.Images.{image_report}
use Rattle.tool_objects.specs.Steps.{homes_total}
use Rattle.nm_front.specs.Tables.{IsPlain}
use Rattle.nm_front.proofs.PlainLaws.{plain_within}
use Rattle.nm_tool.specs.Tool.{rows_report, nm_report}
use Rattle.nm_tool.proofs.ToolLemmas.{table_absent}
use Rattle.nm_tool.proofs.FrontLemmas.{image_nm, none_found, plain_said}
use Rattle.nm_tool.proofs.FrontSteps.{if_some_of_all, of_both, went_well, says_now, said_as}
use Rattle.nm_tool.proofs.tool.show_front.Goals as goal

pub returns-in-Missing-clause-reports : goal.returns-in-Missing-clause-reports
returns-in-Missing-clause-reports g c =
    let f = c.args.form in
    let front = c.args.front in
    let report = image_report (codes "nm") (nm_report f.options.now) f.file.now in
    let none = rw c.in-Missing.is at c.front_symbols.ensures in
    let shown = λ (r : Report). Reports g.O.Sink g.E.Sink c.note_none-noted.result
    c.args.outputs.now c.note_none-noted.new.outputs r in
    says_now g.S.Source g.O.Sink g.E.Sink report c.note_none-noted.result c.args.src
    c.args.outputs.now _
    (of_both (λ image. opened image ≡ Ok (begun front image))
    (λ image. opened image ≡ Ok (begun front image)) (λ image. shown (report image))
    (g.S.Source.holds c.args.src) c.requires.told c.requires.told
    (λ image is same. subst shown
    (sym (image_nm (codes "nm") (nm_report f.options.now) f.file.now front image is
    ∙ table_absent f.options.now f.file.now (begun front image) (none_found front image none)))
    c.note_none-noted.ensures.reports))
    c.note_none-noted.ensures.leaves

pub returns-in-Missing-clause-asked : goal.returns-in-Missing-clause-asked
returns-in-Missing-clause-asked g c =
    went_well c.note_none-noted.result _
    (if_some_of_all _ (g.S.Source.holds c.args.src) (λ image. omega arith))

pub show_plain-shown-requires-clause-plain : goal.show_plain-shown-requires-clause-plain
show_plain-shown-requires-clause-plain g c =
    let tells = rw c.in-Plain.is at c.front_symbols.ensures in
    subst (λ (n : ℕ). IsPlain c.args.front n c.in-Plain.table) c.len.ensures.size tells.1

pub show_plain-shown-requires-clause-first : goal.show_plain-shown-requires-clause-first
show_plain-shown-requires-clause-first g c =
    (rw c.in-Plain.is at c.front_symbols.ensures).0

pub returns-in-Plain-clause-reports : goal.returns-in-Plain-clause-reports
returns-in-Plain-clause-reports g c =
    let f = c.args.form in
    let front = c.args.front in
    let t = c.in-Plain.table in
    let tells = rw c.in-Plain.is at c.front_symbols.ensures in
    let report = image_report (codes "nm") (nm_report f.options.now) f.file.now in
    let rows = λ (image : List ℕ).
    rows_report f.options.now f.file.now (begun front image) t.section in
    said_as g.S.Source g.O.Sink g.E.Sink rows report c.show_plain-shown.result c.args.src _
    c.args.outputs.now _
    (of_both (λ image. opened image ≡ Ok (begun front image))
    (λ image. length image ≡ g.S.Source.size c.args.src) (λ image. report image ≡ rows image)
    (g.S.Source.holds c.args.src) c.requires.told (g.met.S.Source.sized c.args.src)
    (λ image is long.
    image_nm (codes "nm") (nm_report f.options.now) f.file.now front image is
    ∙ plain_said front image t
    (subst (λ (n : ℕ). IsPlain front n t) (c.len.ensures.size ∙ sym long) tells.1) tells.0
    f.options.now f.file.now))
    c.show_plain-shown.ensures.reports

pub returns-in-Plain-clause-asked : goal.returns-in-Plain-clause-asked
returns-in-Plain-clause-asked g c =
    let front = c.args.front in
    let t = c.in-Plain.table in
    let tells = rw c.in-Plain.is at c.front_symbols.ensures in
    let new = g.S.Source.taken c.show_plain-shown.new.src in
    let old = g.S.Source.taken c.args.src in
    went_well c.show_plain-shown.result _
    (of_both (λ image. length image ≡ g.S.Source.size c.args.src)
    (λ image. length image ≡ g.S.Source.size c.args.src)
    (λ image. new ≤ old + homes_total (begun front image))
    (g.S.Source.holds c.args.src) (g.met.S.Source.sized c.args.src)
    (g.met.S.Source.sized c.args.src)
    (λ image long same.
    let within = plain_within front image t
    (subst (λ (n : ℕ). IsPlain front n t) (c.len.ensures.size ∙ sym long) tells.1) tells.0 in
    asked new old (homes_total (begun front image)) (t.symbols.size + t.names.size)
    c.show_plain-shown.ensures.asked within))
  where
    asked : (new old total n : ℕ) → new ≤ old + n → n ≤ total → new ≤ old + total
    asked new old total n h less = omega (arith, h, less)
