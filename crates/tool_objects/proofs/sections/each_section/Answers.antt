use Rattle.std.proofs.Common.{◌+◌, ◌<◌, length, drop, refl, sym, subst, arith}
use Rattle.std.proofs.lemmas.Result.{err_from_is_err_and}
use Rattle.gelf_view.specs.elf_object.Object.{Object}
use Rattle.gelf_view.specs.elf_object.Due.{all_sections}
use Rattle.tool_output.specs.Reports.{reports_of}
use Rattle.tool_objects.proofs.ElfSteps.{elf_stops_at, elf_is_given}
use Rattle.tool_objects.proofs.PassSteps.{pass_begins, pass_goes_on}
use Rattle.tool_objects.proofs.SectionLemmas.{ok_value_is, number_left, no_number_left}
use Rattle.tool_objects.proofs.sections.each_section.Goals as goal

pub loop-s-init : goal.loop-s-init
loop-s-init g c = pass_begins g.S.Source g.O.Sink g.E.Sink c.args.elf.now c.args.outputs.now _

pub show-requires : goal.show-requires
show-requires g c =
    let count = ok_value_is _ _ c.shnum-s-end.ensures in
    subst (λ (o : Object). c.loop-s.s < length o.sections)
    (sym c.loop-s.invariant.way.elf.object) (omega (arith, count, c.loop-s-test.true))

pub loop-s-preserved : goal.loop-s-preserved
loop-s-preserved g c =
    let count = ok_value_is _ _ c.shnum-s-end.ensures in
    let report = g.T.SectionTool.report c.args.tool.now in
    pass_goes_on c.loop-s.invariant c.is_crowded-crowded.result (λ o. report o c.loop-s.s)
    (λ o. reports_of (report o) (drop (c.loop-s.s + 1) (all_sections o)))
    c.is_crowded-crowded.ensures (omega (arith, count, c.loop-s-test.true))
    (λ told. number_left (report c.args.elf.now.o) (length c.args.elf.now.o.sections) c.loop-s.s
    (omega (arith, count, c.loop-s-test.true)))
    c.in_ok-was_refused.ensures c.let_go.ensures refl

pub returns-in_err-was_refused : goal.returns-in_err-was_refused
returns-in_err-was_refused g c =
    let count = ok_value_is _ _ c.shnum-s-end.ensures in
    let report = g.T.SectionTool.report c.args.tool.now in
    let p = err_from_is_err_and c.from_residual.result c.from_residual.ensures.1 in
    rw (p.1, p.2) (elf_stops_at c.loop-s.invariant.way (λ o. report o c.loop-s.s)
    (λ o. reports_of (report o) (drop (c.loop-s.s + 1) (all_sections o)))
    (λ told. number_left (report c.args.elf.now.o) (length c.args.elf.now.o.sections) c.loop-s.s
    (omega (arith, count, c.loop-s-test.true)))
    c.in_err-was_refused.ensures)

pub returns : goal.returns
returns g c =
    let count = ok_value_is _ _ c.shnum-s-end.ensures in
    elf_is_given c.loop-s.invariant.way
    (λ told. no_number_left (g.T.SectionTool.report c.args.tool.now c.args.elf.now.o)
    (length c.args.elf.now.o.sections) c.loop-s.s (omega (arith, count, c.loop-s-test.false)))
