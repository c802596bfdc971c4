use Rattle.std.proofs.Common.{Bool, refl}
use Rattle.std.proofs.lemmas.Result.{err_from_is_err_and}
use Rattle.gelf_view.specs.elf_object.Object.{Object}
use Rattle.gelf_view.specs.elf_object.Strings as strings
use Rattle.tool_output.specs.Reports.{no_report}
use Rattle.tool_objects.specs.Sections.{report_if}
use Rattle.tool_objects.proofs.ElfSteps.{elf_left, elf_learns, elf_learns_none, elf_says_none}
use Rattle.tool_objects.proofs.names.NamedSectionTool.show.Goals as goal

pub returns-in_err-has_section_name : goal.returns-in_err-has_section_name
returns-in_err-has_section_name g c =
    let p = err_from_is_err_and c.from_residual.result c.from_residual.ensures.1 in
    rw (p.1, p.2) (elf_learns_none g.S.Source g.O.Sink g.E.Sink _ c.args.elf.now _ _ _ c.args.outputs.now c.in_err-has_section_name.ensures)

pub returns-then-branch : goal.returns-then-branch
returns-then-branch g c =
    let named = λ (o : Object). strings.is_name c.as_bytes.result.now (strings.section_name o c.args.s.0) in
    let report = g.T.SectionTool.report c.args.self.now.tool.now in
    rw (← c.as_bytes.ensures.value) (elf_learns g.S.Source g.O.Sink g.E.Sink named c.args.elf.now _ c.in_ok-has_section_name.field-0 (λ (b : Bool) (o : Object). report_if b (report o c.args.s.0)) _ _ c.args.outputs.now _
    c.in_ok-has_section_name.ensures (rw c.if-branch.true c.show.ensures))

pub returns-else-branch : goal.returns-else-branch
returns-else-branch g c =
    let named = λ (o : Object). strings.is_name c.as_bytes.result.now (strings.section_name o c.args.s.0) in
    let report = g.T.SectionTool.report c.args.self.now.tool.now in
    rw (← c.as_bytes.ensures.value) (elf_learns g.S.Source g.O.Sink g.E.Sink named c.args.elf.now _ c.in_ok-has_section_name.field-0 (λ (b : Bool) (o : Object). report_if b (report o c.args.s.0)) _ _ c.args.outputs.now _
    c.in_ok-has_section_name.ensures
    (rw c.if-branch.false (elf_says_none g.S.Source g.O.Sink g.E.Sink (λ o. no_report) c.has_section_name.new.elf _ c.args.outputs.now (elf_left g.S.Source c.has_section_name.new.elf) (λ told. refl))))
