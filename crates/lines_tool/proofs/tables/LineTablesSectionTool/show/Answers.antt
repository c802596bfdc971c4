use Rattle.std.proofs.Common.{IfErr, Result, List, ℕ, ap, sym, ◌∙◌, subst}
use Rattle.std.specs.Borrow.{Bor}
use Rattle.elf_types.specs.declared.records.Ehdr.{Ehdr}
use Rattle.elf_types.specs.declared.records.Shdr.{Shdr}
use Rattle.elf_types.specs.declared.errors.ElfError.{ElfError}
use Rattle.elf_types.specs.Kinds.{is_compressed}
use Rattle.elf_outside.specs.Asks.{ReadRose}
use Rattle.elf_object.specs.Object.{header_of}
use Rattle.tool_objects.proofs.AnswerLemmas.{answers_stated}
use Rattle.tool_objects.proofs.ElfSteps.{elf_says, elf_refuses}
use Rattle.tool_objects.proofs.QueryLemmas.{queried, settled_by, settled_ok}
use Rattle.tool_objects.proofs.OnceReads.{once_unless}
use Rattle.tool_objects.proofs.OnceSums.{once_one}
use Rattle.tool_objects.specs.Steps.{LeavesElfBy}
use Rattle.elf_types.specs.Answers.{IsRefusal}
use Rattle.tool_objects.proofs.SectionLemmas.{ok_value_is}
use Rattle.lines_tool.specs.Tables.{line_section_report}
use Rattle.lines_tool.proofs.TableLemmas.{section_out, section_table}
use Rattle.lines_tool.proofs.tables.LineTablesSectionTool.show.Goals as goal

pub returns-in-Ok : goal.returns-in-Ok
unfolding header_of
returns-in-Ok g c =
    let name = c.args.self.now.name.now in
    let s = c.args.s.0 in
    let header = ok_value_is _ _ c.ehdr-class.ensures in
    let plain = ap (λ (h : Shdr). is_compressed h.flags) (sym c.section_header.ensures) ∙ sym c.is_compressed.ensures ∙ c.if-is_compressed.false in
    elf_says g.S.Source g.O.Sink g.E.Sink (λ o. line_section_report name o s) _ c.args.elf.now _ c.args.outputs.now _
    (settled_by g.S.Source _ _ c.raw.result c.args.elf.now _ c.raw.follows.holds-at-none.queries (once_unless _ _ (once_one _)) (settled_ok c.in-Ok.is))
    (λ told. rw (section_table name c.args.elf.now.o s _ _ _ plain (ap (λ (h : Ehdr). h.class) header) (ap (λ (h : Ehdr). h.order) header)
    (c.in-Ok.ensures.answer.1 told)) c.show_table.ensures.reports)
    c.show_table.ensures.leaves

pub returns-in-Err : goal.returns-in-Err
returns-in-Err g c =
    let name = c.args.self.now.name.now in
    let s = c.args.s.0 in
    let query = c.raw.follows.holds-at-none.queries in
    elf_refuses g.S.Source g.O.Sink g.E.Sink (λ o. line_section_report name o s) (Bor (List ℕ)) c.in-Err.e _ _ c.args.elf.now _ c.args.outputs.now _
    (subst (λ (r : Result (Bor (List ℕ)) ElfError). LeavesElfBy g.S.Source (IfErr r IsRefusal) c.args.elf.now c.raw.follows.lender-at-none) c.in-Err.is
    (queried g.S.Source _ _ c.raw.result c.args.elf.now _ query (once_unless _ _ (once_one _))))
    (subst (λ (r : Result (Bor (List ℕ)) ElfError). ReadRose r (g.S.Source.faults c.args.elf.now.source) (g.S.Source.faults c.raw.follows.lender-at-none.source)) c.in-Err.is query.reads.source.read)
    (λ told none. section_out name c.args.elf.now.o s c.in-Err.e (answers_stated c.args.elf.now.told _ c.in-Err.e _ c.in-Err.ensures.answer none))
    c.refuse_by.ensures.reports c.refuse_by.ensures.stops c.refuse_by.ensures.leaves
