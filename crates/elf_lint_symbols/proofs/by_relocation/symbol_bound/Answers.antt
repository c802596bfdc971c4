use Rattle.std.proofs.Common.{◌≡◌, ℕ, length, None, Some, ap, sym, ◌∙◌, subst}
use Rattle.elf_types.specs.declared.records.Shdr.{Shdr}
use Rattle.elf_types.specs.declared.records.Kind.TheVariants as kinds
use Rattle.tool_objects.specs.elf_object.Answers.{count_at, lend_refusal}
use Rattle.tool_objects.proofs.elf_object.AnswerLaws.{answered_refusal}
use Rattle.elf_lint_findings.specs.Looking.{is_symbol_table, section_symbols}
use Rattle.elf_lint_findings.proofs.LentLemmas.{symbols_counted}
use Rattle.elf_lint_symbols.proofs.RelocationLemmas.{bound_one, bound_counted, bound_no_table, bound_refused}
use Rattle.elf_lint_symbols.proofs.by_relocation.symbol_bound.Goals as goal

pub returns-then-link-eq-SHN_UNDEF : goal.returns-then-link-eq-SHN_UNDEF
returns-then-link-eq-SHN_UNDEF g c =
    let here = ap (λ (h : Shdr). h.link) c.section_header-link.ensures in
    sym (bound_one c.args.elf.now.o c.args.s.0 (sym here ∙ c.if-link-eq-SHN_UNDEF.true))

pub returns-then-not-is_symbol_table_header : goal.returns-then-not-is_symbol_table_header
returns-then-not-is_symbol_table_header g c =
    let here = ap (λ (h : Shdr). h.link) c.section_header-link.ensures in
    sym (bound_no_table c.args.elf.now.o c.args.s.0 (λ e. c.if-link-eq-SHN_UNDEF.false (here ∙ e))
    (sym (c.is_symbol_table_header.ensures ∙ ap is_symbol_table c.linked_header.ensures) ∙ c.if-not-is_symbol_table_header.true))

pub returns-in-Ok : goal.returns-in-Ok
returns-in-Ok g c =
    let o = c.args.elf.now.o in
    let n = c.in-Ok.count in
    let here = ap (λ (h : Shdr). h.link) c.section_header-link.ensures in
    let counted = subst (λ (l : ℕ). (lend_refusal o kinds.Sym l 0 ≡ None) × (n ≡ length (section_symbols o l))) here (symbols_counted o c.section_header-link.result.link n c.in-Ok.ensures.answer) in
    sym (bound_counted o c.args.s.0 n (λ e. c.if-link-eq-SHN_UNDEF.false (here ∙ e))
    (sym (c.is_symbol_table_header.ensures ∙ ap is_symbol_table c.linked_header.ensures) ∙ c.if-not-is_symbol_table_header.false) counted.0 counted.1)

pub returns-in-Err : goal.returns-in-Err
returns-in-Err g c =
    let o = c.args.elf.now.o in
    let e = c.in-Err.field-0 in
    let l = c.section_header-link.result.link in
    let here = ap (λ (h : Shdr). h.link) c.section_header-link.ensures in
    let refused = subst (λ (l : ℕ). lend_refusal o kinds.Sym l 0 ≡ Some e) here (answered_refusal (lend_refusal o kinds.Sym l 0) (count_at o l 0) e (sym c.in-Err.ensures.answer)) in
    sym (bound_refused o c.args.s.0 e (λ e. c.if-link-eq-SHN_UNDEF.false (here ∙ e))
    (sym (c.is_symbol_table_header.ensures ∙ ap is_symbol_table c.linked_header.ensures) ∙ c.if-not-is_symbol_table_header.false) refused)
