use Rattle.std.proofs.Common.{Ok, refl, sym, ap, ◌∙◌}
use Rattle.std.proofs.lemmas.Result.{err_from_is_err_and}
use Rattle.elf_types.specs.declared.records.Shdr.{Shdr}
use Rattle.elf_descriptor.specs.elf_object.Object.{section_at}
use Rattle.elf_descriptor.specs.elf_object.Calls.{shdr_answer}
use Rattle.elf_descriptor.proofs.elf_object.AnswerLaws.{shdr_value}
use Rattle.gelf_view.proofs.StringLemmas.{section_refused, other_type, other_pieces, are_strings}
use Rattle.gelf_view.proofs.string_calls.check_strings.Goals as goal
use Rattle.gelf_view.proofs.string_calls.check_strings.Goals.{then-header-ne-SHT_STRTAB-via-then-header-ne-SHT_STRTAB, then-header-ne-SHT_STRTAB-via-else-header-ne-SHT_STRTAB+then-not-are_of_bytes}

pub returns-in_err-header-clause-answer : goal.returns-in_err-header-clause-answer
unfolding shdr_answer
returns-in_err-header-clause-answer g c =
    let p = err_from_is_err_and c.from_residual.result c.from_residual.ensures.1 in
    let refused = (section_refused c.args.elf.now.o c.args.s.0 (section_at c.args.elf.now.o c.args.s.0).header c.in_err-header.field-0.0 (sym c.in_err-header.ensures)).0 in
    rw (p.1, p.2, refused) refl

pub returns-in_err-header-clause-err : goal.returns-in_err-header-clause-err
unfolding shdr_answer
returns-in_err-header-clause-err g c =
    let p = err_from_is_err_and c.from_residual.result c.from_residual.ensures.1 in
    rw (p.1, p.2) (section_refused c.args.elf.now.o c.args.s.0 (section_at c.args.elf.now.o c.args.s.0).header c.in_err-header.field-0.0 (sym c.in_err-header.ensures)).1

pub count_of_pieces-count-requires : goal.count_of_pieces-count-requires
count_of_pieces-count-requires g c = (shdr_value c.args.elf.now.o c.args.s.0 c.in_ok-header.header (sym c.in_ok-header.ensures)).0

pub are_of_bytes-requires-clause-section : goal.are_of_bytes-requires-clause-section
are_of_bytes-requires-clause-section g c = (shdr_value c.args.elf.now.o c.args.s.0 c.in_ok-header.header (sym c.in_ok-header.ensures)).0

pub returns-then-header-ne-SHT_STRTAB-clause-answer : goal.returns-then-header-ne-SHT_STRTAB-clause-answer
returns-then-header-ne-SHT_STRTAB-clause-answer g c =
    let header = shdr_value c.args.elf.now.o c.args.s.0 c.in_ok-header.header (sym c.in_ok-header.ensures) in
    elim c.then-header-ne-SHT_STRTAB.branch [
      | then-header-ne-SHT_STRTAB-via-then-header-ne-SHT_STRTAB w ↦
          other_type c.args.elf.now.o c.args.s.0 _ header.0 (λ is. w.if-header-ne-SHT_STRTAB.true (ap (λ (h : Shdr). h.stype) header.1 ∙ is))
      | then-header-ne-SHT_STRTAB-via-else-header-ne-SHT_STRTAB+then-not-are_of_bytes w ↦
          other_pieces c.args.elf.now.o c.args.s.0 _ header.0 (sym w.are_of_bytes.ensures ∙ w.if-not-are_of_bytes.true)
    ]

pub returns-clause-answer : goal.returns-clause-answer
returns-clause-answer g c =
    let header = shdr_value c.args.elf.now.o c.args.s.0 c.in_ok-header.header (sym c.in_ok-header.ensures) in
    ap Ok c.count_of_pieces-count.ensures
    ∙ are_strings c.args.elf.now.o c.args.s.0 _ header.0 (ap (λ (h : Shdr). h.stype) (sym header.1) ∙ c.if-header-ne-SHT_STRTAB.false) (sym c.are_of_bytes.ensures ∙ c.if-not-are_of_bytes.false)
