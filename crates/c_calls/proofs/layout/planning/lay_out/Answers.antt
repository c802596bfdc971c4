use Rattle.std.proofs.Common.{Err, ap, ◌∙◌}
use Rattle.elf_types.specs.Answers.{answered}
use Rattle.elf_types.specs.declared.errors.ElfError.{ElfError}
use Rattle.elf_types.specs.declared.records.Class.{Class}
use Rattle.elf_update_plan.proofs.PlacingLaws.{passed_from}
use Rattle.c_calls.specs.Layout.Listed.{counts_refusal, segments_refusal}
use Rattle.c_calls.proofs.layout.CountLaws.{not_many, is_many}
use Rattle.c_calls.proofs.layout.StatedLaws.{refused_counts, refused_segments}
use Rattle.c_calls.proofs.layout.planning.lay_out.Goals as goal

pub returns-in-Err-clause-lays_out : goal.returns-in-Err-clause-lays_out
returns-in-Err-clause-lays_out c = λ o is.
    refused_counts o c.args.ehdr.now c.args.pad.now c.args.phdrs.now c.args.shdrs.now
    c.args.base is c.in-Err.e c.in-Err.ensures

pub returns-in-Err-clause-many : goal.returns-in-Err-clause-many
returns-in-Err-clause-many c = λ many.
    ap (λ (e : ElfError). Err e)
    (is_many c.args.phdrs.now c.args.shdrs.now c.in-Err.e c.in-Err.ensures many)

pub returns-in-Err-check_segments-clause-lays_out :
    goal.returns-in-Err-check_segments-clause-lays_out
returns-in-Err-check_segments-clause-lays_out c = λ o is.
    refused_segments o c.args.ehdr.now c.args.pad.now c.args.phdrs.now c.args.shdrs.now
    c.args.base is c.in-Err-check_segments.e
    (passed_from (counts_refusal c.args.phdrs.now c.args.shdrs.now) c.in_default.ensures)
    (c.in-Err-check_segments.ensures
    ∙ ap (λ (class : Class). answered (segments_refusal class c.args.phdrs.now) tt)
    c.class_from.ensures)

pub returns-in-Err-check_segments-clause-many : goal.returns-in-Err-check_segments-clause-many
returns-in-Err-check_segments-clause-many c = λ many.
    absurd (not_many c.args.phdrs.now c.args.shdrs.now
    (passed_from (counts_refusal c.args.phdrs.now c.args.shdrs.now) c.in_default.ensures) many)

pub returns-in-Err-plan_headers-clause-many : goal.returns-in-Err-plan_headers-clause-many
returns-in-Err-plan_headers-clause-many c = λ many.
    absurd (not_many c.args.phdrs.now c.args.shdrs.now
    (passed_from (counts_refusal c.args.phdrs.now c.args.shdrs.now) c.in_default.ensures) many)

pub returns-in-Ok-new-clause-many : goal.returns-in-Ok-new-clause-many
returns-in-Ok-new-clause-many c = λ many.
    absurd (not_many c.args.phdrs.now c.args.shdrs.now
    (passed_from (counts_refusal c.args.phdrs.now c.args.shdrs.now) c.in_default.ensures) many)

pub returns-in-Err-new-clause-many : goal.returns-in-Err-new-clause-many
returns-in-Err-new-clause-many c = λ many.
    absurd (not_many c.args.phdrs.now c.args.shdrs.now
    (passed_from (counts_refusal c.args.phdrs.now c.args.shdrs.now) c.in_default.ensures) many)
