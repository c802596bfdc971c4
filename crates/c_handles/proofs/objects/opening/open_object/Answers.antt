use Rattle.std.proofs.Common.{ap, sym, ◌∙◌, subst}
use Rattle.elf_object.specs.Open.{opened}
use Rattle.c_handles.specs.declared.lent.loan.Loan.{Loan}
use Rattle.c_handles.specs.Objects.Objects.{IsLentAs, IsLoanOf}
use Rattle.c_handles.proofs.objects.ImageLaws.{begun_told}
use Rattle.c_handles.proofs.objects.Openings.{is_lent, still_lent, comes_back, refused_opens, boxed_opens, boxed_lent, boxed_back}
use Rattle.c_handles.proofs.objects.opening.open_object.Goals as goal

pub box_object-requires : goal.box_object-requires
box_object-requires c = begun_told _ c.in-Ok.elf c.in-Ok.ensures.begun

pub returns-in-Ok-clause-opens : goal.returns-in-Ok-clause-opens
returns-in-Ok-clause-opens c =
    let lent = is_lent c.args.image c.of.result c.new.result c.new.ensures.loan c.of.ensures
    c.new.ensures.writes.0 c.new.ensures.writes.1 in
    boxed_opens c.in-Ok.elf c.box_object.result (opened c.args.image.bytes)
    (ap opened (sym lent.3) ∙ c.in-Ok.ensures.answer)
    c.box_object.ensures.object c.box_object.ensures.back

pub returns-in-Ok-clause-lent : goal.returns-in-Ok-clause-lent
returns-in-Ok-clause-lent c =
    boxed_lent c.in-Ok.elf c.box_object.result c.args.image
    (still_lent c.args.image c.new.result c.in-Ok.elf.source
    (is_lent c.args.image c.of.result c.new.result c.new.ensures.loan c.of.ensures
    c.new.ensures.writes.0 c.new.ensures.writes.1)
    c.in-Ok.ensures.asks.leaves)
    c.box_object.ensures.object

pub returns-in-Ok-clause-back : goal.returns-in-Ok-clause-back
returns-in-Ok-clause-back c =
    boxed_back c.in-Ok.elf c.box_object.result c.args.image
    (still_lent c.args.image c.new.result c.in-Ok.elf.source
    (is_lent c.args.image c.of.result c.new.result c.new.ensures.loan c.of.ensures
    c.new.ensures.writes.0 c.new.ensures.writes.1)
    c.in-Ok.ensures.asks.leaves)
    c.box_object.ensures.back

pub returns-in-Err-clause-opens : goal.returns-in-Err-clause-opens
returns-in-Err-clause-opens c =
    let lent = is_lent c.args.image c.of.result c.new.result c.new.ensures.loan c.of.ensures
    c.new.ensures.writes.0 c.new.ensures.writes.1 in
    refused_opens c.args.image.bytes c.new.result c.in-Err.e lent.3 c.in-Err.ensures.asks.read
    c.in-Err.ensures.answer

pub returns-in-Err-clause-back : goal.returns-in-Err-clause-back
returns-in-Err-clause-back c =
    comes_back c.args.image c.in-Err.image c.back.result
    (still_lent c.args.image c.new.result c.in-Err.image
    (is_lent c.args.image c.of.result c.new.result c.new.ensures.loan c.of.ensures
    c.new.ensures.writes.0 c.new.ensures.writes.1)
    c.in-Err.ensures.asks.leaves)
    (subst (λ (l : Loan). IsLoanOf l c.back.result) c.into_loan.ensures c.back.ensures)
