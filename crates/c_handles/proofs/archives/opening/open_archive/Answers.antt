use Rattle.std.proofs.Common.{ap, sym, ◌∙◌, subst}
use Rattle.ar_members.specs.Archives.{Archive, begun_walk}
use Rattle.c_handles.specs.declared.lent.image.LentImage.{LentImage}
use Rattle.c_handles.specs.declared.lent.loan.Loan.{Loan}
use Rattle.c_handles.specs.Objects.Objects.{IsLentAs, IsLoanOf}
use Rattle.c_handles.proofs.objects.Openings.{is_lent, still_lent, comes_back}
use Rattle.c_handles.proofs.archives.Openings.{refused_opens, boxed_opens, boxed_lent, boxed_back}
use Rattle.c_handles.proofs.archives.opening.open_archive.Goals as goal

pub returns-in-Ok-clause-opens : goal.returns-in-Ok-clause-opens
returns-in-Ok-clause-opens c =
    let lent = is_lent c.args.image c.of.result c.new.result c.new.ensures.loan c.of.ensures
    c.new.ensures.writes.0 c.new.ensures.writes.1 in
    boxed_opens c.in-Ok.ar c.box_archive.result (begun_walk c.args.image.bytes)
    (ap begun_walk (sym lent.3) ∙ c.in-Ok.ensures.begun)
    c.box_archive.ensures.archive c.box_archive.ensures.back

pub returns-in-Ok-clause-lent : goal.returns-in-Ok-clause-lent
returns-in-Ok-clause-lent c =
    boxed_lent c.in-Ok.ar c.box_archive.result c.args.image
    (still_lent c.args.image c.new.result c.in-Ok.ar.source
    (is_lent c.args.image c.of.result c.new.result c.new.ensures.loan c.of.ensures
    c.new.ensures.writes.0 c.new.ensures.writes.1)
    c.in-Ok.ensures.asks.leaves)
    c.box_archive.ensures.archive

pub returns-in-Ok-clause-back : goal.returns-in-Ok-clause-back
returns-in-Ok-clause-back c =
    boxed_back c.in-Ok.ar c.box_archive.result c.args.image
    (still_lent c.args.image c.new.result c.in-Ok.ar.source
    (is_lent c.args.image c.of.result c.new.result c.new.ensures.loan c.of.ensures
    c.new.ensures.writes.0 c.new.ensures.writes.1)
    c.in-Ok.ensures.asks.leaves)
    c.box_archive.ensures.back

pub returns-in-Err-clause-opens : goal.returns-in-Err-clause-opens
returns-in-Err-clause-opens c =
    let lent = is_lent c.args.image c.of.result c.new.result c.new.ensures.loan c.of.ensures
    c.new.ensures.writes.0 c.new.ensures.writes.1 in
    refused_opens (Archive LentImage) c.args.image.bytes c.new.result c.in-Err.e lent.3 c.in-Err.ensures.asks.read
    c.in-Err.ensures.begun

pub returns-in-Err-clause-back : goal.returns-in-Err-clause-back
returns-in-Err-clause-back c =
    comes_back c.args.image c.in-Err.image c.back.result
    (still_lent c.args.image c.new.result c.in-Err.image
    (is_lent c.args.image c.of.result c.new.result c.new.ensures.loan c.of.ensures
    c.new.ensures.writes.0 c.new.ensures.writes.1)
    c.in-Err.ensures.asks.leaves)
    (subst (λ (l : Loan). IsLoanOf l c.back.result) c.into_loan.ensures c.back.ensures)
