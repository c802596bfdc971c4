use Rattle.std.proofs.Common.{ℕ, List, Result, ap, ◌∙◌, subst}
use Rattle.elf_types.specs.declared.errors.ElfError.{ElfError}
use Rattle.c_handles.specs.declared.lent.loan.Loan.{Loan}
use Rattle.c_handles.specs.declared.lent.image.LentImage.{LentImage}
use Rattle.c_handles.specs.declared.lent.writes.KeptWrite.{KeptWrite}
use Rattle.c_handles.specs.declared.objects.opened.OpenObject.{OpenObject}
use Rattle.c_handles.specs.Objects.Objects.{IsLoanOf}
use Rattle.c_calls.specs.Writes.Plans.{write_fault_as_memory, Boxes, Plans}
use Rattle.c_calls.proofs.writes.PlanLaws.{Updated, loan_stays, goes_back, planned}
use Rattle.c_calls.proofs.writes.planning.plan_writes.Goals as goal

pub returns-clause-back : goal.returns-clause-back
returns-clause-back c =
    let r : Result ℕ ElfError = c.update_in_place.result in
    let old = c.into_inner-elf.result.elf in let new = c.update_in_place.new.elf in
    let u : Updated r old new = record {
      answer = c.update_in_place.ensures.answer;
      clean = c.update_in_place.ensures.clean;
      whole = c.update_in_place.ensures.whole;
      ends = c.update_in_place.ensures.ends;
      updates = c.update_in_place.ensures.updates;
    } in
    let left : IsLoanOf new.source.loan c.back.result =
    subst (λ (l : Loan). IsLoanOf l c.back.result)
    (c.into_parts-loan.ensures.0 ∙ ap (λ (i : LentImage). i.loan) c.end.ensures) c.back.ensures in
    subst (λ (x : OpenObject). IsLoanOf x.elf.source.loan c.back.result)
    c.into_inner-elf.ensures
    (goes_back old.source.loan new.source.loan c.back.result left (loan_stays r old new u))

pub returns-clause-plans : goal.returns-clause-plans
returns-clause-plans c =
    let r : Result ℕ ElfError = c.update_in_place.result in
    let old = c.into_inner-elf.result.elf in let new = c.update_in_place.new.elf in
    let u : Updated r old new = record {
      answer = c.update_in_place.ensures.answer;
      clean = c.update_in_place.ensures.clean;
      whole = c.update_in_place.ensures.whole;
      ends = c.update_in_place.ensures.ends;
      updates = c.update_in_place.ensures.updates;
    } in
    let boxed : Boxes new.source.writes (write_fault_as_memory r) c.box_writes.result =
    subst (λ (ws : List KeptWrite). Boxes ws (write_fault_as_memory r) c.box_writes.result)
    (c.into_parts-loan.ensures.1 ∙ ap (λ (i : LentImage). i.writes) c.end.ensures)
    (subst (λ (d : Result (Unit {0}) ElfError).
    Boxes c.into_parts-loan.result.1 d c.box_writes.result) c.kept-done.ensures
    c.box_writes.ensures) in
    subst (λ (x : OpenObject). Plans x.elf c.box_writes.result) c.into_inner-elf.ensures
    (planned r old new c.box_writes.result u boxed)
