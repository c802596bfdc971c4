use Rattle.std.proofs.Common.{Box, Global, Result, Ok, Err, inl, inr, refl, sym, subst}
use Rattle.elf_types.specs.declared.errors.ElfError.{ElfError}
use Rattle.elf_object.specs.Calls.{update_null}
use Rattle.c_handles.specs.declared.objects.opened.OpenObject.{OpenObject}
use Rattle.c_handles.specs.declared.writes.planned.PlannedWrites.{PlannedWrites}
use Rattle.c_calls.specs.Writes.Plans.{WritesMakeImage, Plans}
use Rattle.elfkit_c.proofs.Refusals.{refused}
use Rattle.elfkit_c.proofs.writes.elfkit_plan.Goals as goal

pub returns-in-Ok-clause-plans : goal.returns-in-Ok-clause-plans
returns-in-Ok-clause-plans c =
    let elf = c.args.h.now.held.elf in
    let plans : Plans elf c.plan_writes-lent.result.1 =
    subst (λ (x : OpenObject). Plans x.elf c.plan_writes-lent.result.1)
    c.take-object.ensures.object c.plan_writes-lent.ensures.plans in
    let made : Plans elf (Ok c.in-Ok.writes) =
    subst (λ (r : Result (Box PlannedWrites Global) ElfError). Plans elf r) c.in-Ok.is plans in
    inl (
      refl,
      c.put.ensures.0,
      made.0,
      subst (λ (x : PlannedWrites). WritesMakeImage elf x.list) (sym c.put.ensures.1) made.1,
    )

pub returns-in-Err-clause-plans : goal.returns-in-Err-clause-plans
returns-in-Err-clause-plans c =
    let elf = c.args.h.now.held.elf in
    let plans : Plans elf c.plan_writes-lent.result.1 =
    subst (λ (x : OpenObject). Plans x.elf c.plan_writes-lent.result.1)
    c.take-object.ensures.object c.plan_writes-lent.ensures.plans in
    let not_made : Plans {A = Global} elf (Err c.in-Err.e) =
    subst (λ (r : Result (Box PlannedWrites Global) ElfError). Plans elf r) c.in-Err.is plans in
    inr (
      c.requires.empty,
      refused (update_null.answer elf.o) c.in-Err.e c.code_of.result c.code_of.ensures not_made,
    )
