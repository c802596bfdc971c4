use Rattle.std.proofs.Common.{◌≡◌, inl, inr, refl, sym, ap, ◌∙◌, subst}
use Rattle.elf_types.specs.declared.errors.ElfError.TheVariants.{TooMany}
use Rattle.c_handles.specs.declared.layout.planned.PlannedLayout.{PlannedLayout}
use Rattle.c_records.specs.Codes.{code}
use Rattle.c_calls.specs.Layout.Plans.{IsLayoutFor}
use Rattle.elfkit_c.proofs.layout.elfkit_lay_out.Goals as goal

pub returns-in-Ok-clause-lays_out : goal.returns-in-Ok-clause-lays_out
returns-in-Ok-clause-lays_out c =
    inl (
      refl,
      c.put.ensures.0,
      subst (λ (x : PlannedLayout). IsLayoutFor c.args.ehdr.now c.args.pad.now c.args.phdrs.now
          c.args.shdrs.now c.args.base x) (sym c.put.ensures.1) c.in-Ok.ensures.lays_out,
    )

pub returns-in-Err-clause-lays_out : goal.returns-in-Err-clause-lays_out
returns-in-Err-clause-lays_out c =
    inr (c.requires.empty, (c.in-Err.e, c.code_of.ensures, c.in-Err.ensures.lays_out))

pub returns-in-Ok-clause-many : goal.returns-in-Ok-clause-many
returns-in-Ok-clause-many c = λ many. let never = c.in-Ok.ensures.many many in cc

pub returns-in-Err-clause-many : goal.returns-in-Err-clause-many
returns-in-Err-clause-many c = λ many.
    let told = c.in-Err.ensures.many many in
    let is : c.in-Err.e ≡ TooMany = cc in
    c.code_of.ensures ∙ ap code is
