use Rattle.std.proofs.Common.{inl, inr, Ok, refl, sym, ap, ◌∙◌, subst}
use Rattle.elf_object.specs.Open.{opened}
use Rattle.c_handles.specs.Objects.Objects.{IsLentAs}
use Rattle.c_handles.specs.declared.objects.opened.OpenObject.{OpenObject}
use Rattle.elfkit_c.proofs.Refusals.{refused}
use Rattle.elfkit_c.proofs.opening.elfkit_begin.Goals as goal

pub returns-in-Ok-clause-begins : goal.returns-in-Ok-clause-begins
returns-in-Ok-clause-begins c =
    inl (
      refl,
      c.put.ensures.0,
      c.in-Ok.ensures.opens ∙ ap (λ (x : OpenObject). Ok x.elf.o) (sym c.put.ensures.1),
      subst (λ (x : OpenObject). IsLentAs c.args.image x.elf.source) (sym c.put.ensures.1)
          c.in-Ok.ensures.lent,
    )

pub returns-in-Err-clause-begins : goal.returns-in-Err-clause-begins
returns-in-Err-clause-begins c =
    inr (
      c.requires.empty,
      refused (opened c.args.image.bytes) c.in-Err.e c.code_of.result c.code_of.ensures
          c.in-Err.ensures.opens,
    )
