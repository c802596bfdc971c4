use Rattle.std.proofs.Common.{inl, inr, Ok, refl, sym, ap, ◌∙◌, subst}
use Rattle.ar_members.specs.Archives.{begun_walk}
use Rattle.c_handles.specs.Objects.Objects.{IsLentAs}
use Rattle.c_handles.specs.declared.archives.opened.OpenArchive.{OpenArchive}
use Rattle.elfkit_c.proofs.Refusals.{refused}
use Rattle.elfkit_c.proofs.archives.elfkit_ar_begin.Goals as goal

pub returns-in-Ok-clause-begins : goal.returns-in-Ok-clause-begins
returns-in-Ok-clause-begins c =
    inl (
      refl,
      c.put.ensures.0,
      c.in-Ok.ensures.opens ∙ ap (λ (x : OpenArchive). Ok x.ar.walk) (sym c.put.ensures.1),
      subst (λ (x : OpenArchive). IsLentAs c.args.image x.ar.source) (sym c.put.ensures.1)
          c.in-Ok.ensures.lent,
    )

pub returns-in-Err-clause-begins : goal.returns-in-Err-clause-begins
returns-in-Err-clause-begins c =
    inr (
      c.requires.empty,
      refused (begun_walk c.args.image.bytes) c.in-Err.e c.code_of.result c.code_of.ensures
          c.in-Err.ensures.opens,
    )
