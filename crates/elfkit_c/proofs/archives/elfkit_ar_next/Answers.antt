use Rattle.std.proofs.Common.{◌≡◌, ◌⊎◌, length, ◌∙◌}
use Rattle.c_handles.specs.Objects.Objects.{SameImage}
use Rattle.c_handles.specs.declared.archives.opened.OpenArchive.{OpenArchive}
use Rattle.c_calls.specs.Archives.Steps.{bytes_of, Steps, BodyLiesIn}
use Rattle.elfkit_c.proofs.ArchiveLaws.{carried}
use Rattle.elfkit_c.proofs.archives.elfkit_ar_next.Goals as goal

pub returns-clause-steps : goal.returns-clause-steps
returns-clause-steps c =
    let step = c.next_member-number in
    carried (λ (o n : OpenArchive). Steps o n step.result c.args.out.now step.new.out)
    c.args.h.now c.put.new.self c.as_mut.result.now step.new.archive
    (c.as_mut.ensures.value ∙ c.take-archive.ensures.archive) c.put.ensures step.ensures.steps

pub returns-clause-lies : goal.returns-clause-lies
returns-clause-lies c =
    let step = c.next_member-number in
    carried (λ (o n : OpenArchive). (step.new.out ≡ c.args.out.now)
    ⊎ BodyLiesIn (length (bytes_of o)) step.new.out)
    c.args.h.now c.put.new.self c.as_mut.result.now step.new.archive
    (c.as_mut.ensures.value ∙ c.take-archive.ensures.archive) c.put.ensures step.ensures.lies

pub returns-clause-walks : goal.returns-clause-walks
returns-clause-walks c =
    let step = c.next_member-number in
    let taken = c.as_mut.ensures.value ∙ c.take-archive.ensures.archive in (
      c.put.ensures.0,
      carried (λ (o n : OpenArchive). SameImage o.ar.source n.ar.source)
          c.args.h.now c.put.new.self c.as_mut.result.now step.new.archive taken c.put.ensures
          step.ensures.image,
      carried (λ (o n : OpenArchive). n.symbols ≡ o.symbols)
          c.args.h.now c.put.new.self c.as_mut.result.now step.new.archive taken c.put.ensures
          step.ensures.symbols,
    )
