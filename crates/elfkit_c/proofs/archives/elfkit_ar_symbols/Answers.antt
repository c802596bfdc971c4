use Rattle.std.proofs.Common.{◌≡◌, ◌∙◌}
use Rattle.ar_members.specs.Symbols.{arsyms}
use Rattle.c_handles.specs.Objects.Objects.{SameImage}
use Rattle.c_handles.specs.declared.archives.opened.OpenArchive.{OpenArchive}
use Rattle.c_calls.specs.Archives.Forms.{counted_symbols}
use Rattle.c_calls.specs.Archives.Steps.{bytes_of, GivesOrWants}
use Rattle.elfkit_c.proofs.ArchiveLaws.{carried}
use Rattle.elfkit_c.proofs.archives.elfkit_ar_symbols.Goals as goal

pub returns-clause-gives : goal.returns-clause-gives
returns-clause-gives c =
    let read = c.list_symbols-number in
    carried (λ (o n : OpenArchive). GivesOrWants counted_symbols (arsyms (bytes_of o)) read.result
    (c.args.count.now, o.symbols) (read.new.count, n.symbols))
    c.args.h.now c.put.new.self c.as_mut.result.now read.new.archive
    (c.as_mut.ensures.value ∙ c.take-archive.ensures.archive) c.put.ensures read.ensures.gives

pub returns-clause-lists : goal.returns-clause-lists
returns-clause-lists c =
    let read = c.list_symbols-number in
    let taken = c.as_mut.ensures.value ∙ c.take-archive.ensures.archive in (
      c.put.ensures.0,
      carried (λ (o n : OpenArchive). SameImage o.ar.source n.ar.source)
          c.args.h.now c.put.new.self c.as_mut.result.now read.new.archive taken c.put.ensures
          read.ensures.image,
      carried (λ (o n : OpenArchive). n.ar.walk ≡ o.ar.walk)
          c.args.h.now c.put.new.self c.as_mut.result.now read.new.archive taken c.put.ensures
          read.ensures.walk,
      carried (λ (o n : OpenArchive). n.name ≡ o.name)
          c.args.h.now c.put.new.self c.as_mut.result.now read.new.archive taken c.put.ensures
          read.ensures.name,
    )
