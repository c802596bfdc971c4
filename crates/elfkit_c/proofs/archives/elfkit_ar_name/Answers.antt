use Rattle.std.proofs.Common.{length, sym, ap, ◌∙◌}
use Rattle.c_handles.specs.declared.archives.opened.OpenArchive.{OpenArchive}
use Rattle.elfkit_c.proofs.ArchiveLaws.{keeps_archive}
use Rattle.elfkit_c.proofs.archives.elfkit_ar_name.Goals as goal

pub give_name-requires : goal.give_name-requires
give_name-requires c =
    c.requires.room ∙ ap (λ (x : OpenArchive). length x.name)
    (sym (c.as_ref.ensures ∙ c.take-archive.ensures.archive))

pub returns-clause-name : goal.returns-clause-name
returns-clause-name c =
    c.give_name.ensures ∙ ap (λ (x : OpenArchive). x.name)
    (c.as_ref.ensures ∙ c.take-archive.ensures.archive)

pub returns-clause-keeps : goal.returns-clause-keeps
returns-clause-keeps c =
    keeps_archive c.args.h.now c.put.new.self c.take-archive.result.value
    c.take-archive.ensures.archive c.put.ensures
