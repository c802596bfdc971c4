use Rattle.std.proofs.Common.{subst, ◌∙◌}
use Rattle.c_handles.specs.declared.archives.opened.OpenArchive.{OpenArchive}
use Rattle.c_records.specs.Gives.{GivesInCForm}
use Rattle.c_calls.specs.Archives.Forms.{symbol_record, archive_symbol_at}
use Rattle.elfkit_c.proofs.ArchiveLaws.{keeps_archive}
use Rattle.elfkit_c.proofs.archives.elfkit_ar_symbol.Goals as goal

pub returns-clause-gives : goal.returns-clause-gives
returns-clause-gives c =
    subst (λ (x : OpenArchive). GivesInCForm symbol_record (archive_symbol_at x.symbols c.args.i)
    c.give_symbol-number.result c.args.out.now c.give_symbol-number.new.out)
    (c.as_ref.ensures ∙ c.take-archive.ensures.archive) c.give_symbol-number.ensures

pub returns-clause-keeps : goal.returns-clause-keeps
returns-clause-keeps c =
    keeps_archive c.args.h.now c.put.new.self c.take-archive.result.value
    c.take-archive.ensures.archive c.put.ensures
