use Rattle.std.proofs.Common.{◌≡◌, length, slice_get, IfSome, sym, subst, ◌∙◌}
use Rattle.c_handles.specs.declared.archives.opened.OpenArchive.{OpenArchive}
use Rattle.elfkit_c.proofs.ArchiveLaws.{keeps_archive}
use Rattle.elfkit_c.proofs.archives.elfkit_ar_symbol_name.Goals as goal

pub give_symbol_name-requires : goal.give_symbol_name-requires
give_symbol_name-requires c =
    subst (λ (x : OpenArchive). IfSome (slice_get x.symbols c.args.i)
    (λ symbol. length c.args.out.now ≡ length symbol.name))
    (sym (c.as_ref.ensures ∙ c.take-archive.ensures.archive)) c.requires.room

pub returns-clause-name : goal.returns-clause-name
returns-clause-name c =
    subst (λ (x : OpenArchive). IfSome (slice_get x.symbols c.args.i)
    (λ symbol. c.give_symbol_name.new.out ≡ symbol.name))
    (c.as_ref.ensures ∙ c.take-archive.ensures.archive) c.give_symbol_name.ensures

pub returns-clause-keeps : goal.returns-clause-keeps
returns-clause-keeps c =
    keeps_archive c.args.h.now c.put.new.self c.take-archive.result.value
    c.take-archive.ensures.archive c.put.ensures
