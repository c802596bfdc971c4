use Rattle.std.proofs.Common.{sym, ◌∙◌}
use Rattle.rebuild_select.proofs.NameLaws.{ok_injective}
use Rattle.rebuild_numbers.proofs.kept.KeptLaws.{kept_below, renews_where, renews_not}
use Rattle.rebuild_numbers.proofs.kept.names.renews_names.Goals as goal

pub has_names_alone-requires : goal.has_names_alone-requires
has_names_alone-requires g c =
    kept_below c.args.elf.now.o c.args.removed.now c.shstrndx-names.result
    (sym c.is_kept.ensures ∙ c.if-is_kept.true)

pub returns-then-is_kept : goal.returns-then-is_kept
returns-then-is_kept g c =
    renews_where c.args.elf.now.o c.args.removed.now c.shstrndx-names.result
    c.has_names_alone.result (ok_injective _ _ c.shstrndx-names.ensures)
    (sym c.is_kept.ensures ∙ c.if-is_kept.true) c.has_names_alone.ensures

pub returns : goal.returns
returns g c =
    renews_not c.args.elf.now.o c.args.removed.now c.shstrndx-names.result
    (ok_injective _ _ c.shstrndx-names.ensures) (sym c.is_kept.ensures ∙ c.if-is_kept.false)
