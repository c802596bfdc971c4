use Rattle.std.proofs.Common.{refl, ◌∙◌}
use Rattle.elf_update_plan.proofs.RowLaws.{ok_is}
use Rattle.rebuild_keep.proofs.NumberLaws.{numbering_told}
use Rattle.rebuild_keep.proofs.keeping.keep_sections.Goals as goal

pub returns-in-Ok-make_names-clause-keeps : goal.returns-in-Ok-make_names-clause-keeps
returns-in-Ok-make_names-clause-keeps g c = (
  refl,
  record {
    numbering_is = c.in-Ok.ensures.ok
        ∙ numbering_told c.args.elf.now.o c.args.removed.now c.shnum.result
        (ok_is _ _ c.shnum.ensures);
    tables_are = c.in-Ok-extended_tables.ensures.ok;
    renews = c.in-Ok-make_names.ensures.renews;
    names_are = c.in-Ok-make_names.ensures.told;
  },
)
