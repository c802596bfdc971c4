use Rattle.std.proofs.Common.{◌≡◌, List, None, sym, ap, ◌∙◌, subst}
use Rattle.elf_types.specs.declared.records.Kind.TheVariants as kinds
use Rattle.elf_types.specs.declared.records.Sym.{Sym}
use Rattle.elf_xlate.specs.declared.content.Items.TheVariants as items
use Rattle.elf_xlate.specs.Translation.{first_unfit}
use Rattle.rebuild_image.specs.elf_object.Answers.{syms_of}
use Rattle.rebuild_keep.proofs.DecodeLaws.{decodes_value}
use Rattle.rebuild_keep.proofs.FitLaws.{among_fit}
use Rattle.rebuild_tables.proofs.reading.syms_from.Goals as goal

pub returns-in-Ok-clause-ok : goal.returns-in-Ok-clause-ok
returns-in-Ok-clause-ok c =
    c.syms_among.ensures
    ∙ ap syms_of (decodes_value 0 kinds.Sym c.args.class c.args.order c.args.bytes.now c.in-Ok.items
    c.in-Ok.ensures.answer c.in-Ok.ensures.fits).items_are

pub returns-in-Ok-clause-fits : goal.returns-in-Ok-clause-fits
returns-in-Ok-clause-fits c =
    subst (λ (l : List Sym). first_unfit c.args.class (items.Sym l) ≡ None)
    (sym c.syms_among.ensures)
    (among_fit c.args.class c.in-Ok.items c.in-Ok.ensures.fits)
