use Rattle.std.proofs.Common.{ap, ◌∙◌}
use Rattle.elf_types.specs.declared.records.Kind.TheVariants as kinds
use Rattle.rebuild_image.specs.elf_object.Answers.{words_of}
use Rattle.rebuild_keep.proofs.DecodeLaws.{decodes_value}
use Rattle.rebuild_tables.proofs.reading.words_from.Goals as goal

pub returns-in-Ok-clause-ok : goal.returns-in-Ok-clause-ok
returns-in-Ok-clause-ok c =
    c.words_among.ensures
    ∙ ap words_of (decodes_value 0 kinds.Word c.args.class c.args.order c.args.bytes.now
    c.in-Ok.items c.in-Ok.ensures.answer c.in-Ok.ensures.fits).items_are
