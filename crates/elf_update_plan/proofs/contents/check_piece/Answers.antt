use Rattle.std.proofs.Common.{◌∙◌, ap}
use Rattle.elf_types.specs.declared.records.Class.{Class}
use Rattle.elf_descriptor.specs.elf_xlate.Translation.{first_unfit}
use Rattle.elf_descriptor.specs.elf_object.Object.{piece_at}
use Rattle.elf_update_plan.proofs.RowLaws.{told_class_is}
use Rattle.elf_update_plan.proofs.ContentLaws.{unfit_some, unfit_none}
use Rattle.elf_update_plan.proofs.contents.check_piece.Goals as goal

pub returns-in-Some : goal.returns-in-Some
returns-in-Some g c =
    unfit_some c.args.elf.now.o.header.class c.args.s c.args.p
    (piece_at c.args.elf.now.o c.args.s c.args.p) c.in-Ok-Edited.items.now c.in-Some.index
    (rw c.in-Ok-Edited.field-0-is at c.in-Ok-Edited.ensures.held)
    (c.in-Some.ensures ∙ ap (λ (class : Class). first_unfit class c.in-Ok-Edited.items.now)
    (told_class_is c.args.elf.now.o c.ehdr-class.result c.ehdr-class.ensures))

pub returns-in-None : goal.returns-in-None
returns-in-None g c =
    unfit_none c.args.elf.now.o.header.class c.args.s c.args.p
    (piece_at c.args.elf.now.o c.args.s c.args.p) c.in-Ok-Edited.items.now
    (rw c.in-Ok-Edited.field-0-is at c.in-Ok-Edited.ensures.held)
    (c.in-None.ensures ∙ ap (λ (class : Class). first_unfit class c.in-Ok-Edited.items.now)
    (told_class_is c.args.elf.now.o c.ehdr-class.result c.ehdr-class.ensures))
