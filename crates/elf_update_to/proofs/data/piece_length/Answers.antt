use Rattle.std.proofs.Common.{refl}
use Rattle.elf_update_to.proofs.DataLaws.{own_small, own_is, held_is, unread_is}
use Rattle.elf_update_plan.proofs.RowLaws.{told_class_is}
use Rattle.elf_update_to.proofs.data.piece_length.Goals as goal

pub items_length-requires : goal.items_length-requires
items_length-requires g c =
    own_small c.args.elf.now.o c.args.d.section c.args.d.piece c.in-Ok-Edited.items.now
    c.ehdr-class.result c.requires.stored.ready
    (record { filled = c.requires.filled; section = c.requires.section; piece = c.requires.piece })
    (rw c.in-Ok-Edited.field-0-is at c.in-Ok-Edited.ensures.held)
    (told_class_is c.args.elf.now.o c.ehdr-class.result c.ehdr-class.ensures)

pub returns-in-Ok-Edited : goal.returns-in-Ok-Edited
returns-in-Ok-Edited g c =
    own_is c.args.elf.now.o c.args.d.section c.args.d.piece c.in-Ok-Edited.items.now
    c.ehdr-class.result c.items_length.result
    (record { filled = c.requires.filled; section = c.requires.section; piece = c.requires.piece })
    (rw c.in-Ok-Edited.field-0-is at c.in-Ok-Edited.ensures.held)
    (told_class_is c.args.elf.now.o c.ehdr-class.result c.ehdr-class.ensures) c.items_length.ensures

pub returns-in-Ok-Raw : goal.returns-in-Ok-Raw
returns-in-Ok-Raw g c =
    held_is c.args.elf.now c.args.d.section c.args.d.piece _ c.in-Ok-Raw.bytes.now
    (record { filled = c.requires.filled; section = c.requires.section; piece = c.requires.piece })
    (rw c.in-Ok-Raw.field-0-is at c.in-Ok-Raw.ensures.held) refl

pub returns-in-Ok-Unread : goal.returns-in-Ok-Unread
returns-in-Ok-Unread g c =
    let unread = rw c.in-Ok-Unread.field-0-is at c.in-Ok-Unread.ensures.held in
    unread_is c.args.elf.now.o c.args.d.section c.args.d.piece c.home_extent.result.1 c.requires.stored.ready
    (record { filled = c.requires.filled; section = c.requires.section; piece = c.requires.piece })
    unread.clean c.home_extent.ensures.len
