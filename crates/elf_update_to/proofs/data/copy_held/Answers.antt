use Rattle.std.proofs.Common.{◌+◌, length}
use Rattle.elf_update_plan.proofs.RowLaws.{ok_is}
use Rattle.elf_update_to.proofs.CopyLaws.{own_fit, own_room, own_copied, held_room, held_copied, range_long}
use Rattle.elf_update_to.proofs.data.copy_held.Goals as goal

pub copy_items-requires-clause-fits : goal.copy_items-requires-clause-fits
copy_items-requires-clause-fits g c =
    own_fit c.args.elf.now.o c.args.d.section c.args.d.piece c.in-Ok-Edited.items.now
    c.ehdr-header.result c.requires.stored.ready
    (record { filled = c.requires.filled; section = c.requires.section; piece = c.requires.piece })
    (rw c.in-Ok-Edited.field-0-is at c.in-Ok-Edited.ensures.held) (ok_is _ _ c.ehdr-header.ensures)

pub copy_items-requires-clause-there : goal.copy_items-requires-clause-there
copy_items-requires-clause-there g c =
    own_room c.args.elf.now.o c.args.d.section c.args.d.piece c.in-Ok-Edited.items.now
    c.ehdr-header.result (c.args.from + length c.args.buf.now)
    (record { filled = c.requires.filled; section = c.requires.section; piece = c.requires.piece })
    (rw c.in-Ok-Edited.field-0-is at c.in-Ok-Edited.ensures.held) (ok_is _ _ c.ehdr-header.ensures) c.requires.there

pub returns-in-Ok-Edited-clause-held : goal.returns-in-Ok-Edited-clause-held
returns-in-Ok-Edited-clause-held g c = λ is told.
    own_copied c.args.elf.now.o c.args.d.section c.args.d.piece c.in-Ok-Edited.items.now
    c.ehdr-header.result c.args.from (length c.args.buf.now)
    c.copy_items.new.buf (record { filled = c.requires.filled; section = c.requires.section; piece = c.requires.piece })
    (rw c.in-Ok-Edited.field-0-is at c.in-Ok-Edited.ensures.held) (ok_is _ _ c.ehdr-header.ensures) c.copy_items.ensures

pub returns-in-Ok-Edited-clause-len : goal.returns-in-Ok-Edited-clause-len
returns-in-Ok-Edited-clause-len g c =
    range_long c.args.from (length c.args.buf.now) _ c.copy_items.new.buf
    (own_room c.args.elf.now.o c.args.d.section c.args.d.piece c.in-Ok-Edited.items.now
    c.ehdr-header.result (c.args.from + length c.args.buf.now)
    (record { filled = c.requires.filled; section = c.requires.section; piece = c.requires.piece })
    (rw c.in-Ok-Edited.field-0-is at c.in-Ok-Edited.ensures.held) (ok_is _ _ c.ehdr-header.ensures)
    c.requires.there) c.copy_items.ensures

pub copy_range-requires : goal.copy_range-requires
copy_range-requires g c =
    held_room c.args.elf.now c.args.d.section c.args.d.piece (c.args.from + length c.args.buf.now) c.in-Ok-Raw.bytes.now
    (record { filled = c.requires.filled; section = c.requires.section; piece = c.requires.piece })
    (rw c.in-Ok-Raw.field-0-is at c.in-Ok-Raw.ensures.held) c.requires.there

pub returns-in-Ok-Raw-clause-held : goal.returns-in-Ok-Raw-clause-held
returns-in-Ok-Raw-clause-held g c = λ is told.
    held_copied c.args.elf.now c.args.d.section c.args.d.piece c.args.from (length c.args.buf.now)
    c.in-Ok-Raw.bytes.now c.copy_range.new.buf
    (record { filled = c.requires.filled; section = c.requires.section; piece = c.requires.piece })
    (rw c.in-Ok-Raw.field-0-is at c.in-Ok-Raw.ensures.held) c.copy_range.ensures told

pub returns-in-Ok-Raw-clause-len : goal.returns-in-Ok-Raw-clause-len
returns-in-Ok-Raw-clause-len g c =
    range_long c.args.from (length c.args.buf.now) c.in-Ok-Raw.bytes.now c.copy_range.new.buf
    (held_room c.args.elf.now c.args.d.section c.args.d.piece (c.args.from + length c.args.buf.now)
    c.in-Ok-Raw.bytes.now
    (record { filled = c.requires.filled; section = c.requires.section; piece = c.requires.piece })
    (rw c.in-Ok-Raw.field-0-is at c.in-Ok-Raw.ensures.held) c.requires.there) c.copy_range.ensures
