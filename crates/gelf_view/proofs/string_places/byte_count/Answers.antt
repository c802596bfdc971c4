use Rattle.std.proofs.Common.{length, sym, ap, ◌∙◌}
use Rattle.gelf_view.proofs.PieceBytes.{clean_file, own_file_count}
use Rattle.gelf_view.proofs.string_places.byte_count.Goals as goal

pub returns-in-Ok-Edited : goal.returns-in-Ok-Edited
returns-in-Ok-Edited g c =
    c.count.ensures
    ∙ own_file_count c.args.elf.now.o c.args.d.section c.args.d.piece c.in-Ok-Edited.items.now (rw c.in-Ok-Edited.field-0-is at c.in-Ok-Edited.ensures.held) c.requires.kind

pub returns-in-Ok-Raw : goal.returns-in-Ok-Raw
returns-in-Ok-Raw g c =
    let held = rw c.in-Ok-Raw.field-0-is at c.in-Ok-Raw.ensures.held in
    c.requires.home ∙ sym (ap length (clean_file c.args.elf.now.o c.args.d.section c.args.d.piece held.clean))

pub returns-in-Ok-Unread : goal.returns-in-Ok-Unread
returns-in-Ok-Unread g c =
    let held = rw c.in-Ok-Unread.field-0-is at c.in-Ok-Unread.ensures.held in
    c.requires.home ∙ sym (ap length (clean_file c.args.elf.now.o c.args.d.section c.args.d.piece held.clean))
