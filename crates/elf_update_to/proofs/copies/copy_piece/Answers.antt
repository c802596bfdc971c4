use Rattle.std.proofs.Common.{length, refl}
use Rattle.elf_update_to.proofs.CopyLaws.{still_copies, read_there, read_bytes, read_copies}
use Rattle.elf_update_to.proofs.copies.copy_piece.Goals as goal

pub returns-in-None-clause-bytes : goal.returns-in-None-clause-bytes
returns-in-None-clause-bytes g c = c.in-None.ensures.copied refl

pub returns-in-None-clause-copies : goal.returns-in-None-clause-copies
returns-in-None-clause-copies g c = still_copies g.S.Source c.args.elf.now _

pub copy_home-requires-clause-unread : goal.copy_home-requires-clause-unread
copy_home-requires-clause-unread g c = c.in-Some.ensures.unread.unread

pub copy_home-requires-clause-there : goal.copy_home-requires-clause-there
copy_home-requires-clause-there g c =
    read_there c.args.elf.now c.args.part c.args.p c.in-Some.d c.in-Some.ensures.unread
    c.args.from (length c.copy_at_hand.new.buf) (length c.args.buf.now) c.in-Some.ensures.len
    c.requires.there

pub returns-in-Some-clause-bytes : goal.returns-in-Some-clause-bytes
returns-in-Some-clause-bytes g c =
    read_bytes c.args.elf.now c.args.part c.args.p c.in-Some.d c.in-Some.ensures.unread
    c.copy_home.result c.args.from (length c.copy_at_hand.new.buf) (length c.args.buf.now)
    c.copy_home.new.buf c.in-Some.ensures.len c.copy_home.ensures.bytes

pub returns-in-Some-clause-copies : goal.returns-in-Some-clause-copies
returns-in-Some-clause-copies g c =
    read_copies c.args.elf.now c.args.part c.args.p c.in-Some.d c.in-Some.ensures.unread
    g.S.Source c.copy_home.result c.copy_home.new.elf c.args.from
    (length c.copy_at_hand.new.buf) (length c.args.buf.now) c.in-Some.ensures.len
    c.copy_home.ensures.copies
