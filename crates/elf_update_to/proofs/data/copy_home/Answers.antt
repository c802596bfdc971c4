use Rattle.std.proofs.Common.{length, arith}
use Rattle.elf_update_to.proofs.CopyLaws.{in_base, base_copied, base_asked, asks_copies}
use Rattle.elf_update_to.proofs.data.copy_home.Goals as goal

pub home_extent-requires : goal.home_extent-requires
home_extent-requires g c =
    (in_base c.args.elf.now c.args.d.section c.args.d.piece c.args.from (length c.args.buf.now)
    c.requires.stored.ready c.requires.unread c.requires.some c.requires.there).section

pub overflow_add-at : goal.overflow_add-at
overflow_add-at g c =
    let within = in_base c.args.elf.now c.args.d.section c.args.d.piece c.args.from (length c.args.buf.now)
    c.requires.stored.ready c.requires.unread c.requires.some c.requires.there in
    let small = within.small in
    omega (arith, small, c.home_extent.ensures.place)

pub copy_base-requires : goal.copy_base-requires
copy_base-requires g c =
    let within = in_base c.args.elf.now c.args.d.section c.args.d.piece c.args.from (length c.args.buf.now)
    c.requires.stored.ready c.requires.unread c.requires.some c.requires.there in
    let base = within.base in
    omega (arith, base, c.home_extent.ensures.place)

pub returns-clause-bytes : goal.returns-clause-bytes
returns-clause-bytes g c =
    base_copied c.args.elf.now c.args.d.section c.args.d.piece c.args.from (length c.args.buf.now)
    c.requires.stored.ready c.requires.unread c.requires.some c.requires.there
    c.copy_base.result c.copy_base.new.buf (rw c.home_extent.ensures.place at c.copy_base.ensures.bytes)

pub returns-clause-copies : goal.returns-clause-copies
returns-clause-copies g c =
    asks_copies g.S.Source c.copy_base.result c.args.elf.now c.copy_base.new.self
    (length c.args.buf.now) _ c.copy_base.ensures.stays c.copy_base.ensures.asks
    (base_asked c.args.elf.now c.args.d.section c.args.d.piece c.args.from (length c.args.buf.now)
    c.requires.stored.ready c.requires.unread c.requires.some c.requires.there)
