use Rattle.std.proofs.Common.{◌+◌, length}
use Rattle.elf_update_to.proofs.CopyLaws.{asks_copies, base_bytes}
use Rattle.elf_update_to.proofs.DescriptorLaws.{origin_ready, origin_within, base_within}
use Rattle.elf_update_to.proofs.descriptors.ElfImageParts.copy.Goals as goal

pub copy_piece-requires-clause-stored : goal.copy_piece-requires-clause-stored
copy_piece-requires-clause-stored g c =
    origin_ready c.args.self.now.o c.args.of c.in-Piece.part c.in-Piece.p c.in-Piece.is
    c.requires.ready

pub copy_piece-requires-clause-there : goal.copy_piece-requires-clause-there
copy_piece-requires-clause-there g c =
    origin_within c.args.self.now.o c.args.of c.in-Piece.part c.in-Piece.p
    (c.args.from + length c.args.buf.now) c.in-Piece.is c.requires.there

pub returns-in-Piece-clause-bytes : goal.returns-in-Piece-clause-bytes
returns-in-Piece-clause-bytes g c = rw c.in-Piece.is c.copy_piece.ensures.bytes

pub returns-in-Piece-clause-copies : goal.returns-in-Piece-clause-copies
returns-in-Piece-clause-copies g c = rw c.in-Piece.is c.copy_piece.ensures.copies

pub copy_base-requires : goal.copy_base-requires
copy_base-requires g c =
    base_within c.args.self.now.o c.args.of (c.args.from + length c.args.buf.now) c.in-Base.is
    c.requires.there

pub returns-in-Base-clause-bytes : goal.returns-in-Base-clause-bytes
returns-in-Base-clause-bytes g c = rw c.in-Base.is c.copy_base.ensures.bytes

pub returns-in-Base-clause-copies : goal.returns-in-Base-clause-copies
returns-in-Base-clause-copies g c =
    rw c.in-Base.is (asks_copies g.S.Source c.copy_base.result c.args.self.now c.copy_base.new.self
    (length c.args.buf.now) _ c.copy_base.ensures.stays
    c.copy_base.ensures.asks (base_bytes (length c.args.buf.now) c.args.from (length c.args.self.now.o.base)
    (base_within c.args.self.now.o c.args.of (c.args.from + length c.args.buf.now) c.in-Base.is c.requires.there)))
