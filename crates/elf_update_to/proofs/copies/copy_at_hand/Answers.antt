use Rattle.std.proofs.Common.{◌+◌, length, refl}
use Rattle.elf_types.specs.declared.records.Part.TheVariants as part
use Rattle.elf_update_plan.specs.elf_object.Image.{front_blocks}
use Rattle.elf_update_to.proofs.DataLaws.{some_there}
use Rattle.elf_update_to.proofs.DescriptorLaws.{within_as, copied_as, front_piece_within, front_piece_copied, none_within}
use Rattle.elf_update_to.proofs.copies.copy_at_hand.Goals as goal

pub copy_rows-requires-clause-there : goal.copy_rows-requires-clause-there
copy_rows-requires-clause-there g c =
    front_piece_within c.args.elf.now.o c.args.part part.Header
    (front_blocks c.args.elf.now.o).header.bytes c.args.p c.args.from (length c.args.buf.now)
    c.in-Header.is refl c.requires.some c.requires.there

pub returns-in-Header-clause-copied : goal.returns-in-Header-clause-copied
returns-in-Header-clause-copied g c = λ is told.
    front_piece_copied c.args.elf.now.o c.args.part part.Header
    (front_blocks c.args.elf.now.o).header.bytes c.args.p c.args.from (length c.args.buf.now)
    c.copy_rows.new.buf c.in-Header.is refl c.requires.some c.requires.there c.copy_rows.ensures

pub copy_rows-requires-in-Segments-clause-there : goal.copy_rows-requires-in-Segments-clause-there
copy_rows-requires-in-Segments-clause-there g c =
    front_piece_within c.args.elf.now.o c.args.part part.Segments
    (front_blocks c.args.elf.now.o).segments.bytes c.args.p c.args.from (length c.args.buf.now)
    c.in-Segments.is refl c.requires.some c.requires.there

pub returns-in-Segments-clause-copied : goal.returns-in-Segments-clause-copied
returns-in-Segments-clause-copied g c = λ is told.
    front_piece_copied c.args.elf.now.o c.args.part part.Segments
    (front_blocks c.args.elf.now.o).segments.bytes c.args.p c.args.from (length c.args.buf.now)
    c.copy_rows-in-Segments.new.buf c.in-Segments.is refl c.requires.some c.requires.there
    c.copy_rows-in-Segments.ensures

pub copy_rows-requires-in-Table-clause-there : goal.copy_rows-requires-in-Table-clause-there
copy_rows-requires-in-Table-clause-there g c =
    front_piece_within c.args.elf.now.o c.args.part part.Table
    (front_blocks c.args.elf.now.o).table.bytes c.args.p c.args.from (length c.args.buf.now)
    c.in-Table.is refl c.requires.some c.requires.there

pub returns-in-Table-clause-copied : goal.returns-in-Table-clause-copied
returns-in-Table-clause-copied g c = λ is told.
    front_piece_copied c.args.elf.now.o c.args.part part.Table
    (front_blocks c.args.elf.now.o).table.bytes c.args.p c.args.from (length c.args.buf.now)
    c.copy_rows-in-Table.new.buf c.in-Table.is refl c.requires.some c.requires.there c.copy_rows-in-Table.ensures

pub copy_held-requires-clause-there : goal.copy_held-requires-clause-there
copy_held-requires-clause-there g c =
    within_as c.args.elf.now.o c.args.part (part.Section c.in-Section.s) c.args.p
    (c.args.from + length c.args.buf.now) c.in-Section.is c.requires.there

pub copy_held-requires-clause-section : goal.copy_held-requires-clause-section
copy_held-requires-clause-section g c =
    (some_there c.args.elf.now.o c.in-Section.s c.args.p c.args.from (length c.args.buf.now)
    c.requires.some
    (within_as c.args.elf.now.o c.args.part (part.Section c.in-Section.s) c.args.p
    (c.args.from + length c.args.buf.now) c.in-Section.is c.requires.there)).section

pub copy_held-requires-clause-piece : goal.copy_held-requires-clause-piece
copy_held-requires-clause-piece g c =
    (some_there c.args.elf.now.o c.in-Section.s c.args.p c.args.from (length c.args.buf.now)
    c.requires.some
    (within_as c.args.elf.now.o c.args.part (part.Section c.in-Section.s) c.args.p
    (c.args.from + length c.args.buf.now) c.in-Section.is c.requires.there)).piece

pub copy_held-requires-clause-filled : goal.copy_held-requires-clause-filled
copy_held-requires-clause-filled g c =
    (some_there c.args.elf.now.o c.in-Section.s c.args.p c.args.from (length c.args.buf.now)
    c.requires.some
    (within_as c.args.elf.now.o c.args.part (part.Section c.in-Section.s) c.args.p
    (c.args.from + length c.args.buf.now) c.in-Section.is c.requires.there)).filled

pub returns-then-copy_held-clause-copied : goal.returns-then-copy_held-clause-copied
returns-then-copy_held-clause-copied g c = λ is told.
    copied_as c.args.elf.now.o c.args.part (part.Section c.in-Section.s) c.args.p c.args.from
    (length c.args.buf.now) c.copy_held.new.buf c.in-Section.is
    (c.copy_held.ensures.held c.if-copy_held.true told)

pub returns-else-copy_held-clause-unread : goal.returns-else-copy_held-clause-unread
returns-else-copy_held-clause-unread g c = record {
  section = c.in-Section.is;
  piece = refl;
  unread = c.copy_held.ensures.unread c.if-copy_held.false;
}

pub returns-in-Object-clause-copied : goal.returns-in-Object-clause-copied
returns-in-Object-clause-copied g c = λ is told.
    absurd (none_within c.args.p c.args.from (length c.args.buf.now) c.requires.some
    (within_as c.args.elf.now.o c.args.part part.Object c.args.p
    (c.args.from + length c.args.buf.now) c.in-Object.is c.requires.there))

pub returns-in-Piece-clause-copied : goal.returns-in-Piece-clause-copied
returns-in-Piece-clause-copied g c = λ is told.
    absurd (none_within c.args.p c.args.from (length c.args.buf.now) c.requires.some
    (within_as c.args.elf.now.o c.args.part
    (part.Piece c.in-Piece.field-0 c.in-Piece.field-1) c.args.p
    (c.args.from + length c.args.buf.now) c.in-Piece.is c.requires.there))
