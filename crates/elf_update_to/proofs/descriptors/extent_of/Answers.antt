use Rattle.std.proofs.Common.{◌∙◌, arith}
use Rattle.elf_types.specs.declared.records.Part.TheVariants as part
use Rattle.elf_update_plan.specs.elf_object.Image.{front_blocks}
use Rattle.elf_update_to.proofs.DataLaws.{there_is}
use Rattle.elf_update_to.proofs.DescriptorLaws.{there_as, extent_as, one_extent}
use Rattle.elf_update_to.proofs.descriptors.extent_of.Goals as goal

pub returns-in-Header : goal.returns-in-Header
returns-in-Header g c =
    extent_as c.args.elf.now.o c.args.part part.Header c.args.p c.unaligned.result c.in-Header.is
    (one_extent (front_blocks c.args.elf.now.o).header.bytes c.args.p c.unaligned.result
    (there_as c.args.elf.now.o c.args.part part.Header c.args.p c.in-Header.is c.requires.there)
    c.unaligned.ensures.align (c.unaligned.ensures.len ∙ c.header_length.ensures))

pub returns-in-Segments : goal.returns-in-Segments
returns-in-Segments g c =
    extent_as c.args.elf.now.o c.args.part part.Segments c.args.p c.unaligned-in-Segments.result c.in-Segments.is
    (one_extent (front_blocks c.args.elf.now.o).segments.bytes c.args.p c.unaligned-in-Segments.result
    (there_as c.args.elf.now.o c.args.part part.Segments c.args.p c.in-Segments.is c.requires.there)
    c.unaligned-in-Segments.ensures.align (c.unaligned-in-Segments.ensures.len ∙ c.segments_length.ensures))

pub returns-in-Table : goal.returns-in-Table
returns-in-Table g c =
    extent_as c.args.elf.now.o c.args.part part.Table c.args.p c.unaligned-in-Table.result c.in-Table.is
    (one_extent (front_blocks c.args.elf.now.o).table.bytes c.args.p c.unaligned-in-Table.result
    (there_as c.args.elf.now.o c.args.part part.Table c.args.p c.in-Table.is c.requires.there)
    c.unaligned-in-Table.ensures.align (c.unaligned-in-Table.ensures.len ∙ c.table_length.ensures))

pub piece_extent-requires-clause-section : goal.piece_extent-requires-clause-section
piece_extent-requires-clause-section g c =
    (there_is c.args.elf.now.o c.in-Section.s c.args.p
    (there_as c.args.elf.now.o c.args.part (part.Section c.in-Section.s) c.args.p c.in-Section.is
    c.requires.there)).section

pub piece_extent-requires-clause-piece : goal.piece_extent-requires-clause-piece
piece_extent-requires-clause-piece g c =
    (there_is c.args.elf.now.o c.in-Section.s c.args.p
    (there_as c.args.elf.now.o c.args.part (part.Section c.in-Section.s) c.args.p c.in-Section.is
    c.requires.there)).piece

pub piece_extent-requires-clause-filled : goal.piece_extent-requires-clause-filled
piece_extent-requires-clause-filled g c =
    (there_is c.args.elf.now.o c.in-Section.s c.args.p
    (there_as c.args.elf.now.o c.args.part (part.Section c.in-Section.s) c.args.p c.in-Section.is
    c.requires.there)).filled

pub returns-in-Section : goal.returns-in-Section
returns-in-Section g c =
    extent_as c.args.elf.now.o c.args.part (part.Section c.in-Section.s) c.args.p
    c.piece_extent.result c.in-Section.is c.piece_extent.ensures

pub returns-in-Object : goal.returns-in-Object
returns-in-Object g c =
    let there = there_as c.args.elf.now.o c.args.part part.Object c.args.p c.in-Object.is
    c.requires.there in absurd (omega (arith, there))

pub returns-in-Piece : goal.returns-in-Piece
returns-in-Piece g c =
    let there = there_as c.args.elf.now.o c.args.part
    (part.Piece c.in-Piece.field-0 c.in-Piece.field-1) c.args.p c.in-Piece.is
    c.requires.there in absurd (omega (arith, there))
