use Rattle.std.proofs.Common.{refl}
use Rattle.elf_types.specs.declared.records.Part.TheVariants as part
use Rattle.elf_update_to.proofs.DescriptorLaws.{count_as}
use Rattle.elf_update_to.proofs.descriptors.count_of.Goals as goal

pub returns-in-Header : goal.returns-in-Header
returns-in-Header g c = count_as c.args.elf.now.o c.args.part part.Header 1 c.in-Header.is refl

pub returns-in-Segments : goal.returns-in-Segments
returns-in-Segments g c = count_as c.args.elf.now.o c.args.part part.Segments 1 c.in-Segments.is refl

pub returns-in-Table : goal.returns-in-Table
returns-in-Table g c = count_as c.args.elf.now.o c.args.part part.Table 1 c.in-Table.is refl

pub returns-in-Object : goal.returns-in-Object
returns-in-Object g c = count_as c.args.elf.now.o c.args.part part.Object 0 c.in-Object.is refl

pub returns-in-Section : goal.returns-in-Section
returns-in-Section g c =
    count_as c.args.elf.now.o c.args.part (part.Section c.in-Section.s) c.section_pieces.result
    c.in-Section.is c.section_pieces.ensures

pub returns-in-Piece : goal.returns-in-Piece
returns-in-Piece g c =
    count_as c.args.elf.now.o c.args.part (part.Piece c.in-Piece.field-0 c.in-Piece.field-1) 0 c.in-Piece.is refl
