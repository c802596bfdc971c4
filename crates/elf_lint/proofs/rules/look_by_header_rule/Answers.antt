use Rattle.std.proofs.Common.{arith}
use Rattle.elf_lint_findings.proofs.tool_objects.ElfSteps.{elf_over}
use Rattle.elf_lint.proofs.rules.look_by_header_rule.Goals as goal

-- the rules that do not go over the sections

pub returns-in-WrongHeaderSize : goal.returns-in-WrongHeaderSize
returns-in-WrongHeaderSize g c =
    rw c.in-WrongHeaderSize.is (elf_over g.S.Source g.O.Sink g.E.Sink 0 1 _ _ c.args.elf.now _
    c.args.outputs.now _ (omega arith) c.wrong_header_size.ensures)

pub returns-in-SegmentsOutsideTheFile : goal.returns-in-SegmentsOutsideTheFile
returns-in-SegmentsOutsideTheFile g c =
    rw c.in-SegmentsOutsideTheFile.is (elf_over g.S.Source g.O.Sink g.E.Sink 0 1 _ _ c.args.elf.now _
    c.args.outputs.now _ (omega arith) c.segments_outside_the_file.ensures)

pub returns-in-MissingNameTable : goal.returns-in-MissingNameTable
returns-in-MissingNameTable g c =
    rw c.in-MissingNameTable.is (elf_over g.S.Source g.O.Sink g.E.Sink 0 1 _ _ c.args.elf.now _
    c.args.outputs.now _ (omega arith) c.missing_name_table.ensures)

pub returns-in-OverlappingParts : goal.returns-in-OverlappingParts
returns-in-OverlappingParts g c =
    rw c.in-OverlappingParts.is (elf_over g.S.Source g.O.Sink g.E.Sink 0 1 _ _ c.args.elf.now _
    c.args.outputs.now _ (omega arith) c.overlapping_parts.ensures)

pub returns-in-SegmentsLargerThanMemory : goal.returns-in-SegmentsLargerThanMemory
returns-in-SegmentsLargerThanMemory g c =
    rw c.in-SegmentsLargerThanMemory.is (elf_over g.S.Source g.O.Sink g.E.Sink 0 1 _ _ c.args.elf.now _
    c.args.outputs.now _ (omega arith) c.segments_larger_than_memory.ensures)
