use Rattle.elf_update_to.proofs.FrontLaws.{segment_row}
use Rattle.elf_update_to.proofs.fronts.SegmentRowsWritableRows.put_row.Goals as goal

pub returns : goal.returns
returns g c =
    segment_row c.args.self.now.elf.now.o c.args.i c.put_segment.new.out c.requires.there
    c.put_segment.ensures
