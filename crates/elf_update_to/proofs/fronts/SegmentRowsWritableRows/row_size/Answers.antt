use Rattle.std.proofs.Common.{◌<◌, ◌^◌, arith, lit<}
use Rattle.elf_types.specs.declared.constants.TheConstants.{MAX_SEGMENTS}
use Rattle.elf_update_plan.specs.elf_xlate.Headers.{phdr_size}
use Rattle.elf_update_plan.proofs.RowLaws.{ok_is}
use Rattle.elf_update_to.proofs.FrontLaws.{sized_back, few_segment, segments_long}
use Rattle.elf_update_to.proofs.fronts.SegmentRowsWritableRows.row_size.Goals as goal

pub returns-clause-size : goal.returns-clause-size
returns-clause-size g c =
    sized_back phdr_size c.args.self.now.elf.now.o c.ehdr.result c.phdr_size.result
    (ok_is _ _ c.ehdr.ensures) c.phdr_size.ensures

pub returns-clause-some : goal.returns-clause-some
returns-clause-some g c = let few = few_segment c.ehdr.result.class in omega (arith, few.some, c.phdr_size.ensures)

pub returns-clause-few : goal.returns-clause-few
returns-clause-few g c = let few = few_segment c.ehdr.result.class in omega (arith, few.few, c.phdr_size.ensures)

pub returns-clause-all : goal.returns-clause-all
returns-clause-all g c = segments_long c.args.self.now.elf.now.o

pub returns-clause-fits : goal.returns-clause-fits
returns-clause-fits g c =
    let limit : MAX_SEGMENTS < 2 ^ 32 = lit< tt in omega (arith, limit, c.requires.ready.object.phdr_count)
