use Rattle.std.proofs.Common.{◌<◌, ◌^◌, arith, lit<}
use Rattle.elf_types.specs.declared.constants.TheConstants.{MAX_SECTIONS}
use Rattle.elf_update_plan.specs.elf_xlate.Headers.{shdr_size}
use Rattle.elf_update_plan.proofs.RowLaws.{ok_is}
use Rattle.elf_update_to.proofs.FrontLaws.{sized_back, few_section, table_long}
use Rattle.elf_update_to.proofs.fronts.SectionRowsWritableRows.row_size.Goals as goal

pub returns-clause-size : goal.returns-clause-size
returns-clause-size g c =
    sized_back shdr_size c.args.self.now.elf.now.o c.ehdr.result c.shdr_size.result
    (ok_is _ _ c.ehdr.ensures) c.shdr_size.ensures

pub returns-clause-some : goal.returns-clause-some
returns-clause-some g c = let few = few_section c.ehdr.result.class in omega (arith, few.some, c.shdr_size.ensures)

pub returns-clause-few : goal.returns-clause-few
returns-clause-few g c = let few = few_section c.ehdr.result.class in omega (arith, few.few, c.shdr_size.ensures)

pub returns-clause-all : goal.returns-clause-all
returns-clause-all g c = table_long c.args.self.now.elf.now.o

pub returns-clause-fits : goal.returns-clause-fits
returns-clause-fits g c =
    let limit : MAX_SECTIONS < 2 ^ 32 = lit< tt in omega (arith, limit, c.requires.ready.object.section_count)
