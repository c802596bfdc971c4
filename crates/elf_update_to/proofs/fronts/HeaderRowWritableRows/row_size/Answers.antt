use Rattle.std.proofs.Common.{arith}
use Rattle.elf_update_plan.specs.elf_xlate.Headers.{ehdr_size}
use Rattle.elf_update_plan.proofs.RowLaws.{ok_is}
use Rattle.elf_update_to.proofs.FrontLaws.{sized_back, few_header, header_long}
use Rattle.elf_update_to.proofs.fronts.HeaderRowWritableRows.row_size.Goals as goal

pub returns-clause-size : goal.returns-clause-size
returns-clause-size g c =
    sized_back ehdr_size c.args.self.now.elf.now.o c.ehdr.result c.ehdr_size.result
    (ok_is _ _ c.ehdr.ensures) c.ehdr_size.ensures

pub returns-clause-some : goal.returns-clause-some
returns-clause-some g c = let few = few_header c.ehdr.result.class in omega (arith, few.some, c.ehdr_size.ensures)

pub returns-clause-few : goal.returns-clause-few
returns-clause-few g c = let few = few_header c.ehdr.result.class in omega (arith, few.few, c.ehdr_size.ensures)

pub returns-clause-all : goal.returns-clause-all
returns-clause-all g c = header_long c.args.self.now.elf.now.o c.requires.ready.object
