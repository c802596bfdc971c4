use Rattle.rebuild_tables.specs.rebuild_keep.Keepers.{header_by, kind_by}
use Rattle.rebuild_plan.specs.Ranges.{bytes_by, base_due_by}
use Rattle.rebuild_plan.proofs.KeepingLaws.{not_begun}
use Rattle.rebuild_plan.proofs.keeping.fill_contents.Goals as goal

pub returns-in-Err : goal.returns-in-Err
returns-in-Err g c =
    not_begun g.S.Source c.args.keeper.now c.args.numbers.now c.args.elf.now c.in-Err.e _
    c.in-Err.ensures.err

pub add_sections-requires-clause-first : goal.add_sections-requires-clause-first
add_sections-requires-clause-first g c =
    c.in_default.ensures.first c.args.elf.now.told c.args.elf.now.o.base
    (header_by c.args.keeper.now c.args.elf.now.o) (bytes_by c.args.keeper.now c.args.elf.now.o)

pub add_sections-requires-clause-read : goal.add_sections-requires-clause-read
add_sections-requires-clause-read g c =
    c.in_default.ensures.read (kind_by c.args.keeper.now c.args.elf.now.o)
    (base_due_by c.args.keeper.now c.args.elf.now.o)
