use Rattle.std.proofs.Common.{sym, subst}
use Rattle.elf_types.specs.declared.errors.ElfError.{ElfError}
use Rattle.hash_order.specs.Calls.{all_homes}
use Rattle.hash_order.specs.Reading.{MayStopReading}
use Rattle.hash_order.proofs.EndLaws.{reorders_none, memory_free}
use Rattle.hash_order.proofs.PlanLaws.{order_below}
use Rattle.hash_order.proofs.reordering.reorder_passed.Goals as goal

pub new_indexes-requires : goal.new_indexes-requires
new_indexes-requires g c = order_below c.args.order.now _ c.requires.order

pub returns-in-Err-clause-reorders : goal.returns-in-Err-clause-reorders
returns-in-Err-clause-reorders g c =
    reorders_none g.S.Source c.args.s.0 c.args.order.now c.args.elf.now c.in-Err.e
    (memory_free c.in-Err.e c.in-Err.ensures.err)

pub returns-in-Err-clause-ended : goal.returns-in-Err-clause-ended
returns-in-Err-clause-ended g c =
    subst (λ (d : ElfError).
    MayStopReading c.args.elf.now (all_homes c.args.elf.now.o c.args.s.0) d)
    (sym c.in-Err.ensures.err) tt
