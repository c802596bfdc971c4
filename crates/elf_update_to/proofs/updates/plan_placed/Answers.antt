use Rattle.elf_update_to.proofs.UpdateLaws.{places_count, is_planned, wants_passed}
use Rattle.elf_update_to.proofs.updates.plan_placed.Goals as goal

pub plan-requires : goal.plan-requires
plan-requires g c = places_count c.args.elf.now.o c.args.placed c.requires.placed

pub returns-in-Ok-clause-ok : goal.returns-in-Ok-clause-ok
returns-in-Ok-clause-ok g c =
    is_planned c.args.elf.now.o c.args.placed c.in-Ok.parts c.dirty-dirty.ensures.sound.object
    c.requires.dirty c.requires.placed c.in-Ok.ensures.ok

pub returns-in-Err-clause-err : goal.returns-in-Err-clause-err
returns-in-Err-clause-err g c =
    wants_passed c.args.elf.now.o c.in-Err.e c.requires.placed.passed c.in-Err.ensures.err
