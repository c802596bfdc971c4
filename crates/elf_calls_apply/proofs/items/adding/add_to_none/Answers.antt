use Rattle.elf_calls_apply.specs.Applies.{at_any_step}
use Rattle.elf_calls_apply.specs.Stated.{stated_call}
use Rattle.elf_calls_apply.proofs.AddLaws.{empty_added, empty_refused}
use Rattle.elf_calls_apply.proofs.items.adding.add_to_none.Goals as goal

pub returns-in-Ok : goal.returns-in-Ok
unfolding stated_call
returns-in-Ok g c =
    let looks = c.data.follows.holds-at-none.looks in
    rw c.count.ensures (empty_added g.S.Source c.args.d c.args.n c.args.elf.now _ c.data.result c.requires looks.object looks.reads c.args.elf.now.told at_any_step c.in-Ok.items c.in-Ok.items.now c.in-Ok.is c.in-Ok.ensures.answer c.in-Ok.ensures.like)

pub returns-in-Err : goal.returns-in-Err
unfolding stated_call
returns-in-Err g c =
    let looks = c.data.follows.holds-at-none.looks in
    empty_refused g.S.Source c.args.d c.args.n c.args.elf.now _ c.data.result c.requires looks.object looks.reads c.args.elf.now.told _ c.in-Err.e c.in-Err.is c.in-Err.ensures.answer
