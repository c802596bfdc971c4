use Rattle.std.proofs.Common.{refl}
use Rattle.selftest_tool.proofs.ShiftLemmas.{shift_made, shift_wants}
use Rattle.selftest_tool.proofs.making.shift.Goals as goal

pub returns-in-Ok-clause-made : goal.returns-in-Ok-clause-made
returns-in-Ok-clause-made c =
    shift_made _ c.syms_mut.result c.args.n c.args.elf.now _ c.in-Ok.symbols.now _
    c.requires.made (c.syms_mut.follows.holds _ (rw c.in-Ok.is refl))
    (rw c.from.ensures at c.add_to_values.ensures)
    c.in-Ok.ensures.value

pub returns-in-Err-clause-err : goal.returns-in-Err-clause-err
returns-in-Err-clause-err c =
    let query = rw c.in-Err.is at c.syms_mut.follows.holds-at-none in
    shift_wants c.args.n c.args.elf.now _ c.in-Err.e c.requires.made c.in-Err.ensures.answer
    query.reads.source.read
