use Rattle.std.proofs.Common.{Ok, refl, false}
use Rattle.symbol_lookup.specs.elf_object.Calls as calls
use Rattle.elf_calls_apply.specs.Stated.{stated_call, done_shown}
use Rattle.elf_calls_apply.proofs.Meeting.{stepped_meets}
use Rattle.elf_calls_apply.proofs.flags.set_fill.Goals as goal

pub returns : goal.returns
unfolding stated_call
returns g c = stepped_meets g.S.Source done_shown (calls.set_fill c.args.byte) _ _ (Ok tt) c.args.elf.now c.set_fill.new.self false refl tt c.set_fill.ensures
