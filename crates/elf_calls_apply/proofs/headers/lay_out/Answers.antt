use Rattle.std.proofs.Common.{Ok, Err}
use Rattle.symbol_lookup.specs.elf_object.Calls as calls
use Rattle.elf_calls_apply.specs.Stated.{stated_call}
use Rattle.elf_calls_apply.specs.declared.answers.Answer.TheVariants as answer
use Rattle.elf_calls_apply.proofs.Refusing.{null_refuses}
use Rattle.elf_calls_apply.proofs.Meeting.{updates_meet}
use Rattle.elf_calls_apply.proofs.headers.lay_out.Goals as goal

pub returns-in-Ok : goal.returns-in-Ok
unfolding stated_call
returns-in-Ok g c =
    updates_meet g.S.Source answer.Size calls.update_null _ _ (Ok c.in-Ok.size) c.args.elf.now _
    c.in-Ok.ensures (null_refuses c.args.elf.now.o)

pub returns-in-Err : goal.returns-in-Err
unfolding stated_call
returns-in-Err g c =
    updates_meet g.S.Source answer.Size calls.update_null _ _ (Err c.in-Err.e) c.args.elf.now _
    c.in-Err.ensures (null_refuses c.args.elf.now.o)
