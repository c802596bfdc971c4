use Rattle.std.proofs.Common.{Ok, Err}
use Rattle.symbol_lookup.specs.elf_object.Calls as calls
use Rattle.symbol_lookup.specs.elf_object.Calls.{flag_refusal}
use Rattle.symbol_lookup.specs.elf_object.Answers.{flags_of}
use Rattle.symbol_lookup.specs.elf_object.Steps.{with_flags}
use Rattle.elf_calls_apply.specs.Stated.{stated_call}
use Rattle.elf_calls_apply.specs.declared.answers.Answer.TheVariants as answer
use Rattle.elf_calls_apply.proofs.Refusing.{settled, flag_refuses}
use Rattle.elf_calls_apply.proofs.Meeting.{stepped_meets}
use Rattle.elf_calls_apply.proofs.flags.set_flags.Goals as goal

pub returns-in-Ok : goal.returns-in-Ok
unfolding stated_call
returns-in-Ok g c =
    stepped_meets g.S.Source answer.Flags (calls.flag c.args.part c.args.set c.args.bits) _ _ (Ok c.in-Ok.flags) c.args.elf.now c.flag.new.self c.args.elf.now.ready c.in-Ok.ensures.answer tt c.in-Ok.ensures.state

pub returns-in-Err : goal.returns-in-Err
unfolding stated_call
returns-in-Err g c =
    let o = c.args.elf.now.o in
    stepped_meets g.S.Source answer.Flags (calls.flag c.args.part c.args.set c.args.bits) _ _ (Err c.in-Err.e) c.args.elf.now c.flag.new.self c.args.elf.now.ready c.in-Err.ensures.answer
    (settled (Err c.in-Err.e) (flag_refusal o c.args.part c.args.set c.args.bits) (flags_of (with_flags o c.args.part c.args.set c.args.bits) c.args.part) c.in-Err.ensures.answer
    (flag_refuses o c.args.part c.args.set c.args.bits)) c.in-Err.ensures.state
