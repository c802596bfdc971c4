use Rattle.std.proofs.Common.{true, Ok, Err, sym}
use Rattle.symbol_lookup.specs.elf_object.Calls as calls
use Rattle.elf_calls_apply.specs.Stated.{stated_call}
use Rattle.elf_calls_apply.specs.declared.answers.Answer.TheVariants as answer
use Rattle.elf_calls_apply.proofs.Refusing.{shdr_refuses}
use Rattle.elf_calls_apply.proofs.Meeting.{shown}
use Rattle.elf_calls_apply.proofs.getters.answer_shdr.Goals as goal

pub returns-in-Ok : goal.returns-in-Ok
unfolding stated_call
returns-in-Ok g c = shown g.S.Source (calls.shdr c.args.s.0).answer answer.Shdr true (Ok c.in-Ok.header) c.args.elf.now (sym c.in-Ok.ensures) tt

pub returns-in-Err : goal.returns-in-Err
unfolding stated_call
returns-in-Err g c =
    shown g.S.Source (calls.shdr c.args.s.0).answer answer.Shdr true (Err c.in-Err.e) c.args.elf.now (sym c.in-Err.ensures) (shdr_refuses c.args.elf.now.o c.args.s.0 c.in-Err.e (sym c.in-Err.ensures))
