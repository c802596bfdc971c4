use Rattle.std.proofs.Common.{true, Ok, sym}
use Rattle.symbol_lookup.specs.elf_object.Calls as calls
use Rattle.elf_calls_apply.specs.Stated.{stated_call}
use Rattle.elf_calls_apply.specs.declared.answers.Answer.TheVariants as answer
use Rattle.elf_calls_apply.proofs.Meeting.{shown}
use Rattle.elf_calls_apply.proofs.getters.answer_ehdr.Goals as goal

pub returns : goal.returns
unfolding stated_call
returns g c = shown g.S.Source calls.ehdr.answer answer.Ehdr true (Ok c.ehdr.result) c.args.elf.now (sym c.ehdr.ensures) tt
