use Rattle.symbol_lookup.specs.elf_object.Answers.{count_at}
use Rattle.std.proofs.Common.{Ok, Err, refl}
use Rattle.symbol_lookup.specs.elf_object.Runs.{mapped}
use Rattle.symbol_lookup.specs.Lookups as lookups
use Rattle.elf_calls_apply.specs.Stated.{stated_call, found_shown}
use Rattle.elf_calls_apply.specs.Applies.{all_early, at_any_step}
use Rattle.elf_calls_apply.proofs.Answered.{by_answers}
use Rattle.elf_calls_apply.proofs.Meeting.{value_meets, error_meets}
use Rattle.elf_calls_apply.proofs.Forms.{found_form}
use Rattle.elf_calls_apply.proofs.reading.answer_find.Goals as goal

pub returns-in-Ok-clause-meets : goal.returns-in-Ok-clause-meets
unfolding stated_call
returns-in-Ok-clause-meets g c =
    let find = mapped found_shown (lookups.find_linear c.args.s.0 c.args.name.now) in
    rw c.found_answer.ensures
    (value_meets g.S.Source find (all_early (find.answer c.args.elf.now.o)) c.args.elf.now.told (find.reads c.args.elf.now.o) c.args.elf.now _ c.find_linear.result c.in-Ok.found (Ok (found_shown c.in-Ok.found)) c.in-Ok.is tt refl
    c.find_linear.ensures.looks.object c.find_linear.ensures.looks.reads
    (by_answers found_shown c.args.elf.now.told at_any_step (Ok c.in-Ok.found) _ c.in-Ok.ensures.answer))

pub returns-in-Err-clause-meets : goal.returns-in-Err-clause-meets
unfolding stated_call
returns-in-Err-clause-meets g c =
    let find = mapped found_shown (lookups.find_linear c.args.s.0 c.args.name.now) in
    error_meets g.S.Source find (all_early (find.answer c.args.elf.now.o)) c.args.elf.now.told (find.reads c.args.elf.now.o) c.args.elf.now _ _ c.find_linear.result c.in-Err.e c.in-Err.is
    c.find_linear.ensures.looks.object c.find_linear.ensures.looks.reads
    (by_answers found_shown c.args.elf.now.told _ (Err c.in-Err.e) _ c.in-Err.ensures.answer)

pub returns-in-Ok-clause-form : goal.returns-in-Ok-clause-form
returns-in-Ok-clause-form g c = rw c.found_answer.ensures (found_form (count_at c.args.elf.now.o c.args.s.0 0) c.in-Ok.found c.in-Ok.ensures.below)
