use Rattle.std.proofs.Common.{[], Ok, Err, refl}
use Rattle.symbol_lookup.specs.elf_object.Calls as calls
use Rattle.elf_calls_apply.specs.Stated.{stated_call, copying}
use Rattle.elf_calls_apply.specs.declared.answers.Answer.TheVariants as answer
use Rattle.elf_calls_apply.proofs.Answered.{by_answers, copied_answers, copied_rose}
use Rattle.elf_calls_apply.proofs.Meeting.{value_meets, error_meets}
use Rattle.elf_calls_apply.specs.Applies.{all_early, at_any_step, result_of}
use Rattle.symbol_lookup.specs.elf_object.Runs.{mapped}
use Rattle.elf_calls_apply.proofs.Forms.{raw_form}
use Rattle.elf_calls_apply.proofs.reading.answer_raw.Goals as goal

pub returns-in-Ok-clause-meets : goal.returns-in-Ok-clause-meets
unfolding stated_call
returns-in-Ok-clause-meets g c =
    let query = c.raw.follows.holds-at-none.queries in
    value_meets g.S.Source (copying (mapped answer.Raw (calls.raw c.args.s.0))) (all_early ((copying (mapped answer.Raw (calls.raw c.args.s.0))).answer c.args.elf.now.o)) c.args.elf.now.told [] c.args.elf.now _ c.raw.result c.in-Ok.bytes (result_of c.raw_answer.result) c.in-Ok.is (copied_rose (answer.Raw c.in-Ok.bytes.now) (result_of c.raw_answer.result) _ _ c.raw_answer.ensures) refl query.object query.reads
    (copied_answers c.args.elf.now.told (all_early ((copying (mapped answer.Raw (calls.raw c.args.s.0))).answer c.args.elf.now.o)) (answer.Raw c.in-Ok.bytes.now) _ (result_of c.raw_answer.result) refl c.raw_answer.ensures (by_answers answer.Raw c.args.elf.now.told at_any_step (Ok c.in-Ok.bytes.now) _ c.in-Ok.ensures.answer))

pub returns-in-Err-clause-meets : goal.returns-in-Err-clause-meets
unfolding stated_call
returns-in-Err-clause-meets g c =
    let query = c.raw.follows.holds-at-none.queries in
    error_meets g.S.Source (copying (mapped answer.Raw (calls.raw c.args.s.0))) (all_early ((copying (mapped answer.Raw (calls.raw c.args.s.0))).answer c.args.elf.now.o)) c.args.elf.now.told [] c.args.elf.now _ _ c.raw.result c.in-Err.e c.in-Err.is query.object query.reads (by_answers answer.Raw c.args.elf.now.told _ (Err c.in-Err.e) _ c.in-Err.ensures.answer)

pub returns-in-Ok-clause-form : goal.returns-in-Ok-clause-form
returns-in-Ok-clause-form g c = raw_form c.args.elf.now.o c.args.s.0 c.in-Ok.bytes.now (result_of c.raw_answer.result) c.raw_answer.ensures c.in-Ok.ensures.like
