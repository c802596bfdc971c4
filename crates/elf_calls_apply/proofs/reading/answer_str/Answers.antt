use Rattle.std.proofs.Common.{[], Ok, Err, refl}
use Rattle.symbol_lookup.specs.elf_object.Strings.{strptr_refusals}
use Rattle.elf_calls_apply.specs.Stated.{stated_call, copying}
use Rattle.elf_calls_apply.specs.declared.answers.Answer.TheVariants as answer
use Rattle.elf_calls_apply.proofs.Answered.{by_reads, copied_answers, copied_rose}
use Rattle.elf_calls_apply.proofs.Meeting.{value_meets, error_meets}
use Rattle.elf_calls_apply.specs.Applies.{at_any, at_any_step, result_of}
use Rattle.symbol_lookup.specs.elf_object.Runs.{mapped}
use Rattle.symbol_lookup.specs.elf_object.Strings as strings
use Rattle.elf_calls_apply.proofs.Forms.{str_form}
use Rattle.elf_calls_apply.proofs.reading.answer_str.Goals as goal

pub returns-in-Ok-clause-meets : goal.returns-in-Ok-clause-meets
unfolding stated_call
returns-in-Ok-clause-meets g c =
    let query = c.strptr.follows.holds-at-none in
    let told = c.args.elf.now.told in
    let q = strptr_refusals c.args.elf.now.o c.args.s.0 c.args.off in
    value_meets g.S.Source (copying (mapped answer.Str (strings.strptr c.args.s.0 c.args.off))) (at_any (strptr_refusals c.args.elf.now.o c.args.s.0 c.args.off)) c.args.elf.now.told [] c.args.elf.now _ c.strptr.result c.in-Ok.string (result_of c.string_answer.result) c.in-Ok.is (copied_rose (answer.Str c.in-Ok.string.now) (result_of c.string_answer.result) _ _ c.string_answer.ensures) refl query.object query.reads
    (copied_answers told (at_any q) (answer.Str c.in-Ok.string.now) _ (result_of c.string_answer.result) refl c.string_answer.ensures (by_reads answer.Str told at_any_step q (Ok c.in-Ok.string.now) _ c.in-Ok.ensures.answer))

pub returns-in-Err-clause-meets : goal.returns-in-Err-clause-meets
unfolding stated_call
returns-in-Err-clause-meets g c =
    let query = c.strptr.follows.holds-at-none in
    error_meets g.S.Source (copying (mapped answer.Str (strings.strptr c.args.s.0 c.args.off))) (at_any (strptr_refusals c.args.elf.now.o c.args.s.0 c.args.off)) c.args.elf.now.told [] c.args.elf.now _ _ c.strptr.result c.in-Err.e c.in-Err.is query.object query.reads
    (by_reads answer.Str c.args.elf.now.told _ (strptr_refusals c.args.elf.now.o c.args.s.0 c.args.off) (Err c.in-Err.e) _ c.in-Err.ensures.answer)

pub returns-in-Ok-clause-form : goal.returns-in-Ok-clause-form
returns-in-Ok-clause-form g c = str_form c.in-Ok.string.now (result_of c.string_answer.result) c.string_answer.ensures
