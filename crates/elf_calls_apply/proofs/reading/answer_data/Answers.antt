use Rattle.std.proofs.Common.{true, Ok, refl}
use Rattle.symbol_lookup.specs.elf_object.Calls as calls
use Rattle.elf_calls_apply.specs.Stated.{stated_call, data_shown}
use Rattle.elf_calls_apply.specs.declared.answers.Answer.TheVariants as answer
use Rattle.elf_calls_apply.proofs.Answered.{by_value, by_error, data_exact}
use Rattle.elf_calls_apply.proofs.Meeting.{value_meets, error_meets}
use Rattle.elf_calls_apply.specs.Applies.{all_early, at_any_step}
use Rattle.symbol_lookup.specs.elf_object.Runs.{mapped}
use Rattle.elf_calls_apply.proofs.reading.answer_data.Goals as goal

pub returns-in-Ok : goal.returns-in-Ok
unfolding stated_call
returns-in-Ok g c =
    let looks = c.data.follows.holds-at-none.looks in
    value_meets g.S.Source (mapped data_shown (calls.section_data c.args.d.section c.args.d.piece)) (all_early ((mapped data_shown (calls.section_data c.args.d.section c.args.d.piece)).answer c.args.elf.now.o)) true ((mapped data_shown (calls.section_data c.args.d.section c.args.d.piece)).reads c.args.elf.now.o) c.args.elf.now _ c.data.result c.in-Ok.items (Ok (answer.Data c.kind.result c.count.result)) c.in-Ok.is tt refl looks.object looks.reads
    (rw (c.kind.ensures, c.count.ensures) (by_value true (data_shown c.in-Ok.items.now) _ (data_exact c.args.elf.now.told at_any_step c.in-Ok.items.now _ c.in-Ok.ensures.answer c.in-Ok.ensures.like)))

pub returns-in-Err : goal.returns-in-Err
unfolding stated_call
returns-in-Err g c =
    let looks = c.data.follows.holds-at-none.looks in
    error_meets g.S.Source (mapped data_shown (calls.section_data c.args.d.section c.args.d.piece)) (all_early ((mapped data_shown (calls.section_data c.args.d.section c.args.d.piece)).answer c.args.elf.now.o)) true ((mapped data_shown (calls.section_data c.args.d.section c.args.d.piece)).reads c.args.elf.now.o) c.args.elf.now _ _ c.data.result c.in-Err.e c.in-Err.is looks.object looks.reads (by_error data_shown true c.args.elf.now.told _ c.in-Err.e _ c.in-Err.ensures.answer)
