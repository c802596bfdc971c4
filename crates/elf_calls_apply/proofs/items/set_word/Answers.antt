use Rattle.std.proofs.Common.{true, false, refl}
use Rattle.elf_calls_apply.specs.Applies.{at_any_step}
use Rattle.elf_types.specs.declared.records.Kind.TheVariants as kinds
use Rattle.elf_xlate.specs.declared.content.Items.TheVariants as items
use Rattle.symbol_lookup.specs.elf_object.Answers.{words_of}
use Rattle.symbol_lookup.specs.elf_object.Calls.{word_answer}
use Rattle.symbol_lookup.proofs.elf_object.ItemCounts.{words_counted}
use Rattle.elf_calls_apply.proofs.Setting.{set_refused, set_number}
use Rattle.elf_calls_apply.proofs.items.set_word.Goals as goal

pub returns-in-Ok : goal.returns-in-Ok
unfolding word_answer
returns-in-Ok g c =
    set_number g.S.Source kinds.Word items.Word words_of (λ class x. true) (λ x. c.args.v) words_counted c.args.d c.args.i c.args.elf.now c.word.new.elf c.update_word.new.elf at_any_step _ c.in-Ok.field-0 c.word.result c.update_word.result c.in-Ok.is c.in-Ok.ensures.answer c.word.ensures.looks
    c.update_word.ensures.answer c.update_word.ensures.edits c.update_word.ensures.refused (λ y z. refl)

pub returns-in-Err : goal.returns-in-Err
unfolding word_answer
returns-in-Err g c = set_refused g.S.Source kinds.Word items.Word words_of (λ class x. true) (λ x. c.args.v) words_counted c.args.d c.args.i false c.args.elf.now c.word.new.elf _ c.word.result c.in-Err.e c.in-Err.is c.in-Err.ensures.answer c.word.ensures.looks
