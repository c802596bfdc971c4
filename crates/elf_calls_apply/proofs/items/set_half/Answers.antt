use Rattle.std.proofs.Common.{true, false, refl}
use Rattle.elf_calls_apply.specs.Applies.{at_any_step}
use Rattle.elf_types.specs.declared.records.Kind.TheVariants as kinds
use Rattle.elf_xlate.specs.declared.content.Items.TheVariants as items
use Rattle.symbol_lookup.specs.elf_object.Answers.{halves_of}
use Rattle.symbol_lookup.specs.elf_object.Calls.{half_answer}
use Rattle.symbol_lookup.proofs.elf_object.ItemCounts.{halves_counted}
use Rattle.elf_calls_apply.proofs.Setting.{set_refused, set_number}
use Rattle.elf_calls_apply.proofs.items.set_half.Goals as goal

pub returns-in-Ok : goal.returns-in-Ok
unfolding half_answer
returns-in-Ok g c =
    set_number g.S.Source kinds.Half items.Half halves_of (λ class x. true) (λ x. c.args.v) halves_counted c.args.d c.args.i c.args.elf.now c.half.new.elf c.update_half.new.elf at_any_step _ c.in-Ok.field-0 c.half.result c.update_half.result c.in-Ok.is c.in-Ok.ensures.answer c.half.ensures.looks
    c.update_half.ensures.answer c.update_half.ensures.edits c.update_half.ensures.refused (λ y z. refl)

pub returns-in-Err : goal.returns-in-Err
unfolding half_answer
returns-in-Err g c = set_refused g.S.Source kinds.Half items.Half halves_of (λ class x. true) (λ x. c.args.v) halves_counted c.args.d c.args.i false c.args.elf.now c.half.new.elf _ c.half.result c.in-Err.e c.in-Err.is c.in-Err.ensures.answer c.half.ensures.looks
