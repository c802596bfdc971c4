use Rattle.std.proofs.Common.{true}
use Rattle.elf_calls_apply.specs.Applies.{at_any_step}
use Rattle.elf_types.specs.declared.records.Kind.TheVariants as kinds
use Rattle.elf_xlate.specs.declared.content.Items.TheVariants as items
use Rattle.elf_xlate.specs.Items.{rela_fits}
use Rattle.symbol_lookup.specs.elf_object.Answers.{relas_of}
use Rattle.symbol_lookup.specs.elf_object.Calls.{rela_answer}
use Rattle.elf_calls_apply.specs.Fields.{rela_with}
use Rattle.symbol_lookup.proofs.elf_object.ItemCounts.{relas_counted}
use Rattle.elf_calls_apply.proofs.Setting.{set_refused, set_field}
use Rattle.elf_calls_apply.proofs.items.set_rela.Goals as goal

pub returns-in-Ok : goal.returns-in-Ok
unfolding rela_answer
returns-in-Ok g c =
    set_field g.S.Source kinds.Rela items.Rela relas_of (rela_fits) (rela_with c.args.set) relas_counted c.args.d c.args.i c.args.elf.now c.rela.new.elf c.update_rela.new.elf at_any_step _ c.in-Ok.x c.rela.result c.update_rela.result c.in-Ok.is c.in-Ok.ensures.answer c.rela.ensures.looks
    (rw c.rela_with.ensures at c.update_rela.ensures.answer) (rw c.rela_with.ensures at c.update_rela.ensures.edits) (rw c.rela_with.ensures at c.update_rela.ensures.refused)

pub returns-in-Err : goal.returns-in-Err
unfolding rela_answer
returns-in-Err g c = set_refused g.S.Source kinds.Rela items.Rela relas_of (rela_fits) (rela_with c.args.set) relas_counted c.args.d c.args.i true c.args.elf.now c.rela.new.elf _ c.rela.result c.in-Err.e c.in-Err.is c.in-Err.ensures.answer c.rela.ensures.looks
