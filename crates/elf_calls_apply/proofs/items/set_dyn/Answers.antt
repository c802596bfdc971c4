use Rattle.std.proofs.Common.{true}
use Rattle.elf_calls_apply.specs.Applies.{at_any_step}
use Rattle.elf_types.specs.declared.records.Kind.TheVariants as kinds
use Rattle.elf_xlate.specs.declared.content.Items.TheVariants as items
use Rattle.elf_xlate.specs.Items.{dyn_fits}
use Rattle.symbol_lookup.specs.elf_object.Answers.{dyns_of}
use Rattle.symbol_lookup.specs.elf_object.Calls.{dyn_answer}
use Rattle.elf_calls_apply.specs.Fields.{dyn_with}
use Rattle.symbol_lookup.proofs.elf_object.ItemCounts.{dyns_counted}
use Rattle.elf_calls_apply.proofs.Setting.{set_refused, set_field}
use Rattle.elf_calls_apply.proofs.items.set_dyn.Goals as goal

pub returns-in-Ok : goal.returns-in-Ok
unfolding dyn_answer
returns-in-Ok g c =
    set_field g.S.Source kinds.Dyn items.Dyn dyns_of (dyn_fits) (dyn_with c.args.set) dyns_counted c.args.d c.args.i c.args.elf.now c.dynent.new.elf c.update_dynent.new.elf at_any_step _ c.in-Ok.x c.dynent.result c.update_dynent.result c.in-Ok.is c.in-Ok.ensures.answer c.dynent.ensures.looks
    (rw c.dyn_with.ensures at c.update_dynent.ensures.answer) (rw c.dyn_with.ensures at c.update_dynent.ensures.edits) (rw c.dyn_with.ensures at c.update_dynent.ensures.refused)

pub returns-in-Err : goal.returns-in-Err
unfolding dyn_answer
returns-in-Err g c = set_refused g.S.Source kinds.Dyn items.Dyn dyns_of (dyn_fits) (dyn_with c.args.set) dyns_counted c.args.d c.args.i true c.args.elf.now c.dynent.new.elf _ c.dynent.result c.in-Err.e c.in-Err.is c.in-Err.ensures.answer c.dynent.ensures.looks
