use Rattle.std.proofs.Common.{true}
use Rattle.elf_calls_apply.specs.Applies.{at_any_step}
use Rattle.elf_types.specs.declared.records.Kind.TheVariants as kinds
use Rattle.elf_xlate.specs.declared.content.Items.TheVariants as items
use Rattle.elf_xlate.specs.Items.{rel_fits}
use Rattle.symbol_lookup.specs.elf_object.Answers.{rels_of}
use Rattle.symbol_lookup.specs.elf_object.Calls.{rel_answer}
use Rattle.elf_calls_apply.specs.Fields.{rel_with}
use Rattle.symbol_lookup.proofs.elf_object.ItemCounts.{rels_counted}
use Rattle.elf_calls_apply.proofs.Setting.{set_refused, set_field}
use Rattle.elf_calls_apply.proofs.items.set_rel.Goals as goal

pub returns-in-Ok : goal.returns-in-Ok
unfolding rel_answer
returns-in-Ok g c =
    set_field g.S.Source kinds.Rel items.Rel rels_of (rel_fits) (rel_with c.args.set) rels_counted c.args.d c.args.i c.args.elf.now c.rel.new.elf c.update_rel.new.elf at_any_step _ c.in-Ok.x c.rel.result c.update_rel.result c.in-Ok.is c.in-Ok.ensures.answer c.rel.ensures.looks
    (rw c.rel_with.ensures at c.update_rel.ensures.answer) (rw c.rel_with.ensures at c.update_rel.ensures.edits) (rw c.rel_with.ensures at c.update_rel.ensures.refused)

pub returns-in-Err : goal.returns-in-Err
unfolding rel_answer
returns-in-Err g c = set_refused g.S.Source kinds.Rel items.Rel rels_of (rel_fits) (rel_with c.args.set) rels_counted c.args.d c.args.i true c.args.elf.now c.rel.new.elf _ c.rel.result c.in-Err.e c.in-Err.is c.in-Err.ensures.answer c.rel.ensures.looks
