use Rattle.std.proofs.Common.{true}
use Rattle.elf_calls_apply.specs.Applies.{at_any_step}
use Rattle.elf_types.specs.declared.records.Kind.TheVariants as kinds
use Rattle.elf_xlate.specs.declared.content.Items.TheVariants as items
use Rattle.elf_xlate.specs.Items.{sym_fits}
use Rattle.symbol_lookup.specs.elf_object.Answers.{syms_of}
use Rattle.symbol_lookup.specs.elf_object.Calls.{sym_answer}
use Rattle.elf_calls_apply.specs.Fields.{sym_with}
use Rattle.symbol_lookup.proofs.elf_object.ItemCounts.{syms_counted}
use Rattle.elf_calls_apply.proofs.Setting.{set_refused, set_field}
use Rattle.elf_calls_apply.proofs.items.set_sym.Goals as goal

pub returns-in-Ok : goal.returns-in-Ok
unfolding sym_answer
returns-in-Ok g c =
    set_field g.S.Source kinds.Sym items.Sym syms_of (sym_fits) (sym_with c.args.set) syms_counted c.args.d c.args.i c.args.elf.now c.sym.new.elf c.update_sym.new.elf at_any_step _ c.in-Ok.x c.sym.result c.update_sym.result c.in-Ok.is c.in-Ok.ensures.answer c.sym.ensures.looks
    (rw c.sym_with.ensures at c.update_sym.ensures.answer) (rw c.sym_with.ensures at c.update_sym.ensures.edits) (rw c.sym_with.ensures at c.update_sym.ensures.refused)

pub returns-in-Err : goal.returns-in-Err
unfolding sym_answer
returns-in-Err g c = set_refused g.S.Source kinds.Sym items.Sym syms_of (sym_fits) (sym_with c.args.set) syms_counted c.args.d c.args.i true c.args.elf.now c.sym.new.elf _ c.sym.result c.in-Err.e c.in-Err.is c.in-Err.ensures.answer c.sym.ensures.looks
