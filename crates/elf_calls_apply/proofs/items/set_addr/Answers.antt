use Rattle.std.proofs.Common.{false, refl}
use Rattle.elf_calls_apply.specs.Applies.{at_any_step}
use Rattle.elf_types.specs.declared.records.Kind.TheVariants as kinds
use Rattle.elf_xlate.specs.declared.content.Items.TheVariants as items
use Rattle.elf_xlate.specs.Fields.{fits}
use Rattle.symbol_lookup.specs.elf_object.Answers.{addrs_of}
use Rattle.symbol_lookup.specs.elf_object.Calls.{addr_answer}
use Rattle.symbol_lookup.proofs.elf_object.ItemCounts.{addrs_counted}
use Rattle.elf_calls_apply.proofs.Setting.{set_refused, set_number}
use Rattle.elf_calls_apply.proofs.items.set_addr.Goals as goal

pub returns-in-Ok : goal.returns-in-Ok
unfolding addr_answer
returns-in-Ok g c =
    set_number g.S.Source kinds.Addr items.Addr addrs_of (fits) (λ x. c.args.v) addrs_counted c.args.d c.args.i c.args.elf.now c.addr.new.elf c.update_addr.new.elf at_any_step _ c.in-Ok.field-0 c.addr.result c.update_addr.result c.in-Ok.is c.in-Ok.ensures.answer c.addr.ensures.looks
    c.update_addr.ensures.answer c.update_addr.ensures.edits c.update_addr.ensures.refused (λ y z. refl)

pub returns-in-Err : goal.returns-in-Err
unfolding addr_answer
returns-in-Err g c = set_refused g.S.Source kinds.Addr items.Addr addrs_of (fits) (λ x. c.args.v) addrs_counted c.args.d c.args.i false c.args.elf.now c.addr.new.elf _ c.addr.result c.in-Err.e c.in-Err.is c.in-Err.ensures.answer c.addr.ensures.looks
