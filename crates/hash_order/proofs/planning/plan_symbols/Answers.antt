use Rattle.std.proofs.Common.{refl}
use Rattle.elf_types.specs.declared.records.Kind.TheVariants.{Sym}
use Rattle.symbol_lookup.proofs.elf_descriptor.LendLaws.{lend_there}
use Rattle.hash_order.specs.Calls.{all_homes}
use Rattle.hash_order.proofs.DataLaws.{data_alike, data_told, data_hand, data_reads, data_end}
use Rattle.hash_order.proofs.FollowLaws.{symbols_passed, table_home}
use Rattle.hash_order.proofs.ItemLaws.{are_symbols, symbols_told, symbols_long, on_ok}
use Rattle.hash_order.proofs.PlanLaws.{order_below}
use Rattle.hash_order.proofs.planning.plan_symbols.Goals as goal

pub symbols_in_order-requires : goal.symbols_in_order-requires
symbols_in_order-requires g c =
    let o = c.args.elf.now.o in
    let s = c.args.s.0 in
    let passed = symbols_passed o s c.requires.passed in
    are_symbols c.args.order.now o s c.in-Ok.items.now passed
    (data_alike o Sym s passed c.in-Ok.items.now c.in-Ok.ensures.like)

pub returns-in-Ok-clause-symbols : goal.returns-in-Ok-clause-symbols
returns-in-Ok-clause-symbols g c =
    let o = c.args.elf.now.o in
    let s = c.args.s.0 in
    let passed = symbols_passed o s c.requires.passed in
    symbols_told c.args.order.now o s c.in-Ok.items.now passed
    (data_alike o Sym s passed c.in-Ok.items.now c.in-Ok.ensures.like) c.args.elf.now.told
    c.symbols_in_order.result
    (data_told c.args.elf.now s c.in-Ok.items.now c.in-Ok.ensures.answer)
    c.symbols_in_order.ensures.ok

pub returns-in-Ok-clause-long : goal.returns-in-Ok-clause-long
returns-in-Ok-clause-long g c =
    let o = c.args.elf.now.o in
    let s = c.args.s.0 in
    let passed = symbols_passed o s c.requires.passed in
    symbols_long c.args.order.now o s c.in-Ok.items.now passed
    (data_alike o Sym s passed c.in-Ok.items.now c.in-Ok.ensures.like) c.symbols_in_order.result
    (order_below c.args.order.now _ c.requires.order) c.requires.order.long
    c.symbols_in_order.ensures.ok

pub returns-in-Ok-clause-hand : goal.returns-in-Ok-clause-hand
returns-in-Ok-clause-hand g c =
    let passed = symbols_passed c.args.elf.now.o c.args.s.0 c.requires.passed in
    on_ok c.symbols_in_order.result
    (data_hand g.S.Source Sym c.args.s.0 c.args.elf.now _ passed c.data.result c.in-Ok.items
    c.in-Ok.is c.data.follows.holds-at-none)

pub returns-in-Ok-clause-reads : goal.returns-in-Ok-clause-reads
returns-in-Ok-clause-reads g c =
    let o = c.args.elf.now.o in
    let s = c.args.s.0 in
    let passed = symbols_passed o s c.requires.passed in
    data_reads g.S.Source Sym s c.args.elf.now _ passed (all_homes o s)
    (λ clean. table_home o s s (lend_there o Sym s 0 passed).0 clean refl) c.data.result
    c.in-Ok.items c.symbols_in_order.result c.in-Ok.is c.symbols_in_order.ensures.err
    c.data.follows.holds-at-none

pub returns-in-Err-clause-reads : goal.returns-in-Err-clause-reads
returns-in-Err-clause-reads g c =
    let o = c.args.elf.now.o in
    let s = c.args.s.0 in
    let passed = symbols_passed o s c.requires.passed in
    data_end g.S.Source Sym s c.args.elf.now _ passed (all_homes o s)
    (λ clean. table_home o s s (lend_there o Sym s 0 passed).0 clean refl) c.in-Err.e
    c.data.result c.in-Err.is c.in-Err.ensures.answer c.data.follows.holds-at-none
