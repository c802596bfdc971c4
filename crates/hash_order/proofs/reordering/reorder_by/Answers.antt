use Rattle.std.proofs.Common.{◌≡◌, None, sym, subst}
use Rattle.symbol_lookup.specs.elf_object.Object.{Object}
use Rattle.symbol_lookup.specs.elf_object.Answers.{count_at}
use Rattle.symbol_lookup.specs.hash_model.Reordered.{reorder_refusal}
use Rattle.hash_build.specs.Rows.{IsOrder}
use Rattle.hash_order.proofs.EndLaws.{reorders_end, reorders_then, symbols_then, ended_then}
use Rattle.hash_order.proofs.reordering.reorder_by.Goals as goal

pub reorder_with-requires-clause-passed : goal.reorder_with-requires-clause-passed
reorder_with-requires-clause-passed g c =
    subst (λ (o : Object). reorder_refusal o c.args.s.0 ≡ None) (sym c.in-Ok.ensures.reads.object)
    c.requires.passed

pub reorder_with-requires-clause-order : goal.reorder_with-requires-clause-order
reorder_with-requires-clause-order g c =
    subst (λ (o : Object). IsOrder c.args.order.now (count_at o c.args.s.0 0))
    (sym c.in-Ok.ensures.reads.object) c.requires.order

pub reorder_with-requires-clause-symbols : goal.reorder_with-requires-clause-symbols
reorder_with-requires-clause-symbols g c =
    symbols_then g.S.Source c.args.elf.now c.plan_symbols.new.elf c.args.s.0 c.args.order.now
    c.in-Ok.symbols c.in-Ok.symbols c.in-Ok.ensures.reads c.in-Ok.ensures.symbols

pub returns-in-Ok-clause-reorders : goal.returns-in-Ok-clause-reorders
returns-in-Ok-clause-reorders g c =
    reorders_then g.S.Source c.args.elf.now c.plan_symbols.new.elf c.args.s.0 c.args.order.now
    c.reorder_with.new.elf c.in-Ok.symbols c.reorder_with.result c.requires.passed
    c.in-Ok.ensures.reads c.reorder_with.ensures.reorders

pub returns-in-Ok-clause-ended : goal.returns-in-Ok-clause-ended
returns-in-Ok-clause-ended g c =
    ended_then g.S.Source c.args.elf.now c.plan_symbols.new.elf c.args.s.0
    c.in-Ok.symbols c.reorder_with.result c.in-Ok.ensures.reads c.reorder_with.ensures.ended

pub returns-in-Err-clause-reorders : goal.returns-in-Err-clause-reorders
returns-in-Err-clause-reorders g c =
    reorders_end g.S.Source c.args.elf.now c.plan_symbols.new.elf c.args.s.0 c.args.order.now
    c.in-Err.e c.requires.passed c.in-Err.ensures.reads

pub returns-in-Err-clause-ended : goal.returns-in-Err-clause-ended
returns-in-Err-clause-ended g c = c.in-Err.ensures.reads.ended
