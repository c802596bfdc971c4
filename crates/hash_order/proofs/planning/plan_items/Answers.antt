use Rattle.symbol_lookup.specs.elf_object.Answers.{items_at}
use Rattle.symbol_lookup.specs.elf_object.Words.{result_map}
use Rattle.symbol_lookup.proofs.elf_object.AnswerLaws.{lend_kind}
use Rattle.hash_order.specs.declared.nexts.Next.TheVariants as nexts
use Rattle.hash_order.proofs.DataLaws.{data_alike, data_told, data_hand, data_reads, data_end}
use Rattle.hash_order.proofs.ItemLaws.{moves_of, moves_too, made_next, made_ready, mapped_err}
use Rattle.hash_order.proofs.planning.plan_items.Goals as goal

pub items_by_symbols-requires-clause-moves : goal.items_by_symbols-requires-clause-moves
items_by_symbols-requires-clause-moves g c =
    let o = c.args.elf.now.o in
    moves_too c.args.order.now c.requires.below c.args.elf.now.told c.in-Ok.items.now
    (items_at o c.args.n 0)
    (data_alike o c.args._kind c.args.n c.requires.passed c.in-Ok.items.now c.in-Ok.ensures.like)
    (data_told c.args.elf.now c.args.n c.in-Ok.items.now c.in-Ok.ensures.answer)
    (moves_of o c.args._kind c.args.n _ c.requires.passed c.requires.moves)

pub returns-in-Ok-clause-next : goal.returns-in-Ok-clause-next
returns-in-Ok-clause-next g c =
    let o = c.args.elf.now.o in
    rw c.as_next.ensures
    (made_next c.args.order.now c.requires.below c.args.elf.now.told c.in-Ok.items.now
    (items_at o c.args.n 0)
    (data_alike o c.args._kind c.args.n c.requires.passed c.in-Ok.items.now c.in-Ok.ensures.like)
    (data_told c.args.elf.now c.args.n c.in-Ok.items.now c.in-Ok.ensures.answer)
    (moves_of o c.args._kind c.args.n _ c.requires.passed c.requires.moves)
    c.items_by_symbols.result c.items_by_symbols.ensures.ok)

pub returns-in-Ok-clause-ready : goal.returns-in-Ok-clause-ready
returns-in-Ok-clause-ready g c =
    let o = c.args.elf.now.o in
    rw c.as_next.ensures
    (made_ready c.args.order.now c.requires.below c.args.elf.now.told c.in-Ok.items.now
    (items_at o c.args.n 0)
    (data_alike o c.args._kind c.args.n c.requires.passed c.in-Ok.items.now c.in-Ok.ensures.like)
    (data_told c.args.elf.now c.args.n c.in-Ok.items.now c.in-Ok.ensures.answer)
    (moves_of o c.args._kind c.args.n _ c.requires.passed c.requires.moves) _ c.args.n
    c.args._kind c.items_by_symbols.result c.items_by_symbols.ensures.ok
    (lend_kind o c.args._kind c.args.n 0 c.requires.passed) c.requires.kind
    (data_hand g.S.Source c.args._kind c.args.n c.args.elf.now _ c.requires.passed c.data.result
    c.in-Ok.items c.in-Ok.is c.data.follows.holds-at-none))

pub returns-in-Ok-clause-reads : goal.returns-in-Ok-clause-reads
returns-in-Ok-clause-reads g c = λ homes there.
    rw c.as_next.ensures
    (data_reads g.S.Source c.args._kind c.args.n c.args.elf.now _ c.requires.passed homes there
    c.data.result c.in-Ok.items (result_map nexts.Items c.items_by_symbols.result) c.in-Ok.is
    (mapped_err nexts.Items c.items_by_symbols.result c.items_by_symbols.ensures.err)
    c.data.follows.holds-at-none)

pub returns-in-Err-clause-reads : goal.returns-in-Err-clause-reads
returns-in-Err-clause-reads g c = λ homes there.
    data_end g.S.Source c.args._kind c.args.n c.args.elf.now _ c.requires.passed homes there
    c.in-Err.e c.data.result c.in-Err.is c.in-Err.ensures.answer c.data.follows.holds-at-none
