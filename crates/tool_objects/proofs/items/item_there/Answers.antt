use Rattle.std.proofs.Common.{Ok, sym}
use Rattle.gelf_view.specs.elf_object.Answers.{items_at, lend_refusal}
use Rattle.gelf_view.specs.elf_descriptor.Entries.{entry}
use Rattle.gelf_view.specs.elf_descriptor.Reads.{wanted}
use Rattle.tool_objects.proofs.QueryLemmas.{reads_on, reads_stop}
use Rattle.tool_objects.proofs.OnceReads.{once_read}
use Rattle.tool_objects.proofs.AnswerLemmas.{item_is, item_stops}
use Rattle.tool_objects.proofs.items.item_there.Goals as goal

pub returns-in-Ok-clause-value : goal.returns-in-Ok-clause-value
returns-in-Ok-clause-value g c =
    let d = c.args.d in
    λ told. sym (item_is c.args.elf.now.told (wanted (entry g.T.Listed.kind g.T.Listed.list_of d.section d.piece c.args.i) c.args.elf.now) (lend_refusal c.args.elf.now.o g.T.Listed.kind d.section d.piece)
    (g.T.Listed.list_of (items_at c.args.elf.now.o d.section d.piece)) c.args.i c.in-Ok.item c.in-Ok.ensures.answer told)

pub returns-in-Ok-clause-reads : goal.returns-in-Ok-clause-reads
returns-in-Ok-clause-reads g c =
    reads_on g.S.Source (entry g.T.Listed.kind g.T.Listed.list_of c.args.d.section c.args.d.piece c.args.i) _ c.args.elf.now _ (Ok c.in-Ok.item) _ c.in-Ok.ensures.looks (once_read _ _ _ _) tt

pub stop_for-requires : goal.stop_for-requires
stop_for-requires g c =
    let d = c.args.d in
    item_stops c.args.elf.now.told (wanted (entry g.T.Listed.kind g.T.Listed.list_of d.section d.piece c.args.i) c.args.elf.now) (lend_refusal c.args.elf.now.o g.T.Listed.kind d.section d.piece)
    (g.T.Listed.list_of (items_at c.args.elf.now.o d.section d.piece)) c.args.i c.in-Err.e c.requires.passed c.requires.there c.in-Err.ensures.answer

pub returns-in-Err-clause-reads : goal.returns-in-Err-clause-reads
returns-in-Err-clause-reads g c =
    reads_stop g.S.Source (entry g.T.Listed.kind g.T.Listed.list_of c.args.d.section c.args.d.piece c.args.i) _ c.args.elf.now _ c.in-Err.e c.stop_for.result c.stop_for.ensures c.in-Err.ensures.looks
