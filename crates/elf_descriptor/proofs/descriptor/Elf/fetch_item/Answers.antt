use Rattle.std.proofs.Common.{Bool, true, ap, ◌∙◌, subst}
use Rattle.section_table.specs.elf_object.Object.{Object}
use Rattle.section_table.specs.elf_object.Words.{Answers}
use Rattle.section_table.specs.elf_object.Answers.{lend_refusal, items_at, entry_at}
use Rattle.elf_descriptor.specs.Entries.{entry}
use Rattle.elf_descriptor.specs.Reads.{wanted}
use Rattle.elf_descriptor.proofs.Refusals.{answers_passed}
use Rattle.elf_descriptor.proofs.Handing.{queries_err}
use Rattle.elf_descriptor.proofs.EntryCalls.{given_entry, refused_entry, queries_then}
use Rattle.elf_descriptor.proofs.descriptor.Elf.fetch_item.Goals as goal

pub entry-requires-clause-passed : goal.entry-requires-clause-passed
entry-requires-clause-passed g c =
    let wants = wanted (entry g.T.Listed.kind g.T.Listed.list_of c.args.d.section c.args.d.piece c.args.i) c.args.self.now in
    ap (λ (o : Object). lend_refusal o g.T.Listed.kind c.args.d.section c.args.d.piece) (c.in-Ok.ensures.looks c.args.i).object ∙ answers_passed true wants _ (tt {0}) (tt {0}) (c.in-Ok.ensures.answer c.args.i)

pub returns-in-Ok-clause-answer : goal.returns-in-Ok-clause-answer
returns-in-Ok-clause-answer g c =
    let wants = wanted (entry g.T.Listed.kind g.T.Listed.list_of c.args.d.section c.args.d.piece c.args.i) c.args.self.now in
    let looks = c.in-Ok.ensures.looks c.args.i in
    let passed = answers_passed true wants (lend_refusal c.args.self.now.o g.T.Listed.kind c.args.d.section c.args.d.piece) (tt {0}) (tt {0}) (c.in-Ok.ensures.answer c.args.i) in
    given_entry c.args.self.now.told wants _ (g.T.Listed.list_of (items_at c.args.self.now.o c.args.d.section c.args.d.piece)) c.args.i c.entry.result passed
    (subst (λ (told : Bool). Answers told wants c.entry.result (entry_at (g.T.Listed.list_of (items_at c.args.self.now.o c.args.d.section c.args.d.piece)) c.args.i)) looks.reads.told
    (subst (λ (o : Object). Answers c.fetch.new.self.told wants c.entry.result (entry_at (g.T.Listed.list_of (items_at o c.args.d.section c.args.d.piece)) c.args.i)) looks.object (c.entry.ensures.answer wants)))

pub returns-in-Ok-clause-looks : goal.returns-in-Ok-clause-looks
returns-in-Ok-clause-looks g c =
    let call = entry g.T.Listed.kind g.T.Listed.list_of c.args.d.section c.args.d.piece c.args.i in
    queries_then g.S.Source call (call.reads c.args.self.now.o) (tt {0}) c.entry.result c.args.self.now c.fetch.new.self c.entry.ensures.err (c.in-Ok.ensures.looks c.args.i)

pub returns-in-Err-clause-answer : goal.returns-in-Err-clause-answer
returns-in-Err-clause-answer g c =
    let wants = wanted (entry g.T.Listed.kind g.T.Listed.list_of c.args.d.section c.args.d.piece c.args.i) c.args.self.now in
    refused_entry c.args.self.now.told wants (lend_refusal c.args.self.now.o g.T.Listed.kind c.args.d.section c.args.d.piece)
    (g.T.Listed.list_of (items_at c.args.self.now.o c.args.d.section c.args.d.piece)) c.args.i c.in-Err.e (c.in-Err.ensures.answer c.args.i)

pub returns-in-Err-clause-looks : goal.returns-in-Err-clause-looks
returns-in-Err-clause-looks g c =
    let call = entry g.T.Listed.kind g.T.Listed.list_of c.args.d.section c.args.d.piece c.args.i in
    queries_err g.S.Source call (call.reads c.args.self.now.o) c.in-Err.e c.args.self.now c.fetch.new.self (c.in-Err.ensures.looks c.args.i)
