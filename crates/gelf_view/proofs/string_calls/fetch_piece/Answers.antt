use Rattle.std.proofs.Common.{Ok, Err}
use Rattle.elf_descriptor.proofs.elf_outside.AskLemmas.{read_rose_on}
use Rattle.gelf_view.specs.declared.string_places.Start.{Start}
use Rattle.gelf_view.proofs.StringCalls.{string_queries, string_unread}
use Rattle.gelf_view.proofs.string_calls.fetch_piece.Goals as goal

pub returns-in-Ok-clause-queries : goal.returns-in-Ok-clause-queries
returns-in-Ok-clause-queries g c =
    let st = c.args.elf.now in
    let start = c.args.start in
    string_queries g.S.Source st c.fetch_strings.new.elf c.args.s.0 c.args.offset start.piece
    start.start c.requires (Ok (tt {0})) (Ok c.args.start) (λ h. tt) tt c.in-Ok.ensures.queries

pub returns-in-Err-clause-answer : goal.returns-in-Err-clause-answer
returns-in-Err-clause-answer g c =
    let st = c.args.elf.now in
    let start = c.args.start in
    string_unread g.S.Source st c.fetch_strings.new.elf c.args.s.0 c.args.offset start.piece
    start.start c.requires c.in-Err.e c.in-Err.ensures.answer

pub returns-in-Err-clause-queries : goal.returns-in-Err-clause-queries
returns-in-Err-clause-queries g c =
    let st = c.args.elf.now in
    let start = c.args.start in
    string_queries g.S.Source st c.fetch_strings.new.elf c.args.s.0 c.args.offset start.piece
    start.start c.requires (Err c.in-Err.e) (Err c.in-Err.e) (λ h. h)
    (read_rose_on (Unit {0}) Start c.in-Err.e _ _ c.in-Err.ensures.queries.reads.source.read)
    c.in-Err.ensures.queries
