use Rattle.std.proofs.Common.{true, Ok, refl, sym, ◌∙◌}
use Rattle.std.proofs.lemmas.Bool.{or_left}
use Rattle.elf_types.specs.declared.records.Kind.TheVariants as kinds
use Rattle.elf_descriptor.specs.elf_object.Object.{piece_at}
use Rattle.elf_descriptor.specs.elf_object.Answers.{lend_refusal}
use Rattle.elf_descriptor.proofs.elf_object.AnswerLaws.{answers_seen}
use Rattle.elf_descriptor.specs.Reads.{wanted}
use Rattle.gelf_view.specs.Calls.{bytes}
use Rattle.gelf_view.proofs.FetchLemmas.{edited_passes, not_some, hand_loaded, clean_answers, clean_queries, queries_nothing}
use Rattle.gelf_view.proofs.fetching.fetch_home.Goals as goal

pub returns-then-own-clause-answer : goal.returns-then-own-clause-answer
returns-then-own-clause-answer g c =
    answers_seen true (wanted (bytes c.args.d.section c.args.d.piece) c.args.elf.now) (lend_refusal c.args.elf.now.o kinds.Bytes c.args.d.section c.args.d.piece) (tt {0}) (tt {0})
    (edited_passes c.args.elf.now.o c.args.d.section c.args.d.piece c.requires.kind (sym c.requires.own ∙ c.if-own.true)) (λ told. refl)

pub returns-then-own-clause-hand : goal.returns-then-own-clause-hand
returns-then-own-clause-hand g c = or_left _ _ (sym c.requires.own ∙ c.if-own.true)

pub returns-then-own-clause-queries : goal.returns-then-own-clause-queries
returns-then-own-clause-queries g c = queries_nothing g.S.Source (bytes c.args.d.section c.args.d.piece) (Ok (tt {0})) c.args.elf.now tt

pub returns-clause-answer : goal.returns-clause-answer
returns-clause-answer g c =
    clean_answers g.S.Source c.args.elf.now c.load.new.elf c.args.d.section c.args.d.piece c.load.result c.requires.kind
    (not_some (piece_at c.args.elf.now.o c.args.d.section c.args.d.piece).own (sym c.requires.own ∙ c.if-own.false)) c.load.ensures.answer

pub returns-clause-hand : goal.returns-clause-hand
returns-clause-hand g c = hand_loaded c.load.result _ _ c.load.ensures.gives.loaded

pub returns-clause-queries : goal.returns-clause-queries
returns-clause-queries g c =
    clean_queries g.S.Source c.args.elf.now c.load.new.elf c.args.d.section c.args.d.piece c.load.result c.requires.kind
    (not_some (piece_at c.args.elf.now.o c.args.d.section c.args.d.piece).own (sym c.requires.own ∙ c.if-own.false)) c.load.ensures.gives.queries
