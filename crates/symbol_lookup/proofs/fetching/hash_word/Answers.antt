use Rattle.std.proofs.Common.{ℕ, Err, sym, subst}
use Rattle.elf_types.specs.declared.errors.ElfError.{ElfError}
use Rattle.elf_types.specs.Answers.{Follows}
use Rattle.hash_model.specs.elf_object.Answers.{items_at, words_of}
use Rattle.hash_model.proofs.elf_object.AnswerLaws.{word_value}
use Rattle.symbol_lookup.specs.Walks.{hash_word}
use Rattle.symbol_lookup.specs.Searches.{Searches}
use Rattle.symbol_lookup.proofs.CallLaws.{word_there, word_ends, word_found, word_lost}
use Rattle.symbol_lookup.proofs.fetching.hash_word.Goals as goal

pub returns-in-Ok-clause-follows : goal.returns-in-Ok-clause-follows
returns-in-Ok-clause-follows g c = λ told.
    word_there (words_of (items_at c.args.elf.now.o c.args.h.0 0)) c.args.index c.in-Ok.found
    (word_value c.args.elf.now.o c.args.h.0 0 c.args.index c.in-Ok.found (c.in-Ok.ensures.answer.1 told)).1

pub returns-in-Ok-clause-searches : goal.returns-in-Ok-clause-searches
returns-in-Ok-clause-searches g c = λ n has. word_found g.S.Source n c.args.elf.now c.word.new.elf c.args.h.0 c.args.index c.in-Ok.found has c.in-Ok.ensures.looks

pub returns-in-Err-clause-follows : goal.returns-in-Err-clause-follows
returns-in-Err-clause-follows g c = λ told.
    subst (λ (e : ElfError). Follows {T = ℕ} (Err e) (hash_word (words_of (items_at c.args.elf.now.o c.args.h.0 0)) c.args.index)) (sym c.or_bad.ensures)
    (word_ends c.args.elf.now.o c.args.h.0 c.args.index c.requires.passed c.args.elf.now.told _ c.in-Err.e c.in-Err.ensures.answer)

pub returns-in-Err-clause-searches : goal.returns-in-Err-clause-searches
returns-in-Err-clause-searches g c = λ n has.
    subst (λ (e : ElfError). Searches {T = ℕ} g.S.Source n (Err e) c.args.elf.now c.word.new.elf) (sym c.or_bad.ensures)
    (word_lost g.S.Source n c.args.elf.now c.word.new.elf c.args.h.0 c.args.index c.args.elf.now.told c.in-Err.e has c.in-Err.ensures.answer c.in-Err.ensures.looks)

pub returns-in-Ok-clause-stays : goal.returns-in-Ok-clause-stays
returns-in-Ok-clause-stays g c = record { object = c.in-Ok.ensures.looks.object; told = c.in-Ok.ensures.looks.reads.told }

pub returns-in-Err-clause-stays : goal.returns-in-Err-clause-stays
returns-in-Err-clause-stays g c = record { object = c.in-Err.ensures.looks.object; told = c.in-Err.ensures.looks.reads.told }
