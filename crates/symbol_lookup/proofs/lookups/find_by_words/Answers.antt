use Rattle.std.proofs.Common.{ℕ, sym, subst, Ok, Err}
use Rattle.elf_types.specs.Answers.{Follows}
use Rattle.hash_model.specs.elf_object.Object.{Object}
use Rattle.hash_model.specs.elf_object.Answers.{items_at, words_of}
use Rattle.hash_model.specs.Hashes.{elf_hash}
use Rattle.symbol_lookup.specs.declared.walks.WalkStart.{WalkStart}
use Rattle.symbol_lookup.specs.Walks.{sysv_start}
use Rattle.symbol_lookup.specs.Lookups.{link_of, found_from, sysv_found, sysv_needs}
use Rattle.symbol_lookup.specs.Searches.{IsHashReadable}
use Rattle.symbol_lookup.proofs.FollowLaws.{then_ends}
use Rattle.symbol_lookup.proofs.SearchLaws.{searches_end}
use Rattle.symbol_lookup.proofs.NeedLaws.{sysv_words, sysv_table, sysv_links, sysv_there, sysv_few}
use Rattle.symbol_lookup.proofs.HashLaws.{linked_there, behind_follows, behind_searches}
use Rattle.symbol_lookup.proofs.lookups.find_by_words.Goals as goal

pub find_from-requires-clause-symbols : goal.find_from-requires-clause-symbols
find_from-requires-clause-symbols g c =
    linked_there g.S.Source (sysv_needs c.args.elf.now.o c.args.h.0) c.args.elf.now c.sysv_start.new.elf c.args.h.0 c.args.s.0 c.args.name.now c.in-Ok.start
    (c.in-Ok.ensures.searches (sysv_needs c.args.elf.now.o c.args.h.0) (sysv_words c.args.elf.now.o c.args.h.0)) c.requires.link c.requires.symbols

pub find_from-requires-clause-there : goal.find_from-requires-clause-there
find_from-requires-clause-there g c =
    let first = c.in-Ok.ensures.searches (sysv_needs c.args.elf.now.o c.args.h.0) (sysv_words c.args.elf.now.o c.args.h.0) in
    subst (λ (o : Object). IsHashReadable o c.args.h.0 c.in-Ok.start.links) (sym first.object) (sysv_there c.args.elf.now.o c.args.h.0 c.in-Ok.start.links c.in-Ok.ensures.begins.0 c.requires.words)

pub find_from-requires-clause-links : goal.find_from-requires-clause-links
find_from-requires-clause-links g c = sysv_few c.in-Ok.start.links c.in-Ok.ensures.begins.0

pub find_from-requires-clause-index : goal.find_from-requires-clause-index
find_from-requires-clause-index g c = c.in-Ok.ensures.begins.1

pub returns-in-Ok-clause-follows : goal.returns-in-Ok-clause-follows
unfolding sysv_found
returns-in-Ok-clause-follows g c =
    behind_follows g.S.Source (sysv_needs c.args.elf.now.o c.args.h.0) c.args.elf.now c.sysv_start.new.elf c.args.h.0 c.args.s.0 c.args.name.now c.in-Ok.start
    (c.in-Ok.ensures.searches (sysv_needs c.args.elf.now.o c.args.h.0) (sysv_words c.args.elf.now.o c.args.h.0)) c.requires.link
    c.find_from.result (sysv_start (words_of (items_at c.args.elf.now.o c.args.h.0 0)) (elf_hash c.args.name.now))
    (λ told. subst (λ (k : ℕ). Follows (Ok c.in-Ok.start) (sysv_start (words_of (items_at c.args.elf.now.o c.args.h.0 0)) k)) c.elf_hash.ensures (c.in-Ok.ensures.follows told))
    c.find_from.ensures.follows

pub returns-in-Ok-clause-searches : goal.returns-in-Ok-clause-searches
returns-in-Ok-clause-searches g c =
    behind_searches g.S.Source (sysv_needs c.args.elf.now.o c.args.h.0) c.args.elf.now c.sysv_start.new.elf c.args.h.0 c.args.s.0 c.args.name.now c.in-Ok.start
    (c.in-Ok.ensures.searches (sysv_needs c.args.elf.now.o c.args.h.0) (sysv_words c.args.elf.now.o c.args.h.0)) c.requires.link
    c.find_from.result c.find_from.new.elf
    (sysv_links (sysv_needs c.args.elf.now.o c.args.h.0) c.args.elf.now.o c.args.h.0 c.in-Ok.start.links c.in-Ok.ensures.begins.0 (sysv_words c.args.elf.now.o c.args.h.0))
    (sysv_table c.args.elf.now.o c.args.h.0) c.find_from.ensures.searches

pub returns-in-Err-clause-follows : goal.returns-in-Err-clause-follows
unfolding sysv_found
returns-in-Err-clause-follows g c = λ told.
    then_ends c.in-Err.e (sysv_start (words_of (items_at c.args.elf.now.o c.args.h.0 0)) (elf_hash c.args.name.now)) (found_from c.args.elf.now.o c.args.h.0 (link_of c.args.elf.now.o c.args.h.0) c.args.name.now)
    (subst (λ (k : ℕ). Follows {T = WalkStart} (Err c.in-Err.e) (sysv_start (words_of (items_at c.args.elf.now.o c.args.h.0 0)) k)) c.elf_hash.ensures (c.in-Err.ensures.follows told))

pub returns-in-Err-clause-searches : goal.returns-in-Err-clause-searches
returns-in-Err-clause-searches g c =
    searches_end g.S.Source (sysv_needs c.args.elf.now.o c.args.h.0) c.in-Err.e c.args.elf.now c.sysv_start.new.elf
    (c.in-Err.ensures.searches (sysv_needs c.args.elf.now.o c.args.h.0) (sysv_words c.args.elf.now.o c.args.h.0))
