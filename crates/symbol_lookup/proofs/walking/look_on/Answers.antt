use Rattle.std.proofs.Common.{Bool, sym, ◌∙◌, subst}
use Rattle.elf_types.specs.declared.records.Kind.TheVariants as kinds
use Rattle.elf_types.specs.Answers.{Follows}
use Rattle.hash_model.specs.elf_object.Object.{Object}
use Rattle.hash_model.proofs.elf_object.AnswerLaws.{lend_passed}
use Rattle.symbol_lookup.specs.Lookups.{is_match, walked_on}
use Rattle.symbol_lookup.specs.Searches.{IsHashReadable}
use Rattle.symbol_lookup.proofs.FollowLaws.{free_ends, later_follows}
use Rattle.symbol_lookup.proofs.SearchLaws.{searches_both, searches_end}
use Rattle.symbol_lookup.proofs.StepLaws.{links_stay, ok_is}
use Rattle.symbol_lookup.proofs.walking.look_on.Goals as goal

pub link-strings-requires : goal.link-strings-requires
link-strings-requires g c = (lend_passed c.args.elf.now.o kinds.Sym c.args.s.0 0 c.requires.symbols).0

pub walk_on-requires-clause-there : goal.walk_on-requires-clause-there
walk_on-requires-clause-there g c = subst (λ (o : Object). IsHashReadable o c.args.h.0 c.args.links) (sym c.in-Ok.ensures.stays.object) c.requires.there

pub returns-in-Ok-clause-follows : goal.returns-in-Ok-clause-follows
returns-in-Ok-clause-follows g c = λ told.
    subst (λ (t : Bool). Follows c.walk_on.result (walked_on c.args.elf.now.o c.args.h.0 c.args.links t c.args.walk)) (ok_is (c.in-Ok.ensures.follows told))
    (later_follows c.args.elf.now c.is_match.new.elf c.walk_on.result (λ o. walked_on o c.args.h.0 c.args.links c.in-Ok.passes c.args.walk) c.in-Ok.ensures.stays.object c.in-Ok.ensures.stays.told c.walk_on.ensures.follows told)

pub returns-in-Ok-clause-searches : goal.returns-in-Ok-clause-searches
returns-in-Ok-clause-searches g c = λ n links table.
    searches_both g.S.Source n c.in-Ok.passes c.walk_on.result c.args.elf.now c.is_match.new.elf c.walk_on.new.elf (c.in-Ok.ensures.searches n table)
    (c.walk_on.ensures.searches n (links_stay n c.args.elf.now.o c.is_match.new.elf.o c.args.h.0 c.args.links c.in-Ok.ensures.stays.object links))

pub returns-in-Ok-clause-stays : goal.returns-in-Ok-clause-stays
returns-in-Ok-clause-stays g c = record {
  object = c.walk_on.ensures.stays.object ∙ c.in-Ok.ensures.stays.object;
  told = c.walk_on.ensures.stays.told ∙ c.in-Ok.ensures.stays.told;
}

pub returns-in-Err-clause-follows : goal.returns-in-Err-clause-follows
returns-in-Err-clause-follows g c = λ told. free_ends c.in-Err.e (is_match c.args.elf.now.o c.args.s.0 c.args.name.now c.args.walk.step.symbol) _ (c.in-Err.ensures.follows told)

pub returns-in-Err-clause-searches : goal.returns-in-Err-clause-searches
returns-in-Err-clause-searches g c = λ n links table. searches_end g.S.Source n c.in-Err.e c.args.elf.now c.is_match.new.elf (c.in-Err.ensures.searches n table)
