use Rattle.std.proofs.Common.{Bool, Result, Ok, sym, subst, ◌∙◌}
use Rattle.elf_types.specs.declared.errors.ElfError.{ElfError}
use Rattle.elf_types.specs.Answers.{Follows}
use Rattle.hash_model.specs.elf_object.Object.{Object}
use Rattle.symbol_lookup.specs.Lookups.{is_match}
use Rattle.symbol_lookup.specs.Searches.{Searches, HasStrings}
use Rattle.symbol_lookup.proofs.SearchLaws.{searches_both}
use Rattle.symbol_lookup.proofs.CallLaws.{symbol_found, symbol_lost, symbol_none, symbol_named}
use Rattle.symbol_lookup.proofs.matching.is_match.Goals as goal

pub returns-in-Ok-clause-follows : goal.returns-in-Ok-clause-follows
returns-in-Ok-clause-follows g c = λ told.
    symbol_named c.args.elf.now c.sym.new.elf c.args.s.0 c.args.i c.args.strings.0 c.in-Ok.x c.args.name.now c.is_listed_as.result
    c.in-Ok.ensures.looks.object c.in-Ok.ensures.looks.reads.told c.requires.strings told (c.in-Ok.ensures.answer.1 told) c.is_listed_as.ensures.follows

pub returns-in-Ok-clause-searches : goal.returns-in-Ok-clause-searches
returns-in-Ok-clause-searches g c = λ n has.
    let strings : HasStrings n c.args.elf.now.o c.args.strings.0 = subst (λ s. HasStrings n c.args.elf.now.o s) (sym c.requires.strings) has.strings in
    searches_both g.S.Source n c.in-Ok.x c.is_listed_as.result c.args.elf.now c.sym.new.elf c.is_listed_as.new.elf
    (symbol_found g.S.Source n c.args.elf.now c.sym.new.elf c.args.s.0 c.args.i has c.in-Ok.x c.in-Ok.ensures.looks)
    (c.is_listed_as.ensures.searches n (subst (λ (o : Object). HasStrings n o c.args.strings.0) (sym c.in-Ok.ensures.looks.object) strings))

pub returns-in-Err-clause-follows : goal.returns-in-Err-clause-follows
returns-in-Err-clause-follows g c = λ told.
    subst (λ (r : Result Bool ElfError). Follows r (Ok (is_match c.args.elf.now.o c.args.s.0 c.args.name.now c.args.i))) (sym c.no_match.ensures)
    (symbol_none c.args.elf.now.o c.args.s.0 c.args.i c.args.name.now c.args.elf.now.told _ c.in-Err.e c.requires.passed c.in-Err.ensures.answer)

pub returns-in-Err-clause-searches : goal.returns-in-Err-clause-searches
returns-in-Err-clause-searches g c = λ n has.
    subst (λ (r : Result Bool ElfError). Searches g.S.Source n r c.args.elf.now c.sym.new.elf) (sym c.no_match.ensures)
    (symbol_lost g.S.Source n c.args.elf.now c.sym.new.elf c.args.s.0 c.args.i has c.args.elf.now.told c.in-Err.e _ c.in-Err.ensures.answer c.in-Err.ensures.looks)

pub returns-in-Ok-clause-stays : goal.returns-in-Ok-clause-stays
returns-in-Ok-clause-stays g c = record {
  object = c.is_listed_as.ensures.stays.object ∙ c.in-Ok.ensures.looks.object;
  told = c.is_listed_as.ensures.stays.told ∙ c.in-Ok.ensures.looks.reads.told;
}

pub returns-in-Err-clause-stays : goal.returns-in-Err-clause-stays
returns-in-Err-clause-stays g c = record { object = c.in-Err.ensures.looks.object; told = c.in-Err.ensures.looks.reads.told }
