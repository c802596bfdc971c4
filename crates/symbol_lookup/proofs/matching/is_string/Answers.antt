use Rattle.std.proofs.Common.{Bool, Result, sym, subst}
use Rattle.elf_types.specs.declared.errors.ElfError.{ElfError}
use Rattle.elf_types.specs.Answers.{Follows}
use Rattle.std.proofs.Common.{Ok}
use Rattle.hash_model.specs.elf_object.Strings.{is_name, readable, string_answer, strptr_refusals}
use Rattle.symbol_lookup.specs.Searches.{Searches}
use Rattle.symbol_lookup.proofs.CallLaws.{string_found, string_lost, string_none}
use Rattle.symbol_lookup.proofs.matching.is_string.Goals as goal

pub returns-in-Ok-clause-searches : goal.returns-in-Ok-clause-searches
returns-in-Ok-clause-searches g c = λ n has.
    string_found g.S.Source n c.args.elf.now _ c.args.strings.0 c.args.offset has c.strptr.result c.in-Ok.string c.eq.result c.in-Ok.is c.strptr.follows.holds-at-none

pub returns-in-Err-clause-follows : goal.returns-in-Err-clause-follows
returns-in-Err-clause-follows g c = λ told.
    subst (λ (r : Result Bool ElfError). Follows r (Ok (is_name c.args.name.now (readable (string_answer c.args.elf.now.o c.args.strings.0 c.args.offset))))) (sym c.no_match.ensures)
    (string_none c.args.elf.now.told _ (strptr_refusals c.args.elf.now.o c.args.strings.0 c.args.offset) c.in-Err.e (string_answer c.args.elf.now.o c.args.strings.0 c.args.offset) c.args.name.now told c.in-Err.ensures.answer)

pub returns-in-Err-clause-searches : goal.returns-in-Err-clause-searches
returns-in-Err-clause-searches g c = λ n has.
    subst (λ (r : Result Bool ElfError). Searches g.S.Source n r c.args.elf.now c.strptr.follows.lender-at-none) (sym c.no_match.ensures)
    (string_lost g.S.Source n c.args.elf.now _ c.args.strings.0 c.args.offset has c.args.elf.now.told (strptr_refusals c.args.elf.now.o c.args.strings.0 c.args.offset) c.in-Err.e (string_answer c.args.elf.now.o c.args.strings.0 c.args.offset)
    c.strptr.result c.in-Err.is c.in-Err.ensures.answer c.strptr.follows.holds-at-none)

pub returns-in-Ok-clause-stays : goal.returns-in-Ok-clause-stays
returns-in-Ok-clause-stays g c = record { object = c.strptr.follows.holds-at-none.object; told = c.strptr.follows.holds-at-none.reads.told }

pub returns-in-Err-clause-stays : goal.returns-in-Err-clause-stays
returns-in-Err-clause-stays g c = record { object = c.strptr.follows.holds-at-none.object; told = c.strptr.follows.holds-at-none.reads.told }
