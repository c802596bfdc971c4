use Rattle.std.proofs.Common.{Ok}
use Rattle.symbol_lookup.proofs.CallLaws.{bytes_found, bytes_lost}
use Rattle.elf_types.specs.declared.records.Kind.TheVariants as kinds
use Rattle.hash_model.specs.elf_object.Answers.{bytes_of, items_at, lend_refusal}
use Rattle.gelf_view.proofs.LendLemmas.{lend_unread}
use Rattle.symbol_lookup.proofs.LendLaws.{lend_ended}
use Rattle.symbol_lookup.proofs.lookups.fetch.Goals as goal

pub returns-in-Ok-clause-searches : goal.returns-in-Ok-clause-searches
returns-in-Ok-clause-searches g c = λ passed n has. bytes_found g.S.Source n c.args.elf.now _ c.args.h.0 has c.bytes.result c.in-Ok.field-0 (Ok (tt {0})) c.in-Ok.is tt c.bytes.follows.holds-at-none

pub returns-in-Err-clause-searches : goal.returns-in-Err-clause-searches
returns-in-Err-clause-searches g c = λ passed n has.
    bytes_lost g.S.Source n c.args.elf.now _ c.args.h.0 has c.args.elf.now.told c.in-Err.e c.bytes.result c.in-Err.is passed c.in-Err.ensures.answer c.bytes.follows.holds-at-none

pub returns-in-Err-clause-refused : goal.returns-in-Err-clause-refused
returns-in-Err-clause-refused g c =
    lend_ended c.args.elf.now.told _ (lend_refusal c.args.elf.now.o kinds.Bytes c.args.h.0 0) (bytes_of (items_at c.args.elf.now.o c.args.h.0 0)) c.in-Err.e (lend_unread c.args.elf.now.o kinds.Bytes c.args.h.0 0) c.in-Err.ensures.answer
