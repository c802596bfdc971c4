use Rattle.std.proofs.Common.{ℕ, Option, Result, sym, subst}
use Rattle.elf_types.specs.declared.errors.ElfError.{ElfError}
use Rattle.elf_types.specs.Answers.{Follows}
use Rattle.symbol_lookup.specs.elf_object.Strings.{string_answer, strptr_refusals}
use Rattle.hash_build.specs.Tables.{ReadsTable}
use Rattle.hash_build.proofs.ReadLaws.{string_found, string_lost}
use Rattle.hash_build.proofs.ListedLaws.{of_answer, string_hashed, string_unhashed}
use Rattle.hash_build.proofs.listed.hash_of_string.Goals as goal

pub returns-in-Ok-clause-follows : goal.returns-in-Ok-clause-follows
returns-in-Ok-clause-follows g c = λ told.
    string_hashed c.args.by (string_answer c.args.elf.now.o c.args.t.strings.0 c.args.offset)
    c.in-Ok.name.now c.hash_unless_empty.result c.hash_unless_empty.ensures
    (c.in-Ok.ensures.answer.1 told)

pub returns-in-Ok-clause-reads : goal.returns-in-Ok-clause-reads
returns-in-Ok-clause-reads g c =
    string_found g.S.Source c.args.t.section.0 c.args.elf.now _ c.args.t.strings.0 c.args.offset
    c.requires.strings c.strptr.result c.in-Ok.name c.hash_unless_empty.result c.in-Ok.is
    c.strptr.follows.holds-at-none

pub returns-in-Err-clause-follows : goal.returns-in-Err-clause-follows
returns-in-Err-clause-follows g c = λ told.
    let stated = string_answer c.args.elf.now.o c.args.t.strings.0 c.args.offset in
    subst (λ (r : Result (Option ℕ) ElfError). Follows r (of_answer c.args.by stated))
    (sym c.no_hash.ensures)
    (string_unhashed c.args.by c.args.elf.now.told _
    (strptr_refusals c.args.elf.now.o c.args.t.strings.0 c.args.offset) stated c.in-Err.e told
    c.in-Err.ensures.answer)

pub returns-in-Err-clause-reads : goal.returns-in-Err-clause-reads
returns-in-Err-clause-reads g c =
    subst (λ (r : Result (Option ℕ) ElfError). ReadsTable g.S.Source c.args.t.section.0 r
    c.args.elf.now c.strptr.follows.lender-at-none) (sym c.no_hash.ensures)
    (string_lost g.S.Source c.args.t.section.0 c.args.elf.now _ c.args.t.strings.0
    c.args.offset c.requires.strings c.args.elf.now.told
    (strptr_refusals c.args.elf.now.o c.args.t.strings.0 c.args.offset) c.in-Err.e
    (string_answer c.args.elf.now.o c.args.t.strings.0 c.args.offset) c.strptr.result
    c.in-Err.is c.in-Err.ensures.answer c.strptr.follows.holds-at-none)
