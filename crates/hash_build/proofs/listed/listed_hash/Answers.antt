use Rattle.std.proofs.Common.{◌≡◌, ℕ, Option, None, Result, Ok, get_or, sym, subst}
use Rattle.std.specs.Prelude.{IfOk}
use Rattle.elf_types.specs.declared.errors.ElfError.{ElfError}
use Rattle.elf_types.specs.Answers.{Follows}
use Rattle.symbol_lookup.specs.elf_object.Object.{Object}
use Rattle.symbol_lookup.specs.elf_object.Calls.{sym_answer}
use Rattle.hash_build.specs.Hashed.{listed_hashes}
use Rattle.hash_build.specs.Tables.{IsSymbolTable, ReadsTable}
use Rattle.hash_build.proofs.ReadLaws.{symbol_found, symbol_lost, table_both}
use Rattle.hash_build.proofs.ListedLaws.{symbol_hashed, symbol_unhashed, no_hash_none}
use Rattle.hash_build.proofs.CallLaws.{lend_of}
use Rattle.hash_build.proofs.listed.listed_hash.Goals as goal

pub hash_if_listed-requires : goal.hash_if_listed-requires
hash_if_listed-requires g c =
    subst (λ (o : Object). IsSymbolTable o c.args.t) (sym c.in-Ok.ensures.looks.object) c.requires

pub returns-in-Ok-clause-follows : goal.returns-in-Ok-clause-follows
returns-in-Ok-clause-follows g c = λ told.
    symbol_hashed c.args.elf.now c.sym.new.elf c.args.t.section.0 c.args.i c.args.t.strings.0
    c.in-Ok.x c.args.by c.hash_if_listed.result c.in-Ok.ensures.looks.object
    c.in-Ok.ensures.looks.reads.told c.requires.strings told (c.in-Ok.ensures.answer.1 told)
    c.hash_if_listed.ensures.follows

pub returns-in-Ok-clause-reads : goal.returns-in-Ok-clause-reads
returns-in-Ok-clause-reads g c =
    table_both g.S.Source c.args.t.section.0 c.in-Ok.x c.hash_if_listed.result c.args.elf.now
    c.sym.new.elf c.hash_if_listed.new.elf
    (symbol_found g.S.Source c.args.t.section.0 c.args.elf.now c.sym.new.elf c.args.i c.in-Ok.x
    c.in-Ok.ensures.looks)
    c.hash_if_listed.ensures.reads

pub returns-in-Err-clause-follows : goal.returns-in-Err-clause-follows
returns-in-Err-clause-follows g c = λ told.
    let o = c.args.elf.now.o in
    let s = c.args.t.section.0 in
    subst (λ (r : Result (Option ℕ) ElfError).
    Follows r (Ok (get_or (listed_hashes c.args.by o s) c.args.i None))) (sym c.no_hash.ensures)
    (symbol_unhashed o s c.args.i c.args.by c.args.elf.now.told _ c.in-Err.e
    (lend_of o s c.requires.passed) c.in-Err.ensures.answer)

pub returns-in-Err-clause-reads : goal.returns-in-Err-clause-reads
returns-in-Err-clause-reads g c =
    subst (λ (r : Result (Option ℕ) ElfError). ReadsTable g.S.Source c.args.t.section.0 r
    c.args.elf.now c.sym.new.elf) (sym c.no_hash.ensures)
    (symbol_lost g.S.Source c.args.t.section.0 c.args.elf.now c.sym.new.elf c.args.i
    c.args.elf.now.told c.in-Err.e (sym_answer c.args.elf.now.o c.args.t.section.0 0 c.args.i)
    c.in-Err.ensures.answer c.in-Err.ensures.looks)

pub returns-in-Err-clause-first : goal.returns-in-Err-clause-first
returns-in-Err-clause-first g c = λ first.
    subst (λ (r : Result (Option ℕ) ElfError). IfOk r (λ hash. hash ≡ None))
    (sym c.no_hash.ensures) (no_hash_none c.in-Err.e)
