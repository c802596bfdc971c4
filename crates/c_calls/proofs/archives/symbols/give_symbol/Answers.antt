use Rattle.std.proofs.Common.{ℕ, Option, ap, ◌∙◌, length}
use Rattle.elf_types.specs.declared.errors.ElfError.TheVariants.{NoEntry}
use Rattle.elf_types.specs.Answers.{or_refused}
use Rattle.ar_members.specs.declared.symbols.ArSym.{ArSym}
use Rattle.c_records.specs.Codes.{code}
use Rattle.c_records.proofs.GivesLemmas.{given, refused}
use Rattle.c_calls.specs.Archives.Forms.{symbol_record, archive_symbol_at}
use Rattle.c_calls.proofs.archives.symbols.give_symbol.Goals as goal

pub returns-in-Some : goal.returns-in-Some
returns-in-Some c =
    let symbols = c.args.archive.now.symbols in
    given symbol_record (archive_symbol_at symbols c.args.i) c.args.out.now c.in-Some.x.now c.of.result
    (ap (λ (x : Option ArSym). or_refused x (NoEntry c.args.i (length symbols)))
    c.in-Some.ensures) c.of.ensures

pub returns-in-None : goal.returns-in-None
returns-in-None c =
    let symbols = c.args.archive.now.symbols in
    refused symbol_record (archive_symbol_at symbols c.args.i) c.args.out.now
    (NoEntry c.args.i (length symbols)) c.code_of.result
    (ap (λ (x : Option ArSym). or_refused x (NoEntry c.args.i (length symbols)))
    c.in-None.ensures)
    (c.code_of.ensures ∙ ap (λ (n : ℕ). code (NoEntry c.args.i n)) c.len.ensures)
