use Rattle.std.proofs.Common.{ℕ, Option, ap, ◌∙◌, length}
use Rattle.elf_types.specs.declared.errors.ElfError.TheVariants.{NoEntry}
use Rattle.elf_types.specs.Answers.{or_refused}
use Rattle.c_handles.specs.declared.lent.writes.KeptWrite.{KeptWrite}
use Rattle.c_records.specs.Codes.{code}
use Rattle.c_records.proofs.GivesLemmas.{given, refused}
use Rattle.c_calls.specs.Writes.Plans.{write_record, write_at}
use Rattle.c_calls.proofs.writes.writes.give_write.Goals as goal

pub returns-in-Some : goal.returns-in-Some
returns-in-Some c =
    let writes = c.args.writes.now.list in
    given write_record (write_at writes c.args.i) c.args.out.now c.in-Some.x.now c.of.result
    (ap (λ (x : Option KeptWrite). or_refused x (NoEntry c.args.i (length writes)))
    c.in-Some.ensures) c.of.ensures

pub returns-in-None : goal.returns-in-None
returns-in-None c =
    let writes = c.args.writes.now.list in
    refused write_record (write_at writes c.args.i) c.args.out.now
    (NoEntry c.args.i (length writes)) c.code_of.result
    (ap (λ (x : Option KeptWrite). or_refused x (NoEntry c.args.i (length writes)))
    c.in-None.ensures)
    (c.code_of.ensures ∙ ap (λ (n : ℕ). code (NoEntry c.args.i n)) c.len.ensures)
