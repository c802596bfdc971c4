use Rattle.rebuild_files.specs.elfkit_outcomes.Files.{bytes_of_each}
use Rattle.rebuild_changes.specs.Stated.{stated_changes}
use Rattle.copy_tool.specs.Files.{lengths_named, pairs, seen_in}
use Rattle.copy_tool.specs.Words.{added_changes}
use Rattle.copy_tool.proofs.ByteLemmas.{lengths_same}
use Rattle.copy_tool.proofs.FillLemmas.{added_same}
use Rattle.copy_tool.proofs.ReadLemmas.{reads_then, reads_none, reads_stop}
use Rattle.copy_tool.proofs.reading.read_changes.Goals as goal

pub returns-in-Ok-Some-clause-reads : goal.returns-in-Ok-Some-clause-reads
returns-in-Ok-Some-clause-reads g c =
    let words = c.args.words.now in
    reads_then g.F.Files g.O.Sink g.E.Sink (λ m. bytes_of_each m words.update)
    (λ m. lengths_named m words.update) c.args.files.now _ c.args.outputs.now _
    (λ update m. added_changes words update m) (λ m. lengths_named m words.add)
    (pairs c.in-Ok-Some.update) (seen_in stated_changes c.read_added.result) _ _
    (λ m n same. added_same words (pairs c.in-Ok-Some.update) m n same)
    (λ m n same. lengths_same m n same words.add)
    (rw (c.as_slice.ensures, c.in-Ok-Some.field-0-is) at c.in-Ok-Some.ensures.reads)
    c.read_added.ensures.reads

pub returns-in-Ok-None-clause-reads : goal.returns-in-Ok-None-clause-reads
returns-in-Ok-None-clause-reads g c =
    let words = c.args.words.now in
    reads_none g.F.Files g.O.Sink g.E.Sink (λ m. bytes_of_each m words.update)
    (λ m. lengths_named m words.update) c.args.files.now _ c.args.outputs.now _
    (λ update m. added_changes words update m) (λ m. lengths_named m words.add)
    (rw (c.as_slice.ensures, c.in-Ok-None.field-0-is) at c.in-Ok-None.ensures.reads)

pub returns-in-Err-clause-reads : goal.returns-in-Err-clause-reads
returns-in-Err-clause-reads g c =
    let words = c.args.words.now in
    reads_stop g.F.Files g.O.Sink g.E.Sink (λ m. bytes_of_each m words.update)
    (λ m. lengths_named m words.update) c.args.files.now _ c.args.outputs.now _
    (λ update m. added_changes words update m) (λ m. lengths_named m words.add) c.in-Err.stop
    (rw c.as_slice.ensures at c.in-Err.ensures.reads)
