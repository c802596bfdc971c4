use Rattle.std.proofs.Common.{◌≡◌, Ok, Some}
use Rattle.tool_output.specs.declared.stops.Stop.TheVariants.{Memory}
use Rattle.rebuild_files.specs.elfkit_outcomes.Copy.{changes_with}
use Rattle.rebuild_files.specs.elfkit_outcomes.Files.{bytes_of_each}
use Rattle.rebuild_changes.specs.Stated.{stated_changes}
use Rattle.copy_tool.specs.Files.{lengths_named, pairs, seen_in}
use Rattle.copy_tool.proofs.ReadLemmas.{seen_ok, seen_err, reads_made, made_none, made_stop}
use Rattle.copy_tool.proofs.reading.read_added.Goals as goal

pub all_changes-requires-clause-added : goal.all_changes-requires-clause-added
all_changes-requires-clause-added g c =
    rw (c.as_slice.ensures, c.in-Ok-Some.field-0-is) at c.in-Ok-Some.ensures.names

pub all_changes-requires-clause-names : goal.all_changes-requires-clause-names
all_changes-requires-clause-names g c = c.requires

pub returns-in-Ok-Some-clause-reads : goal.returns-in-Ok-Some-clause-reads
returns-in-Ok-Some-clause-reads g c =
    let words = c.args.words.now in
    let update = pairs c.args.update in
    let made = c.all_changes.result in
    reads_made g.F.Files g.O.Sink g.E.Sink (λ m. bytes_of_each m words.add)
    (λ m. lengths_named m words.add) c.args.files.now _ c.args.outputs.now _
    (λ add. changes_with words update add) (pairs c.in-Ok-Some.add)
    (seen_in stated_changes made)
    (seen_ok stated_changes made (seen_in stated_changes made
    ≡ Ok (Some (changes_with words update (pairs c.in-Ok-Some.add)))) c.all_changes.ensures.ok)
    (seen_err stated_changes made (λ stop. stop ≡ Memory) c.all_changes.ensures.stop)
    (rw (c.as_slice.ensures, c.in-Ok-Some.field-0-is) at c.in-Ok-Some.ensures.reads)

pub returns-in-Ok-None-clause-reads : goal.returns-in-Ok-None-clause-reads
returns-in-Ok-None-clause-reads g c =
    let words = c.args.words.now in
    made_none g.F.Files g.O.Sink g.E.Sink (λ m. bytes_of_each m words.add)
    (λ m. lengths_named m words.add) c.args.files.now _ c.args.outputs.now _
    (λ add. changes_with words (pairs c.args.update) add)
    (rw (c.as_slice.ensures, c.in-Ok-None.field-0-is) at c.in-Ok-None.ensures.reads)

pub returns-in-Err-clause-reads : goal.returns-in-Err-clause-reads
returns-in-Err-clause-reads g c =
    let words = c.args.words.now in
    made_stop g.F.Files g.O.Sink g.E.Sink (λ m. bytes_of_each m words.add)
    (λ m. lengths_named m words.add) c.args.files.now _ c.args.outputs.now _
    (λ add. changes_with words (pairs c.args.update) add) c.in-Err.stop
    (rw c.as_slice.ensures at c.in-Err.ensures.reads)
