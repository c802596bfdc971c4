use Rattle.std.proofs.Common.{◌++◌, ◌∷◌, []}
use Rattle.rebuild_files.specs.elfkit_outcomes.Files.{bytes_named}
use Rattle.copy_tool.specs.Files.{length_held, pairs, list_if_all_found}
use Rattle.copy_tool.proofs.NameLemmas.{put_filled, put_stops, put_names}
use Rattle.copy_tool.proofs.ReadLemmas.{reads_made, made_none, made_stop}
use Rattle.copy_tool.proofs.files.add_file.Goals as goal

pub returns-in-Ok-Some-clause-reads : goal.returns-in-Ok-Some-clause-reads
returns-in-Ok-Some-clause-reads g c =
    let each = c.args.each.now in
    let list = c.args.read.now in
    let next = c.put_named.new.read in
    reads_made g.F.Files g.O.Sink g.E.Sink (λ m. bytes_named m each.file)
    (λ m. length_held (m each.file)) c.args.files.now _ c.args.outputs.now _
    (λ bytes. pairs list ++ (each.name, bytes) ∷ []) c.in-Ok-Some.bytes
    (list_if_all_found c.put_named.result (pairs next))
    (put_filled list next each.name c.in-Ok-Some.bytes c.put_named.result
    c.put_named.ensures.there c.put_named.ensures.ok)
    (put_stops list next each.name c.in-Ok-Some.bytes c.put_named.result
    c.put_named.ensures.stop)
    (rw (c.as_str.ensures, c.in-Ok-Some.field-0-is) at c.in-Ok-Some.ensures)

pub returns-in-Ok-Some-clause-names : goal.returns-in-Ok-Some-clause-names
returns-in-Ok-Some-clause-names g c =
    put_names c.args.read.now c.put_named.new.read c.args.each.now.name c.in-Ok-Some.bytes
    c.put_named.result c.put_named.ensures.ok

pub returns-in-Ok-None-clause-reads : goal.returns-in-Ok-None-clause-reads
returns-in-Ok-None-clause-reads g c =
    let each = c.args.each.now in
    made_none g.F.Files g.O.Sink g.E.Sink (λ m. bytes_named m each.file)
    (λ m. length_held (m each.file)) c.args.files.now _ c.args.outputs.now _
    (λ bytes. pairs c.args.read.now ++ (each.name, bytes) ∷ [])
    (rw (c.as_str.ensures, c.in-Ok-None.field-0-is) at c.in-Ok-None.ensures)

pub returns-in-Ok-None-clause-names : goal.returns-in-Ok-None-clause-names
returns-in-Ok-None-clause-names g c = λ no. cc

pub returns-in-Err-clause-reads : goal.returns-in-Err-clause-reads
returns-in-Err-clause-reads g c =
    let each = c.args.each.now in
    made_stop g.F.Files g.O.Sink g.E.Sink (λ m. bytes_named m each.file)
    (λ m. length_held (m each.file)) c.args.files.now _ c.args.outputs.now _
    (λ bytes. pairs c.args.read.now ++ (each.name, bytes) ∷ []) c.in-Err.stop
    (rw c.as_str.ensures at c.in-Err.ensures)
