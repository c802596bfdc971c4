use Rattle.std.proofs.Common.{ℕ, List, refl}
use Rattle.rebuild_edits.proofs.rebuild_names.KnownLaws.{held_placed, known_held, known_after, still_ok}
use Rattle.rebuild_copy.specs.Rows.{held_in, held_name}
use Rattle.rebuild_copy.proofs.naming.place_old.Goals as goal

pub returns-in-Some-clause-placed : goal.returns-in-Some-clause-placed
returns-in-Some-clause-placed c =
    let table : List ℕ = held_in c.args.x.now c.args.table.now.range in
    let names = c.args.making.now.strings in
    held_placed names (held_name table c.args.place) c.args.making.now.places
    c.push_place.new.places c.in-Some.noted c.push_place.result
    (known_held (held_name table) c.args.making.now.known names c.args.place c.in-Some.noted
    c.requires c.in-Some.ensures)
    c.push_place.ensures.pushed

pub returns-in-Some-clause-known : goal.returns-in-Some-clause-known
returns-in-Some-clause-known c = still_ok c.push_place.result c.requires

pub returns-in-None-clause-placed : goal.returns-in-None-clause-placed
returns-in-None-clause-placed c = c.place_held.ensures.placed

pub returns-in-None-clause-known : goal.returns-in-None-clause-known
returns-in-None-clause-known c =
    let table : List ℕ = held_in c.args.x.now c.args.table.now.range in
    known_after (held_name table) c.args.making.now.known c.place_held.new.making.known
    c.args.making.now.strings c.place_held.new.making.strings c.args.making.now.places
    c.place_held.new.making.places (held_name table c.args.place) c.args.place
    c.place_held.result refl c.requires c.place_held.ensures.placed c.place_held.ensures.noted
