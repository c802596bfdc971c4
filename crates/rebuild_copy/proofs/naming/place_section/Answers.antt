use Rattle.std.proofs.Common.{◌≡◌, ◌≢◌, ℕ, true, List, All, drop, refl, sym, ap, ◌∙◌, subst}
use Rattle.std.specs.Prelude.{IfOk}
use Rattle.rebuild_edits.specs.gelf_view.Records.{string_front}
use Rattle.rebuild_edits.specs.rebuild_names.declared.known.KnownPlaces.{KnownPlaces}
use Rattle.rebuild_edits.specs.rebuild_names.Known.{AreHeld}
use Rattle.rebuild_edits.proofs.rebuild_names.KnownLaws.{known_more}
use Rattle.rebuild_edits.specs.Edits.Names.{new_name}
use Rattle.rebuild_edits.proofs.PlaceLaws.{plain_new}
use Rattle.rebuild_copy.specs.Rows.{held_in, held_name}
use Rattle.rebuild_copy.proofs.NamingLaws.{new_placed, old_placed}
use Rattle.rebuild_copy.proofs.naming.place_section.Goals as goal

pub place_text-requires : goal.place_text-requires
place_text-requires c =
    subst (λ (l : List ℕ). All (λ b. b ≢ 0) l) (sym c.as_slice.ensures)
    (plain_new c.args.changes.now.rename c.mark_of.result c.in-Some.name.now
    c.requires.plain.rename c.in-Some.ensures)

pub returns-in-Some-clause-placed : goal.returns-in-Some-clause-placed
returns-in-Some-clause-placed c = λ o p is has below.
    new_placed c.args.x.now c.args.marks.now c.args.changes.now.rename c.args.s
    c.args.making.now.strings c.place_text.new.making.strings c.args.making.now.places
    c.place_text.new.making.places c.place_text.result c.in-Some.name.now _ c.as_slice.ensures
    (c.in-Some.ensures ∙ ap (new_name c.args.changes.now.rename) c.mark_of.ensures)
    c.place_text.ensures.placed p

pub returns-in-Some-clause-known : goal.returns-in-Some-clause-known
returns-in-Some-clause-known c =
    let table : List ℕ = held_in c.args.x.now c.args.table.now.range in
    subst (λ (m : KnownPlaces). IfOk c.place_text.result (λ fits. fits ≡ true
    → AreHeld (held_name table) m c.place_text.new.making.strings))
    (sym c.place_text.ensures.known)
    (known_more (held_name table) c.args.making.now.known c.args.making.now.strings
    c.place_text.new.making.strings c.args.making.now.places c.place_text.new.making.places
    c.as_slice.result.now c.place_text.result c.requires.known c.place_text.ensures.placed)

pub returns-in-None-clause-placed : goal.returns-in-None-clause-placed
returns-in-None-clause-placed c = λ o p is has below.
    let table : List ℕ = held_in c.args.x.now c.args.table.now.range in
    old_placed c.args.x.now c.args.marks.now c.args.changes.now.rename c.args.s
    c.args.making.now.strings c.place_old.new.making.strings c.args.making.now.places
    c.place_old.new.making.places c.place_old.result table
    (string_front (drop c.header_of.result.name table)) c.header_of.result.name
    (c.in-None.ensures ∙ ap (new_name c.args.changes.now.rename) c.mark_of.ensures)
    (ap (λ h. h.name) c.header_of.ensures) refl c.place_old.ensures.placed o p is has below

pub returns-in-None-clause-known : goal.returns-in-None-clause-known
returns-in-None-clause-known c = c.place_old.ensures.known
