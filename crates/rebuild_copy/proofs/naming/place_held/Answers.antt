use Rattle.std.proofs.Common.{ℕ, List, Option, refl, ap, ◌∙◌, subst}
use Rattle.std.specs.Prelude.{IfOk}
use Rattle.elf_object.specs.Strings.{or_empty_name}
use Rattle.rebuild_edits.specs.gelf_view.Records.{string_front}
use Rattle.rebuild_edits.specs.rebuild_names.declared.known.KnownPlaces.{KnownPlaces}
use Rattle.rebuild_edits.specs.rebuild_names.Known.{NotesName}
use Rattle.rebuild_edits.specs.rebuild_names.Names.{IsAddedAt}
use Rattle.rebuild_edits.proofs.rebuild_names.AddLaws.{placed_as}
use Rattle.rebuild_copy.specs.Rows.{held_in, held_name}
use Rattle.rebuild_copy.proofs.NamingLaws.{front_plain_as}
use Rattle.rebuild_copy.proofs.naming.place_held.Goals as goal

pub place_found-requires : goal.place_found-requires
place_found-requires c = front_plain_as _ _ c.string_in.ensures

pub returns-in-Ok-clause-placed : goal.returns-in-Ok-clause-placed
returns-in-Ok-clause-placed c =
    let name : List ℕ =
    held_name (held_in c.args.x.now c.args.table.now.range) c.args.place in
    placed_as c.args.making.now.strings c.hold_names.new.making.strings
    c.place_found.new.making.strings c.args.making.now.places c.hold_names.new.making.places
    c.place_found.new.making.places name name c.place_found.result c.hold_names.ensures.strings
    c.hold_names.ensures.places refl
    (subst (λ (found : Option (List ℕ)). IfOk c.place_found.result (λ fits.
    IsAddedAt c.hold_names.new.making.strings c.place_found.new.making.strings
    c.hold_names.new.making.places c.place_found.new.making.places (or_empty_name found) fits))
    (c.string_in.ensures ∙ ap string_front c.as_slice.ensures ∙ c.in-Ok.ensures.ok)
    c.place_found.ensures.placed)

pub returns-in-Ok-clause-noted : goal.returns-in-Ok-clause-noted
returns-in-Ok-clause-noted c =
    subst (λ (m : KnownPlaces). IfOk c.place_found.result (NotesName c.args.place
    (held_name (held_in c.args.x.now c.args.table.now.range) c.args.place)
    c.place_found.new.making.strings m c.place_found.new.making.known))
    c.hold_names.ensures.known
    (subst (λ (found : Option (List ℕ)). IfOk c.place_found.result (NotesName c.args.place
    (or_empty_name found) c.place_found.new.making.strings c.hold_names.new.making.known
    c.place_found.new.making.known))
    (c.string_in.ensures ∙ ap string_front c.as_slice.ensures ∙ c.in-Ok.ensures.ok)
    c.place_found.ensures.noted)
