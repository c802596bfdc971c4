use Rattle.std.proofs.Common.{ℕ, List, sym, subst}
use Rattle.std.specs.Prelude.{IfOk, OnOk}
use Rattle.rebuild_names.specs.declared.known.KnownPlaces.{KnownPlaces}
use Rattle.rebuild_names.specs.Known.{NotesIf}
use Rattle.rebuild_names.specs.Names.{IsAdded, IsPlaceAppended}
use Rattle.rebuild_names.proofs.AddLaws.{added_at}
use Rattle.rebuild_names.proofs.KnownLaws.{noted_name}
use Rattle.rebuild_names.proofs.building.place_copied.Goals as goal

pub returns-in-Ok-clause-placed : goal.returns-in-Ok-clause-placed
returns-in-Ok-clause-placed g c =
    added_at c.args.making.now.strings c.put_place.new.making.strings c.args.making.now.copy
    c.args.making.now.places c.put_place.new.making.places c.in-Ok.place c.put_place.result
    (subst (λ (l : List (List ℕ)). IsAdded c.args.making.now.strings l
    c.args.making.now.copy c.in-Ok.place) (sym c.put_place.ensures.strings)
    c.in-Ok.ensures.added)
    (subst (λ (l : List ℕ). IfOk c.put_place.result
    (IsPlaceAppended l c.put_place.new.making.places c.in-Ok.place)) c.in-Ok.ensures.places
    c.put_place.ensures.pushed)

pub returns-in-Ok-clause-noted : goal.returns-in-Ok-clause-noted
returns-in-Ok-clause-noted g c =
    noted_name c.args.at c.args.making.now.copy c.add_copied.new.making.places
    c.put_place.new.making.places c.args.making.now.strings c.put_place.new.making.strings
    c.args.making.now.known c.put_place.new.making.known c.in-Ok.place c.put_place.result
    (subst (λ (l : List (List ℕ)). IsAdded c.args.making.now.strings l
    c.args.making.now.copy c.in-Ok.place) (sym c.put_place.ensures.strings)
    c.in-Ok.ensures.added)
    c.put_place.ensures.pushed
    (subst (λ (m : KnownPlaces). OnOk c.put_place.result
    (NotesIf c.args.at c.in-Ok.place m c.put_place.new.making.known)) c.in-Ok.ensures.known
    c.put_place.ensures.noted)
