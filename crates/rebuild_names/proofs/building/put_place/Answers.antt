use Rattle.std.proofs.Common.{ℕ, false, Option, refl, sym, subst}
use Rattle.std.specs.Prelude.{IfOk, OnOk}
use Rattle.rebuild_names.specs.Known.{NotesIf}
use Rattle.rebuild_names.specs.Names.{IsPlaceAppended}
use Rattle.rebuild_names.proofs.building.put_place.Goals as goal

pub returns-in-Some-clause-pushed : goal.returns-in-Some-clause-pushed
returns-in-Some-clause-pushed c =
    subst (λ (o : Option ℕ). IfOk c.note_place.result
    (IsPlaceAppended c.args.making.now.places c.note_place.new.places o)) (sym c.in-Some.is)
    c.note_place.ensures.pushed

pub returns-in-Some-clause-noted : goal.returns-in-Some-clause-noted
returns-in-Some-clause-noted c =
    subst (λ (o : Option ℕ). OnOk c.note_place.result
    (NotesIf c.args.at o c.args.making.now.known c.note_place.new.known))
    (sym c.in-Some.is) c.note_place.ensures.noted

pub returns-in-None-clause-pushed : goal.returns-in-None-clause-pushed
returns-in-None-clause-pushed c =
    subst (λ (o : Option ℕ). IsPlaceAppended c.args.making.now.places c.args.making.now.places o false)
    (sym c.in-None.is) refl

pub returns-in-None-clause-noted : goal.returns-in-None-clause-noted
returns-in-None-clause-noted c =
    subst (λ (o : Option ℕ). NotesIf c.args.at o c.args.making.now.known
    c.args.making.now.known) (sym c.in-None.is) tt
