use Rattle.rebuild_names.proofs.KnownLaws.{name_place_noted}
use Rattle.rebuild_names.proofs.known.KnownPlaces.note.Goals as goal

pub returns-clause-ok : goal.returns-clause-ok
returns-clause-ok c = λ q.
    name_place_noted c.args.self.now.places c.insert.new.self c.args.at c.args.place
    c.in_ok-insert.ensures.updates q
