use Rattle.std.proofs.Common.{refl}
use Rattle.rebuild_image.proofs.listed.StoreLaws.{stored_listed}
use Rattle.rebuild_image.proofs.listed.stored.store_places.Goals as goal

pub returns-in-Ok-clause-ok : goal.returns-in-Ok-clause-ok
returns-in-Ok-clause-ok c = λ o is dirty known.
    stored_listed o c.args.x _ c.args.places.now is dirty known
    (c.placed_header-header.ensures o is)
    (c.in-Ok.ensures.ok o is (c.placed_header-header.ensures o is)) refl
