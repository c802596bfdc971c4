use Rattle.std.proofs.Common.{ℕ, refl}
use Rattle.rebuild_edits.proofs.edits.FaultLaws.{unread_on}
use Rattle.rebuild_copy.proofs.BytesLaws.{found_updated, unfound_updated, named_in_there}
use Rattle.rebuild_copy.proofs.updating.update_section.Goals as goal

pub returns-in-Ok-clause-updates : goal.returns-in-Ok-clause-updates
returns-in-Ok-clause-updates c = λ o p is index.
    let found = c.in-Ok.ensures.found _ index in
    let name = c.args.change.now.name in
    found_updated o p name c.args.change.now.bytes c.in-Ok.s c.update_found.result
    c.update_found.new.x c.update_found.new.index found
    (c.update_found.ensures.updates o p is (named_in_there p name c.in-Ok.s found.here) index
    ((found.finds p).found refl))

pub returns-in-Err-clause-updates : goal.returns-in-Err-clause-updates
returns-in-Err-clause-updates c = λ o p is index.
    unfound_updated o p c.args.change.now.name c.args.change.now.bytes c.in-Err.fault
    c.args.x.now c.args.index.now (c.in-Err.ensures.found _ index)

pub returns-in-Err-clause-unread : goal.returns-in-Err-clause-unread
returns-in-Err-clause-unread c = unread_on ℕ (Unit {0}) c.in-Err.fault c.in-Err.ensures.unread
