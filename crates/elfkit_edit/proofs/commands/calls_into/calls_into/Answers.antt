use Rattle.elfkit_edit.proofs.commands.calls_into.calls_into.Goals as goal

pub calls_to-requires : goal.calls_to-requires
calls_to-requires g c = (rw c.in-To.is at c.requires).0

pub returns-in-To-clause-does : goal.returns-in-To-clause-does
returns-in-To-clause-does g c = rw c.in-To.is c.calls_to.ensures.does

pub returns-in-InPlace-clause-does : goal.returns-in-InPlace-clause-does
returns-in-InPlace-clause-does g c = rw c.in-InPlace.is c.calls_in_place.ensures.does
