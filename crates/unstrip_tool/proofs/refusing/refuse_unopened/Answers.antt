use Rattle.std.proofs.Common.{refl}
use Rattle.unstrip_tool.proofs.refusing.refuse_unopened.Goals as goal

pub returns-in-NotThere : goal.returns-in-NotThere
returns-in-NotThere g c = rw c.in-NotThere.is c.refuse_with.ensures

pub returns-in-Failed : goal.returns-in-Failed
returns-in-Failed g c = rw c.in-Failed.is (refl, refl)

pub returns-in-Memory : goal.returns-in-Memory
returns-in-Memory g c = rw c.in-Memory.is (refl, refl)
