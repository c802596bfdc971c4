use Rattle.unstrip_tool.proofs.refusing.refuse_half.Goals as goal

pub returns : goal.returns
returns g c = rw c.as_bytes.ensures.value at c.refuse_for.ensures
