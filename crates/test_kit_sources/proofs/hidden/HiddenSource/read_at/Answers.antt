use Rattle.std.proofs.Common.{refl}
use Rattle.test_kit_sources.proofs.Untold.{none_read}
use Rattle.test_kit_sources.proofs.hidden.HiddenSource.read_at.Goals as goal

pub returns-clause-leaves : goal.returns-clause-leaves
returns-clause-leaves g c = record {
  same_len = c.read_at.ensures.leaves.same_len;
  same_bytes = refl;
  same_rest = c.read_at.ensures.leaves.same_rest;
}

pub returns-clause-bytes : goal.returns-clause-bytes
returns-clause-bytes g c = none_read c.read_at.result
