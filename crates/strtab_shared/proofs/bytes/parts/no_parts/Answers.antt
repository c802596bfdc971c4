use Rattle.std.proofs.Common.{refl}
use Rattle.strtab_shared.proofs.bytes.PartLaws.{none_kept, none_whole}
use Rattle.strtab_shared.proofs.bytes.parts.no_parts.Goals as goal

pub returns-clause-kept : goal.returns-clause-kept
returns-clause-kept c = none_kept _ c.new.ensures c.new-2.ensures refl refl

pub returns-clause-none : goal.returns-clause-none
returns-clause-none c = none_whole (record {
  text = c.new.result;
  stretches = c.new-2.result;
  count = 0;
  tail = 0;
}) c.new.ensures c.new-2.ensures
