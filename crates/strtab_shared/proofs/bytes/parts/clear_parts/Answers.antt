use Rattle.std.proofs.Common.{refl}
use Rattle.strtab_shared.proofs.bytes.PartLaws.{none_kept, none_whole}
use Rattle.strtab_shared.proofs.bytes.parts.clear_parts.Goals as goal

pub returns-clause-kept : goal.returns-clause-kept
returns-clause-kept c = none_kept _ c.truncate.ensures c.truncate-2.ensures refl refl

pub returns-clause-none : goal.returns-clause-none
returns-clause-none c = none_whole (record {
  text = c.truncate.new.self;
  stretches = c.truncate-2.new.self;
  count = 0;
  tail = 0;
}) c.truncate.ensures c.truncate-2.ensures
