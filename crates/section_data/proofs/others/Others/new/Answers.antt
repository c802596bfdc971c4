use Rattle.section_data.proofs.Runs.{none_noted}
use Rattle.section_data.proofs.others.Others.new.Goals as goal

pub invariant_of-result : goal.invariant_of-result
invariant_of-result c = record {
  shorts = none_noted 16 _ _ c.new-2.ensures.items;
  middles = none_noted 512 _ _ c.new-3.ensures.items;
  longs = none_noted 16384 _ _ c.new-4.ensures.items;
}
