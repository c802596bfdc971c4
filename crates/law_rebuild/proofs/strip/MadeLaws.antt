-- What the commands make of objects are objects (`MadeAreObjects`).
use Rattle.rebuild_model.specs.Laws.{MadeAreObjects}
use Rattle.law_rebuild.proofs.strip.RebuiltLaws.{rebuilt_is_object}
use Rattle.law_rebuild.proofs.strip.CopyLaws.{copied_is_object}
use Rattle.law_rebuild.proofs.strip.OrderLaws.{reordered_is_object}
use Rattle.law_rebuild.proofs.strip.RehashLaws.{rehashed_is_object}
use Rattle.law_rebuild.proofs.strip.HalfLaws.{debug_is_object, combined_is_object}

pub made_are_objects : MadeAreObjects
made_are_objects = record {
  rebuilt = rebuilt_is_object;
  copied = copied_is_object;
  reordered = reordered_is_object;
  rehashed = rehashed_is_object;
  debug = debug_is_object;
  combined = combined_is_object;
}
