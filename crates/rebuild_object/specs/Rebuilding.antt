-- The object without some sections was created and filled, each section with items of the kind that
-- rebuild_plan plans.
use Rattle.std.specs.Prelude.{◌≡◌, false, List, ℕ, Ok}
use Rattle.elf_object.specs.Object.{Object, is_dirty}
use Rattle.elf_object.specs.Sections.{is_among}
use Rattle.elf_object.specs.Valid.{IsObject}
use Rattle.rebuild_model.specs.Arranged.{Rebuilt}
use Rattle.rebuild_model.specs.Rebuilt.{rebuilt}
use Rattle.rebuild_plan.specs.law_rebuild.Strip.Made.{FitsClass}
use Rattle.rebuild_plan.specs.Reading.{rebuilt_kinds}
use Rattle.rebuild_object.specs.Planned.{IsCreatedWith}

abbrev pub RebuiltAreCreated : Type 0
RebuiltAreCreated =
    (o : Object) (removed : List ℕ) (r : Rebuilt) → IsObject o → is_dirty o ≡ false → FitsClass o
    → is_among removed 0 ≡ false → rebuilt o removed ≡ Ok r
    → IsCreatedWith o (rebuilt_kinds o removed) r.object
