-- What copy writes is an image (objcopy(1) has the like of it).
use Rattle.std.specs.Prelude.{◌≡◌, ℕ, List, Ok}
use Rattle.elf_types.specs.Lists.{AreBytes}
use Rattle.law_object.specs.elf_object.Object.{Object}
use Rattle.law_object.specs.elf_object.Open.{opened}
use Rattle.rebuild_model.specs.Arranged.{Rebuilt}
use Rattle.rebuild_model.specs.Copied.{Changes, copied}
use Rattle.rebuild_model.specs.Files.{file_of}
use Rattle.rebuild_model.specs.Laws.{AreChanges}

-- it opens again
abbrev pub CopyOpens : Type 0
CopyOpens =
    (c : Changes) (image : List ℕ) (before : Object) (made : Rebuilt) (out : List ℕ)
    → AreChanges c → AreBytes image → opened image ≡ Ok before → copied c before ≡ Ok made
    → file_of made.object ≡ Ok out
    → (after : Object) × (opened out ≡ Ok after)
