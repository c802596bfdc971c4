-- What strip, copy, rehash and unstrip write of an image opens again, as what was made of it
-- settled.
use Rattle.std.specs.Prelude.{◌≡◌, ℕ, Bool, List, Ok}
use Rattle.elf_types.specs.Lists.{AreBytes}
use Rattle.elf_object.specs.Object.{Object}
use Rattle.elf_object.specs.Open.{opened}
use Rattle.elf_object.specs.Settled.{settle}
use Rattle.elf_object.specs.Valid.{as_opened}
use Rattle.rebuild_model.specs.Arranged.{Rebuilt}
use Rattle.rebuild_model.specs.Copied.{Changes, copied}
use Rattle.rebuild_model.specs.Files.{file_of}
use Rattle.rebuild_model.specs.Laws.{AreChanges}
use Rattle.rebuild_model.specs.Rebuilt.{stripped}
use Rattle.rebuild_model.specs.Rehashed.{rehashed}
use Rattle.rebuild_model.specs.Split.{debug_of, unstripped}

-- the object that the image of an object, opened again, is to give: the object settled, without
-- ELF_F_LAYOUT and with fill byte 0
abbrev pub reopened : Object → Object
reopened o = as_opened (settle o)

-- strip, and the stripped file of strip -f
abbrev pub StripOpens : Type 0
StripOpens =
    (debug_only : Bool) (names : List (List ℕ)) (image : List ℕ) (before : Object)
    (made : Rebuilt) (out : List ℕ)
    → AreBytes image → opened image ≡ Ok before → stripped debug_only names before ≡ Ok made
    → file_of made.object ≡ Ok out
    → opened out ≡ Ok (reopened made.object)

-- the debug file of strip -f
abbrev pub DebugOpens : Type 0
DebugOpens =
    (image : List ℕ) (before half : Object) (out : List ℕ)
    → AreBytes image → opened image ≡ Ok before → debug_of before ≡ Ok half
    → file_of half ≡ Ok out
    → opened out ≡ Ok (reopened half)

-- copy
abbrev pub CopyReopens : Type 0
CopyReopens =
    (c : Changes) (image : List ℕ) (before : Object) (made : Rebuilt) (out : List ℕ)
    → AreChanges c → AreBytes image → opened image ≡ Ok before → copied c before ≡ Ok made
    → file_of made.object ≡ Ok out
    → opened out ≡ Ok (reopened made.object)

-- rehash
abbrev pub RehashOpens : Type 0
RehashOpens =
    (image : List ℕ) (before edited : Object) (out : List ℕ)
    → AreBytes image → opened image ≡ Ok before → rehashed before ≡ Ok edited
    → file_of edited ≡ Ok out
    → opened out ≡ Ok (reopened edited)

-- unstrip, of any two images that it combines
abbrev pub UnstripOpens : Type 0
UnstripOpens =
    (image debug_image : List ℕ) (before debug : Object) (made : Rebuilt) (out : List ℕ)
    → AreBytes image → AreBytes debug_image
    → opened image ≡ Ok before → opened debug_image ≡ Ok debug
    → unstripped before debug ≡ Ok made → file_of made.object ≡ Ok out
    → opened out ≡ Ok (reopened made.object)
