-- What is written keeps of the image, where no premise says that it opens again.
use Rattle.std.specs.Prelude.{◌≡◌, ℕ, Bool, true, false, List, None, Some, Ok}
use Rattle.elf_types.specs.Lists.{AreBytes}
use Rattle.elf_types.specs.declared.constants.TheConstants.{SHT_NULL}
use Rattle.elf_ident.specs.Front.{zero_shdr}
use Rattle.elf_object.specs.Object.{Object}
use Rattle.elf_object.specs.Open.{opened}
use Rattle.elf_object.specs.Sections.{header_at, is_among}
use Rattle.rebuild_model.specs.Arranged.{Rebuilt}
use Rattle.rebuild_model.specs.Files.{file_of}
use Rattle.rebuild_model.specs.KeepingLaws.{IsSplit, CombinesAgain}
use Rattle.rebuild_model.specs.Laws.{RehashKeepsLookup}
use Rattle.rebuild_model.specs.Rebuilt.{rebuilt}
use Rattle.rebuild_model.specs.Rehashed.{dynamic_symbols, rehashed}
use Rattle.rebuild_model.specs.Removed.{removed_sections}
use Rattle.rebuild_model.specs.Split.{debug_of, matches, removed_allocated}
use Rattle.law_split.specs.Halves.{KeepsForDebug, KeepsAllocated, CombinesBack}
use Rattle.law_reopen.specs.Written.{reopened}

-- ---- rehash

-- OUT opens, and each lookup among the dynamic symbols of table s finds there what it found before
abbrev pub RehashedImageKeeps : Type 0
RehashedImageKeeps =
    (image : List ℕ) (before edited : Object) (out : List ℕ) (s : ℕ)
    → AreBytes image → opened image ≡ Ok before → rehashed before ≡ Ok edited
    → file_of edited ≡ Ok out → dynamic_symbols before ≡ Some s
    → (header_at before 0).stype ≡ SHT_NULL
    → (opened out ≡ Ok (reopened edited)) × RehashKeepsLookup before (reopened edited) s

-- ---- The two files of strip -f

-- the debug file
abbrev pub DebugImageKeeps : Type 0
DebugImageKeeps =
    (image : List ℕ) (whole half : Object) (out : List ℕ)
    → AreBytes image → opened image ≡ Ok whole → debug_of whole ≡ Ok half → file_of half ≡ Ok out
    → (opened out ≡ Ok (reopened half)) × KeepsForDebug whole (reopened half)

-- the stripped file, made without some sections, of which section 0 is none
abbrev pub StrippedImageKeeps : Type 0
StrippedImageKeeps =
    (removed image : List ℕ) (whole : Object) (made : Rebuilt) (out : List ℕ)
    → AreBytes image → opened image ≡ Ok whole → is_among removed 0 ≡ false
    → rebuilt whole removed ≡ Ok made → file_of made.object ≡ Ok out
    → (opened out ≡ Ok (reopened made.object))
    × KeepsAllocated removed whole (reopened made.object)

-- an image whose section 0 is all zero but for size, link and info, and its two files: nothing that
-- is allocated is removed
pub record SplitsInto (removed image : List ℕ) (whole : Object) (made : Rebuilt) (half : Object)
    : Type 0 where
  pub bytes : AreBytes image
  pub is_whole : opened image ≡ Ok whole
  pub first : record (header_at whole 0) { size = 0; link = 0; info = 0 } ≡ zero_shdr
  pub allocated_stay : removed_allocated whole removed ≡ None
  pub is_made : rebuilt whole removed ≡ Ok made
  pub is_half : debug_of whole ≡ Ok half
  pub out : List ℕ
  pub is_out : file_of made.object ≡ Ok out
  pub debug_out : List ℕ
  pub is_debug_out : file_of half ≡ Ok debug_out

-- both files open, as the laws of split images ask
abbrev pub SplitImagesOpen : Type 0
SplitImagesOpen =
    (removed image : List ℕ) (whole : Object) (made : Rebuilt) (half : Object)
    → SplitsInto removed image whole made half → is_among removed 0 ≡ false
    → IsSplit removed whole (reopened made.object) (reopened half)

-- so they match, and combine to what answers as the image
pub record AreHalvesOf (whole stripped debug : Object) : Type 0 where
  pub matched : matches stripped debug ≡ true
  pub combined : CombinesBack whole stripped debug

abbrev pub SplitImagesMatch : Type 0
SplitImagesMatch =
    (removed image : List ℕ) (whole : Object) (made : Rebuilt) (half : Object)
    → SplitsInto removed image whole made half → is_among removed 0 ≡ false
    → AreHalvesOf whole (reopened made.object) (reopened half)

-- of what strip -f removes
abbrev pub SplitImagesCombine : Type 0
SplitImagesCombine =
    (debug_only : Bool) (names : List (List ℕ)) (image : List ℕ) (whole : Object)
    (made : Rebuilt) (half : Object)
    → SplitsInto (removed_sections debug_only names whole) image whole made half
    → CombinesAgain whole (reopened made.object) (reopened half)
