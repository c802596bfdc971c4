-- What stays of FILE in the file that strip writes (strip(1) of the development tools; gABI chapter
-- 5, "Program Header", PT_LOAD).
use Rattle.std.specs.Prelude.{◌≡◌, ℕ, ◌<◌, false, List, length, slice_index, Some, Ok}
use Rattle.elf_types.specs.Lists.{AreBytes}
use Rattle.elf_outside.specs.Names.{Map}
use Rattle.elf_ident.specs.declared.fronts.Front.{Front}
use Rattle.elf_ident.specs.Front.{front}
use Rattle.rebuild_model.specs.Laws.{IsUsual, IsLoaded, may_change}
use Rattle.elfkit_outcomes.specs.declared.options.StripOptions.{StripOptions}
use Rattle.tool_output.specs.Outcomes.{FileWrite, write_of}
use Rattle.elfkit_outcomes.specs.Strip.{strip_outcome}

-- FILE holds an image with a usual header, and strip writes OUT
pub record StripWrites (options : StripOptions) (named : Map) (file image : List ℕ) (f : Front)
    (out : FileWrite) : Type 0 where
  pub held : named file ≡ Some image
  pub bytes : AreBytes image
  pub is_front : front image ≡ Ok f
  pub usual : IsUsual f
  pub written : write_of (strip_outcome options named file).writes options.out ≡ Some out

-- each byte of FILE that is loaded is the same in OUT
abbrev pub LoadedFilesStay : Type 0
LoadedFilesStay =
    (options : StripOptions) (named : Map) (file image : List ℕ) (f : Front) (out : FileWrite)
    → StripWrites options named file image f out
    → (k : ℕ) → IsLoaded f.phdrs k → k < length image → may_change f.ehdr.class k ≡ false
    → (k < length out.bytes) × (slice_index out.bytes k ≡ slice_index image k)
