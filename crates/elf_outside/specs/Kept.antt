-- What a set of files in memory keeps of each name.
use Rattle.std.specs.Prelude.{◌≡◌, ◌≢◌, ℕ, List, Option, Some, None, String}
use Rattle.std.specs.Option.{option_map}
use Rattle.std.specs.Global.{Global}
use Rattle.std.specs.BTreeMap.{BTreeMap, get_by_text}
use Rattle.elf_outside.specs.declared.memory.files.Kept.{Kept}

abbrev pub Names : Type 0
Names = BTreeMap (String Global) Kept

-- what is kept of a name, or None where the name is not there
abbrev pub kept : Names → List ℕ → Option Kept
kept names name = get_by_text names name

-- the bytes of a name, or None where it is not there
abbrev pub bytes_kept : Names → List ℕ → Option (List ℕ)
bytes_kept names name = option_map (λ k. k.bytes) (kept names name)

-- what is kept of a name once a file was closed under it: the bytes, where the name is there
abbrev pub closed : List ℕ → Option Kept → Option Kept
closed bytes None = None
closed bytes (Some k) = Some (record k { bytes = bytes })

-- every name is as before
abbrev pub SameKept : Names → Names → Type 0
SameKept old new = (name : List ℕ) → kept new name ≡ kept old name

-- one name is as given, and every other one is as before
pub record SetsKept (old new : Names) (name : List ℕ) (now : Option Kept) : Type 0 where
  pub set : kept new name ≡ now
  pub others : (other : List ℕ) → other ≢ name → kept new other ≡ kept old other
