-- Parts whose lengths have no bound, told in 64 bits. A length in memory that is built from its
-- parts may pass 2^64 - 1, and a PartAt cannot tell it: its place is taken by 2^64 - 1, with which
-- nothing is placed otherwise.
use Rattle.std.specs.Prelude.{ℕ, ◌-◌, ◌^◌, ◌<◌, ◌≡◌, min, List, ◌∷◌, map, Bool, false, IsTrue, None, All}
use Rattle.elf_types.specs.declared.records.Class.{Class}
use Rattle.elf_layout.specs.declared.parts.PartAt.{PartAt}
use Rattle.elf_layout.specs.Layout.{refusal_of, placing}
use Rattle.elf_layout.specs.Meeting.{has_bytes}

-- a part with a length of at most 2^64 - 1
unfoldable pub capped : PartAt → PartAt
capped p = record p { len = min p.len (2 ^ 64 - 1) }

-- the first part of an image, the ELF header: it stands at 0 and has a byte, and its length is told
pub record IsFirst (p : PartAt) : Type 0 where
  pub at : p.at ≡ 0
  pub some : IsTrue (has_bytes p)
  pub len : p.len < 2 ^ 64

-- Where the first part is such a one, and the others stand below 2^64, capped lengths are refused
-- as these are, and placed as these are. Where nothing is refused, no length of which the image
-- holds bytes was capped.
pub record CappedAlike (first : PartAt) (others : List PartAt) (layout : Bool) (base : ℕ)
    (class : Class) : Type 0 where
  pub refused : refusal_of (map capped (first ∷ others)) layout base class
      ≡ refusal_of (first ∷ others) layout base class
  pub placed : placing (map capped (first ∷ others)) layout base class
      ≡ placing (first ∷ others) layout base class
  pub same : refusal_of (first ∷ others) layout base class ≡ None
      → All (λ p. p.filled ≡ false → p.len < 2 ^ 64) others
      → map capped (first ∷ others) ≡ first ∷ others

abbrev pub CappingLaw : Type 0
CappingLaw =
    (first : PartAt) (others : List PartAt) (layout : Bool) (base : ℕ) (class : Class)
    → IsFirst first → All (λ p. p.at < 2 ^ 64) others → CappedAlike first others layout base class
