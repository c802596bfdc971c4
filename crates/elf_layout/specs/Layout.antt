-- Where the parts of an image stand, how long the image is, and which images are refused (gABI
-- chapter 4, "ELF Header" and "Section Header"; ELF_F_LAYOUT of elf(3E)).
use Rattle.std.specs.Prelude.{ℕ, ◌+◌, ◌-◌, ◌^◌, max, nat_lt, List, [], ◌∷◌, map, Bool, not, ◌&&◌, ◌||◌, if◌then◌else◌, Option, Some, None, Result, Ok, Err}
use Rattle.std.specs.Int.{next_multiple_of}
use Rattle.std.specs.List.{list_any}
use Rattle.std.specs.Option.{option_map, option_or}
use Rattle.elf_types.specs.declared.records.Class.{Class}
use Rattle.elf_types.specs.declared.records.Class.TheVariants.{C32, C64}
use Rattle.elf_types.specs.declared.errors.ElfError.{ElfError}
use Rattle.elf_types.specs.declared.errors.ElfError.TheVariants.{Memory, Overlap, TooLarge}
use Rattle.elf_types.specs.Answers.{answered}
use Rattle.elf_layout.specs.declared.parts.PartAt.{PartAt}
use Rattle.elf_layout.specs.declared.parts.Places.{Places}
use Rattle.elf_layout.specs.Meeting.{has_bytes, end_of, overlap_of}

-- the least multiple of the alignment that is not below n; an sh_addralign of 0 means what 1 does,
-- no constraint
unfoldable pub rounded_up : ℕ → ℕ → ℕ
rounded_up n align = next_multiple_of n (max align 1)

-- where the part stands that comes next after the end so far
unfoldable pub place_of : ℕ → PartAt → ℕ
place_of end p = rounded_up end p.align

-- the end after it; SHT_NULL and SHT_NOBITS occupy no space in the file, and leave it where it is
unfoldable pub end_after : ℕ → PartAt → ℕ
end_after end p = if p.filled then place_of end p + p.len else end

-- the parts one after the other, from an end on
unfoldable pub in_order_from : ℕ → List PartAt → List PartAt
in_order_from end [] = []
in_order_from end (p ∷ ps) = record p { at = place_of end p } ∷ in_order_from (end_after end p) ps

-- the parts at their positions: under ELF_F_LAYOUT where the caller puts them, else one after the
-- other from the ELF header at 0 on
unfoldable pub standing : List PartAt → Bool → List PartAt
standing parts layout = if layout then parts else in_order_from 0 parts

-- a length that reaches at least to the end of the part, if that is not empty
unfoldable pub length_with : ℕ → PartAt → ℕ
length_with length p = if has_bytes p then max length (end_of p) else length

-- the greatest end of a part that is not empty, and at least a length
unfoldable pub length_from : ℕ → List PartAt → ℕ
length_from length [] = length
length_from length (p ∷ ps) = length_from (length_with length p) ps

-- the image's length; under ELF_F_LAYOUT the bytes of the base stay
unfoldable pub length_of : List PartAt → Bool → ℕ → ℕ
length_of parts layout base = length_from (if layout then base else 0) (standing parts layout)

-- e_phoff, e_shoff and sh_offset, in the order of the parts
unfoldable pub positions : List PartAt → List ℕ
positions ps = map (λ p. p.at) ps

-- where the parts stand and the image ends
unfoldable pub places_of : List PartAt → Bool → ℕ → Places
places_of parts layout base =
    record { at = positions (standing parts layout); end = length_of parts layout base }

-- the greatest length of an image, and the greatest position in it; an Elf32_Off has four bytes
unfoldable pub limit_of : Class → ℕ
limit_of C32 = 2 ^ 32 - 1
limit_of C64 = 2 ^ 40

-- some part stands above a limit
unfoldable pub some_above : ℕ → List PartAt → Bool
some_above limit ps = list_any (λ p. nat_lt limit p.at) ps

-- The length is above the limit, or a position that is not the caller's. Every part's position
-- counts: a section of type SHT_NULL, whose sh_offset is not set, and a header table add nothing,
-- since they stand at the end so far or before an end of their own.
unfoldable pub is_too_large : List PartAt → Bool → ℕ → ℕ → Bool
is_too_large parts layout base limit =
    nat_lt limit (length_of parts layout base)
    || not layout && some_above limit (standing parts layout)

-- two parts share a byte at the caller's positions
unfoldable pub overlap_refusal : List PartAt → Bool → Option ElfError
overlap_refusal parts layout =
    if layout then option_map (λ pair. Overlap pair.0 pair.1) (overlap_of parts) else None

-- the first of the two refusals
unfoldable pub refusal_within : List PartAt → Bool → ℕ → ℕ → Option ElfError
refusal_within parts layout base limit =
    option_or (overlap_refusal parts layout)
    (if is_too_large parts layout base limit then Some TooLarge else None)

-- the whole answer under a limit
unfoldable pub placing_within : List PartAt → Bool → ℕ → ℕ → Result Places ElfError
placing_within parts layout base limit =
    answered (refusal_within parts layout base limit) (places_of parts layout base)

-- the refusal under the limit of a class
unfoldable pub refusal_of : List PartAt → Bool → ℕ → Class → Option ElfError
refusal_of parts layout base class = refusal_within parts layout base (limit_of class)

-- the whole answer for an image of a class
unfoldable pub placing : List PartAt → Bool → ℕ → Class → Result Places ElfError
placing parts layout base class = placing_within parts layout base (limit_of class)

-- a refusal that a definition states: want of memory is none
abbrev pub layout_refusal : ElfError → Option ElfError
layout_refusal Memory = None
layout_refusal e = Some e

-- whether want of memory may come where this is stated: in place of a value, or of what is seen
-- once the parts are sorted in a list of their own
abbrev pub MayWantMemory : {A : Type 0} → Result A ElfError → Type 0
MayWantMemory (Ok x) = Unit {0}
MayWantMemory (Err (Overlap a b)) = Unit {0}
MayWantMemory (Err TooLarge) = Unit {0}
MayWantMemory (Err e) = ⊥
