-- What a walk over a plan puts over a device: the parts that change, and the fill between the
-- parts.
use Rattle.std.specs.Prelude.{◌≡◌, ◌⊎◌, ◌==◌, ℕ, ◌<◌, ◌^◌, ◌≤◌, min, if◌then◌else◌, Bool, true, IsTrue, List, [], ◌∷◌, ◌++◌, length, Some, is_some, sum_by, Result, OnOk, OnErr, IfErr}
use Rattle.std.specs.List.{AllByRecursion}
use Rattle.elf_types.specs.declared.errors.ElfError.{ElfError}
use Rattle.elf_types.specs.declared.errors.ElfError.TheVariants.{Write}
use Rattle.elf_types.specs.declared.records.Part.{Part}
use Rattle.elf_layout.specs.declared.parts.PartAt.{PartAt}
use Rattle.elf_outside.specs.declared.sources.Source.{Ghosts as SourceGhosts}
use Rattle.elf_outside.specs.declared.devices.Device.{Ghosts as DeviceGhosts}
use Rattle.elf_outside.specs.Torn.{IsTorn}
use Rattle.elf_outside.specs.Patches.{UsesDevice}
use Rattle.elf_update_to.specs.elf_object.Blocks.{Block, block_end}
use Rattle.elf_update_to.specs.law_object.Writing.Lines.{HoldsBlock, IsUnderWay}
use Rattle.elf_update_to.specs.elf_descriptor.State.{State}
use Rattle.elf_update_to.specs.elf_descriptor.Cuts.{MayWrite}
use Rattle.elf_update_to.specs.elf_descriptor.Fronts.{HoldsBase}
use Rattle.elf_update_to.specs.Pieces.{block_at}
use Rattle.elf_update_in_place.specs.Moves.Written.{written_between}
use Rattle.elf_update_in_place.specs.Writes.Overwrites.{ChangesBase, NeedsNoRead}

-- ---- What is put

-- parts, each with whether it changes
unfoldable pub rows_of : ℕ → (Part → List (ℕ × List ℕ)) → List PartAt → List Bool
    → List (Bool × Block)
rows_of fill pieces [] flags = []
rows_of fill pieces (p ∷ ps) [] = []
rows_of fill pieces (p ∷ ps) (c ∷ cs) = (c, block_at fill pieces p) ∷ rows_of fill pieces ps cs

-- the blocks that are put from a place to an end
abbrev pub put_blocks : ℕ → ℕ → ℕ → (Part → List (ℕ × List ℕ)) → List PartAt → List Bool
    → List Block
put_blocks kept fill end pieces plan flags =
    written_between kept fill end 0 (rows_of fill pieces plan flags)

-- where the fill of a gap with that end need be put up to: zeros up to the old end of the device
abbrev pub put_end : ℕ → ℕ → ℕ → ℕ
put_end fill old_end end = if fill == 0 then min end old_end else end

-- ---- What it rests on

-- a block lies in the device, and no home that shares a place with it rests on the base
pub record MayPut {D : Type 0} (s : SourceGhosts D) (state : State D) (b : Block) : Type 0 where
  pub within : block_end b ≤ s.size state.source
  pub small : block_end b < 2 ^ 64
  pub may : MayWrite state b.at (length b.bytes)

-- each block does, the object is ready, and the device begins with the base
pub record MayPutAll {D : Type 0} (s : SourceGhosts D) (state : State D) (line : List Block)
    : Type 0 where
  pub ready : IsTrue state.ready
  pub base : HoldsBase s state
  pub blocks : AllByRecursion (MayPut s state) line

-- the parts that change are at hand
abbrev pub NeedNoRead : {S : Type 0} → State S → List PartAt → List Bool → Type 0
NeedNoRead state [] flags = Unit {0}
NeedNoRead state (p ∷ ps) [] = Unit {0}
NeedNoRead state (p ∷ ps) (c ∷ cs) =
    (c ≡ true → NeedsNoRead state p.part) × NeedNoRead state ps cs

-- ---- What it leaves

-- Where the device is written with blocks of an image, of which these are next, and what it held
-- before ended by a place, they stand there afterwards; after a refusal each byte is the old one or
-- that of the image. Nothing is read.
pub record PutsAll {D T : Type 0} (s : SourceGhosts D) (d : DeviceGhosts D) (old_end : ℕ)
    (result : Result T ElfError) (old new : State D) (line : List Block) : Type 0 where
  pub change : ChangesBase s old new
  pub size : s.size new.source ≡ s.size old.source
  pub told : is_some (s.holds new.source) ≡ is_some (s.holds old.source)
  pub uses : UsesDevice s d result old.source new.source 0 (sum_by (λ b. length b.bytes) line)
  pub err : IfErr result (λ e. e ≡ Write)
  pub way : (before image held : List ℕ) (blocks rest : List Block)
      → s.holds old.source ≡ Some held → AllByRecursion (HoldsBlock image) line
      → length before ≤ old_end
      → (s.size old.source ≡ length before) ⊎ (s.size old.source ≡ length image)
      → IsUnderWay before image held (s.size old.source) blocks (line ++ rest)
      → (after : List ℕ) × (s.holds new.source ≡ Some after)
      × OnOk result (IsUnderWay before image after (s.size old.source) blocks rest)
      × OnErr result (IsTorn before image after)
