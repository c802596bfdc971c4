-- What a call that is generic over a source does to it.
use Rattle.std.specs.Prelude.{ℕ, Result, Err, ◌≤◌}
use Rattle.elf_types.specs.declared.errors.ElfError.{ElfError}
use Rattle.elf_types.specs.declared.errors.ElfError.TheVariants.{Read, Write}
use Rattle.elf_outside.specs.Counts.{Rose, RaisedAtMost}
use Rattle.elf_outside.specs.Leaves.{LeavesBy}
use Rattle.elf_outside.specs.declared.sources.Source.{Ghosts}

-- a generic call leaves the length, the bytes and the rest of a source that it is handed
abbrev pub Leaves : {S : Type 0} → Ghosts S → S → S → Type 0
Leaves g old new = LeavesBy g.size g.holds g.rest old new

-- the call answers Read only where the source's count of faults rose in it; a call that reads never
-- answers Write
abbrev pub ReadRose : {T : Type 0} → Result T ElfError → ℕ → ℕ → Type 0
ReadRose (Err Read) before now = Rose before now
ReadRose (Err Write) before now = ⊥
ReadRose _ before now = Unit {0}

-- the same of a call that may write besides, and then answer Write
abbrev pub DeviceReadRose : {T : Type 0} → Result T ElfError → ℕ → ℕ → Type 0
DeviceReadRose (Err Read) before now = Rose before now
DeviceReadRose _ before now = Unit {0}

-- a call that reads: what it leaves, how its faults show, and that it asks for at most n bytes
pub record Asks {S T : Type 0} (g : Ghosts S)
    (result : Result T ElfError) (old new : S) (n : ℕ) : Type 0 where
  pub leaves : Leaves g old new
  pub later : g.faults old ≤ g.faults new
  pub read : ReadRose result (g.faults old) (g.faults new)
  pub taken : RaisedAtMost (g.taken old) (g.taken new) n

-- a call that reads a source and puts to a sink, as Asks says of one that only reads
pub record UsesSource {S T : Type 0} (g : Ghosts S)
    (result : Result T ElfError) (old new : S) (n : ℕ) : Type 0 where
  pub leaves : Leaves g old new
  pub later : g.faults old ≤ g.faults new
  pub read : DeviceReadRose result (g.faults old) (g.faults new)
  pub taken : RaisedAtMost (g.taken old) (g.taken new) n
