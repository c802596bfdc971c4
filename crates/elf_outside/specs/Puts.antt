-- What a call that is generic over a sink does to it, as Asks says of one over a source.
use Rattle.std.specs.Prelude.{◌≡◌, ◌≤◌, ℕ, List, Result, Err, OnOk, OnErr}
use Rattle.elf_types.specs.declared.errors.ElfError.{ElfError}
use Rattle.elf_types.specs.declared.errors.ElfError.TheVariants.{Write}
use Rattle.elf_outside.specs.Counts.{Rose}
use Rattle.elf_outside.specs.Writes.{Appends, AppendsFront}
use Rattle.elf_outside.specs.declared.sinks.Sink.{Ghosts}

-- the call answers Write only where the count of failed writes rose in it
abbrev pub WriteRose : {T : Type 0} → Result T ElfError → ℕ → ℕ → Type 0
WriteRose (Err Write) before now = Rose before now
WriteRose _ before now = Unit {0}

-- a call that writes to a sink, whatever it writes: what it leaves, and how its faults show
pub record UsesSink {K T : Type 0} (g : Ghosts K)
    (result : Result T ElfError) (old new : K) : Type 0 where
  pub rest : g.rest new ≡ g.rest old
  pub later : g.faults old ≤ g.faults new
  pub write : WriteRose result (g.faults old) (g.faults new)

-- a call that puts a text to a sink: besides, an Ok appended all of it, and a refusal a front of it
pub record Puts {K T : Type 0} (g : Ghosts K)
    (result : Result T ElfError) (old new : K) (text : List ℕ) : Type 0 where
  pub uses : UsesSink g result old new
  pub ok : OnOk result (Appends (g.wrote old) (g.wrote new) text)
  pub err : OnErr result (AppendsFront (g.wrote old) (g.wrote new) text)
