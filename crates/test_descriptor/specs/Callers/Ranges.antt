-- What a caller makes sure of for each home before it writes over the base.
use Rattle.std.specs.Prelude.{◌≡◌, ℕ, ◌+◌, ◌<◌, true}
use Rattle.elf_object.specs.Blocks.{extents_meet}
use Rattle.elf_object.specs.Object.{section_at}
use Rattle.elf_descriptor.specs.Cuts.{LiesInBase, IsKeptApart}
use Rattle.elf_descriptor.specs.State.{State}

-- where the home of a section shares a place with a range, it is kept apart
abbrev pub StaysOver : {S : Type 0} → State S → ℕ → ℕ → ℕ → Type 0
StaysOver state at n s =
    LiesInBase state.o s
    → extents_meet (section_at state.o s).home.at (section_at state.o s).home.len at n ≡ true
    → IsKeptApart state s

-- where it passes a length, it is
abbrev pub StaysWithin : {S : Type 0} → State S → ℕ → ℕ → Type 0
StaysWithin state n s =
    LiesInBase state.o s → 0 < (section_at state.o s).home.len
    → n < (section_at state.o s).home.at + (section_at state.o s).home.len
    → IsKeptApart state s
