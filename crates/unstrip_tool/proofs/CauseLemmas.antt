-- What a step over files leaves, by another cause of its failed reads; and counts of failed reads.
use Rattle.std.proofs.Common.{◌≡◌, ◌⊎◌, inl, inr, ◌+◌, ◌<◌, ℕ, Bool, Result, Ok, Err, arith}
use Rattle.std.proofs.lemmas.Bool.{cases_lt}
use Rattle.elf_outside.specs.Counts.{Rose}
use Rattle.elf_outside.specs.declared.sinks.Sink.{Ghosts as SinkGhosts}
use Rattle.elf_outside.specs.declared.file_sets.Files.{Ghosts as FilesGhosts}
use Rattle.tool_output.specs.declared.stops.Stop.{Stop}
use Rattle.tool_output.specs.declared.stops.Stop.TheVariants.{Read, Write, Memory}
use Rattle.tool_output.specs.declared.outputs.Outputs.{Outputs}
use Rattle.tool_output.specs.Files.{LeavesFilesBy}

-- a cause in place of another
pub leaves_by : {F D O E : Type 0} (f : FilesGhosts F D) (o : SinkGhosts O) (e : SinkGhosts E)
    (P Q : Type 0) (r : Result Bool Stop) (a b : F) (s t : Outputs O E) → (P → Q)
    → LeavesFilesBy f o e P r a b s t → LeavesFilesBy f o e Q r a b s t
leaves_by f o e P Q (Ok x) a b s t why l =
    record { totals = l.totals; keeps = l.keeps; read = tt; write = tt }
leaves_by f o e P Q (Err Read) a b s t why l =
    record { totals = l.totals; keeps = l.keeps; read = why l.read; write = tt }
leaves_by f o e P Q (Err Write) a b s t why l =
    record { totals = l.totals; keeps = l.keeps; read = tt; write = l.write }
leaves_by f o e P Q (Err Memory) a b s t why l =
    record { totals = l.totals; keeps = l.keeps; read = tt; write = tt }

-- a count that rose is none that never did
pub rose_some : (before now : ℕ) → Rose before now → 0 < now
rose_some before now rose = omega (arith, rose)

-- where a sum of two counts rose, one of them is none that never did
pub one_rose : (before now m n : ℕ) → now ≡ m + n → Rose before now → (0 < m) ⊎ (0 < n)
one_rose before now m n is rose =
    elim (cases_lt 0 m) [
      | inl some ↦ inl some
      | inr none ↦ inr (omega (arith, is, rose, none))
    ]
