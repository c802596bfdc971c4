-- How many names of version entries stand in a row from each place of a section on (GNU's version
-- sections). Names to which many entries lead are so looked at once.
use Rattle.std.specs.Prelude.{◌≡◌, ℕ, zero, suc, ◌+◌, ◌==◌, Bool, true, false, List, slice_index_or, Option, Some, None, Result, Ok, Err}
use Rattle.elf_types.specs.declared.errors.ElfError.{ElfError}
use Rattle.elf_types.specs.declared.records.Order.{Order}
use Rattle.elf_lint_findings.specs.gelf_view.Versions.{verdaux_at, vernaux_at}

-- how far the next name is from one that is there
abbrev pub next_found : {A : Type 0} → (A → ℕ) → Result A ElfError → Option ℕ
next_found next (Ok x) = Some (next x)
next_found next (Err e) = None

-- from the name at a place of bytes: of a definition, and of needs
abbrev pub verdaux_next : Order → List ℕ → ℕ → Option ℕ
verdaux_next order bytes at = next_found (λ x. x.next) (verdaux_at order bytes at)

abbrev pub vernaux_next : Order → List ℕ → ℕ → Option ℕ
vernaux_next order bytes at = next_found (λ x. x.next) (vernaux_at order bytes at)

-- so many names stand in a row from a place on: one is there, and the others from where it says
-- that the next one is; after one that says it is the last there is none
unfoldable pub stand : (ℕ → Option ℕ) → ℕ → ℕ → Bool → Bool
stand next_at zero at last = true
stand next_at (suc n) at true = false
stand next_at (suc n) at false = elim (next_at at) [
  | None ↦ false
  | Some next ↦ stand next_at n (at + next) (next == 0)
]

-- as many as a list tells of each place; of others it tells none
abbrev pub IsReach : (ℕ → Option ℕ) → List ℕ → Type 0
IsReach next_at reach = (at : ℕ) → stand next_at (slice_index_or reach at 0) at false ≡ true
