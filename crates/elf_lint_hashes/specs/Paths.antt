-- What is known of the chains of a hash section of type SHT_HASH, by their symbols.
use Rattle.std.specs.Prelude.{◌≡◌, ◌⊎◌, ℕ, ◌<◌, ◌≤◌, ◌==◌, ◌||◌, not, Bool, true, List, slice_index_or, Option}
use Rattle.hash_model.specs.HashSections.{sysv_chain, is_on, ends}
use Rattle.elf_lint_hashes.specs.declared.sysv.SysvTable.{SysvTable}
use Rattle.elf_lint_hashes.specs.declared.paths.Paths.{Paths}
use Rattle.elf_lint_hashes.specs.Sysv.{sysv_section_of}

-- the chain from a symbol on, or none where it has no end within as many steps as there are chain
-- words, or leaves the table
abbrev pub chain_from : List ℕ → SysvTable → ℕ → Option (List ℕ)
chain_from words t at = sysv_chain (sysv_section_of t words).chains t.nchain at

-- a chain is known to end from a symbol on
abbrev pub is_known : Paths → ℕ → Bool
is_known p at = at == 0 || not (slice_index_or p.steps at 0 == 0)

pub record ArePaths (words : List ℕ) (t : SysvTable) (p : Paths) : Type 0 where
  -- the chain from a symbol on ends within its steps, where they are known
  pub ended : (at : ℕ) → 0 < slice_index_or p.steps at 0
      → ends (sysv_chain (sysv_section_of t words).chains (slice_index_or p.steps at 0) at) ≡ true
  pub within : (at : ℕ) → slice_index_or p.steps at 0 ≤ t.nchain
  -- and what is on the chain from that on to which it leaps is on it
  pub leads : (at i : ℕ) → is_on i (chain_from words t (slice_index_or p.leaps at 0)) ≡ true
      → is_on i (chain_from words t at) ≡ true

-- a symbol is the next one, or that to which two leaps from there lead
abbrev pub IsLeapTarget : Paths → ℕ → ℕ → Type 0
IsLeapTarget p next leap =
    (leap ≡ next) ⊎ (leap ≡ slice_index_or p.leaps (slice_index_or p.leaps next 0) 0)
