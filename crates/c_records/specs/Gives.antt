-- What a call gives to C: a number, which is 0 where it is not refused, and a value in C's memory,
-- which stays as it was where it is refused.
use Rattle.std.specs.Prelude.{◌≡◌, ◌⊎◌, ℕ, IsTrue, Result, Ok, Err}
use Rattle.elf_types.specs.declared.errors.ElfError.{ElfError}
use Rattle.elf_types.specs.declared.errors.ElfError.TheVariants.{Memory}
use Rattle.elf_object.specs.Words.{Wants}
use Rattle.c_records.specs.Codes.{code}

-- exactly what is stated, in the form that C has
abbrev pub GivesInCForm : {A C : Type 0} → (A → C) → Result A ElfError → ℕ → C → C → Type 0
GivesInCForm form (Ok x) number old new = (number ≡ 0) × (new ≡ form x)
GivesInCForm form (Err e) number old new = (number ≡ code e) × (new ≡ old)

-- the same of a call that may take memory: that, or want of memory, and then nothing is given
unfoldable pub GivesRead : {A C : Type 0} → (A → C) → Wants → Result A ElfError → ℕ → C → C → Type 0
GivesRead form wants stated number old new =
    GivesInCForm form stated number old new
    ⊎ (IsTrue wants.memory × (number ≡ code Memory) × (new ≡ old))
