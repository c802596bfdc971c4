-- The number of a refusal of what begins.
use Rattle.std.proofs.Common.{◌≡◌, ◌⊎◌, inl, inr, ℕ, Result, Ok, Err, ap, ◌∙◌}
use Rattle.elf_types.specs.declared.errors.ElfError.{ElfError}
use Rattle.elf_types.specs.declared.errors.ElfError.TheVariants.{Memory}
use Rattle.c_records.specs.Codes.{code}
use Rattle.elfkit_c.specs.Handles.{IsRefusalNumber}

pub refused : {A : Type 0} (stated : Result A ElfError) (e : ElfError) (number : ℕ)
    → number ≡ code e → (e ≡ Memory) ⊎ (stated ≡ Err e) → IsRefusalNumber stated number
refused (Ok x) e number is (inl memory) = is ∙ ap code memory
refused (Ok x) e number is (inr same) = cc
refused (Err d) e number is (inl memory) = inl (is ∙ ap code memory)
refused (Err d) e number is (inr same) = inr (let equal : e ≡ d = cc in is ∙ ap code equal)
