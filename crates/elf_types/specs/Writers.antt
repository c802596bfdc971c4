-- What a writer of text leaves behind what a list held.
use Rattle.std.specs.Prelude.{◌≡◌, ◌++◌, ℕ, List, Bool, Result, OnOk, IfErr, length, take, IsTrue}
use Rattle.std.specs.Str.{bytes_eq}
use Rattle.elf_types.specs.declared.errors.ElfError.{ElfError}
use Rattle.elf_types.specs.declared.errors.ElfError.TheVariants.{Memory}

-- whether a list begins with all of another
unfoldable pub begins_with : List ℕ → List ℕ → Bool
begins_with new old = bytes_eq (take (length old) new) old

-- the only refusal is want of memory; what the list held then still stands, with some bytes behind
-- it
abbrev pub WantsMemory : List ℕ → List ℕ → ElfError → Type 0
WantsMemory old new e = (e ≡ Memory) × IsTrue (begins_with new old)

-- an Ok put the text behind what the list held, and the only refusal is want of memory, after which
-- what the list held still stands. A writer that states this ends by `?` and `Ok(())`, and then its
-- attribute `using(elf_types::proofs::Writers::kept)` closes it.
abbrev pub Extends : {T : Type 0} → Result T ElfError → List ℕ → List ℕ → List ℕ → Type 0
Extends result old new text =
    OnOk result (new ≡ old ++ text) × IfErr result (WantsMemory old new)
