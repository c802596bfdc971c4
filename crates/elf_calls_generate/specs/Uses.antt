-- Names that are used one after another, of a string table in the making.
use Rattle.std.specs.Prelude.{◌≡◌, ◌<◌, ◌^◌, ℕ, List, [], ◌∷◌, ◌++◌, length, Result, OnOk, IfOk, IfErr}
use Rattle.elf_types.specs.declared.errors.ElfError.{ElfError}
use Rattle.elf_types.specs.declared.errors.ElfError.TheVariants.{Memory}
use Rattle.strtab_build.specs.Table.{distinct, table, place_of}

-- A name is used after others, and more may follow. It has the place that it has in the table of
-- them all. Where that table is small enough, only memory may be wanting.
pub record UsesName (name : List ℕ) (result : Result ℕ ElfError) (old new : List (List ℕ))
    : Type 0 where
  pub next : (used : List (List ℕ)) → old ≡ distinct used
      → OnOk result (new ≡ distinct (used ++ name ∷ []))
  pub place : (used more : List (List ℕ)) → old ≡ distinct used
      → IfOk result (λ offset. offset ≡ place_of name ((used ++ name ∷ []) ++ more))
  pub wants : (used more : List (List ℕ)) → old ≡ distinct used
      → length (table ((used ++ name ∷ []) ++ more)) < 2 ^ 32
      → IfErr result (λ e. e ≡ Memory)
