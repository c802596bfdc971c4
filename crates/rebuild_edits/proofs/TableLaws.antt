-- The new table, and what becomes of the names.
use Rattle.std.proofs.Common.{◌≡◌, ◌-◌, ◌^◌, ◌≤◌, ℕ, Bool, true, List, ◌∷◌, length, map, take, take_all, Result, Ok, Err, ap, ◌∙◌, subst}
use Rattle.std.specs.Prelude.{IfOk}
use Rattle.std.proofs.lemmas.Bool.{le-ltb}
use Rattle.elf_types.specs.declared.errors.ElfError.{ElfError}
use Rattle.elf_types.specs.declared.errors.ElfError.TheVariants as errors
use Rattle.elf_types.specs.Answers.{refused_if}
use Rattle.strtab_build.specs.Table.{table, place_of}
use Rattle.strtab_build.proofs.TableLemmas.{table-distinct}
use Rattle.rebuild_changes.specs.rebuild_model.Rebuilt.{table_refusal}
use Rattle.rebuild_edits.specs.declared.naming.Naming.{Naming}
use Rattle.rebuild_edits.specs.declared.naming.Naming.TheVariants.{Stay, NoTable, TooLarge, Anew}
use Rattle.rebuild_edits.specs.Texts.{AreTextsAdded, IsTableOf}
use Rattle.rebuild_edits.specs.Stores.{IsNaming, IsBuilt}

module _ (texts strings : List (List ℕ)) (places : List ℕ) where
  -- all were added
  pub table_finished : (bytes : List ℕ) (n : ℕ) → length texts ≤ n
      → AreTextsAdded texts strings places n → bytes ≡ table strings
      → IsTableOf texts (record { table = bytes; places = places })
  unfolding table_refusal
  table_finished bytes n all are is =
      let whole = take_all n texts all in
      record {
        passed = ap (λ (b : Bool). refused_if b errors.TooLarge)
            (le-ltb (2 ^ 32 - 1) (length (table texts))
            (subst (λ (l : List (List ℕ)). length (table l) ≤ 2 ^ 32 - 1) whole are.fits));
        table_is = is ∙ ap table are.strings_are ∙ table-distinct (take n texts)
            ∙ ap table whole;
        places_are = are.places_are
            ∙ ap (λ (l : List (List ℕ)). 0 ∷ map (λ text. place_of text texts) l) whole;
      }

-- what was built is what becomes of the names, where they change and have a table of their own
pub built_naming : (texts : List (List ℕ)) (change renewed : Bool) (r : Result Naming ElfError)
    → change ≡ true → renewed ≡ true → IfOk r (IsBuilt texts)
    → IfOk r (IsNaming change renewed texts)
built_naming texts change renewed (Ok Stay) renames own built = absurd built
built_naming texts change renewed (Ok NoTable) renames own built = absurd built
built_naming texts change renewed (Ok TooLarge) renames own built = (renames, own, built)
built_naming texts change renewed (Ok (Anew names)) renames own built = (renames, own, built)
built_naming texts change renewed (Err e) renames own built = tt
