-- What is removed of an object, as it is answered.
use Rattle.std.proofs.Common.{◌≡◌, ℕ, Bool, List, Result, Ok, Err, sym}
use Rattle.std.specs.Prelude.{IsTrue}
use Rattle.elf_types.specs.declared.errors.ElfError.{ElfError}
use Rattle.elf_types.specs.declared.errors.ElfError.TheVariants.{Memory, Read}
use Rattle.law_rebuild.specs.elf_object.Object.{Object}
use Rattle.law_rebuild.specs.elf_object.Words.{Wants, Answers}
use Rattle.law_rebuild.specs.rebuild_model.Removed.{removed_sections}
use Rattle.rebuild_tables.specs.rebuild_select.Calls as calls

module _ (debug_only : Bool) (names : List (List ℕ)) (wants : Wants) (told : Bool) (o : Object)
  where
    pub set_is : (set : List ℕ)
        → Answers told wants (Ok set) ((calls.removed debug_only names).answer o)
        → IsTrue told → set ≡ removed_sections debug_only names o
    set_is set came tells =
        let same : ◌≡◌ {A = Result (List ℕ) ElfError}
        (Ok (removed_sections debug_only names o)) (Ok set) = came.1 tells in
        let is : removed_sections debug_only names o ≡ set = cc in sym is

    -- only memory and reads can fail
    pub never_refused : (P : ElfError → Type 0) (e : ElfError)
        → Answers {A = List ℕ} told wants (Err e) ((calls.removed debug_only names).answer o)
        → P Memory → P Read → P e
    never_refused P Memory came memory read = memory
    never_refused P Read came memory read = read
    never_refused P e came memory read =
        let clash : ◌≡◌ {A = Result (List ℕ) ElfError}
        (Ok (removed_sections debug_only names o)) (Err e) = came in cc
