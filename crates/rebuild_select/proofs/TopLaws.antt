-- The whole of what strip and copy remove.
use Rattle.std.proofs.Common.{◌≡◌, ◌||◌, ℕ, Bool, true, false, not, List, [], Result, Ok, Err, refl, sym, ap, ◌∙◌, subst}
use Rattle.std.specs.Prelude.{IsTrue, IfOk, IfErr, if◌then◌else◌}
use Rattle.elf_types.specs.declared.errors.ElfError.{ElfError}
use Rattle.elf_types.specs.declared.errors.ElfError.TheVariants.{Memory}
use Rattle.rebuild_model.specs.elf_object.Object.{Object}
use Rattle.rebuild_model.specs.elf_object.Words.{Answers}
use Rattle.gelf_view.specs.elf_descriptor.State.{State}
use Rattle.gelf_view.specs.elf_descriptor.Reads.{wanted}
use Rattle.rebuild_model.specs.Removed.{with_found, with_followers, relocates_removed, is_unneeded_symtab, indexes_removed, has_removed_users, is_named, is_debug_data, removed_sections, removed_by_name}
use Rattle.rebuild_select.specs.Steps.{goes_by_name, IsRemovable}
use Rattle.rebuild_select.specs.Calls.{MayEndReadingNames, numbers_call}
use Rattle.rebuild_select.proofs.SetLaws.{or_false_right}
use Rattle.rebuild_select.proofs.StepLaws.{found_same, found_removable}
use Rattle.rebuild_select.proofs.NameLaws.{numbers_answer}

-- ---- The names

strip_names : (o : Object) (names : List (List ℕ))
    → with_found o (λ before. goes_by_name true names o) []
    ≡ with_found o (λ before s. is_named names o s || is_debug_data o s) []
unfolding goes_by_name
strip_names o names = refl

copy_name : (names : List (List ℕ)) (o : Object) (s : ℕ)
    → goes_by_name false names o s ≡ is_named names o s
unfolding goes_by_name
copy_name names o s = or_false_right (is_named names o s)

copy_names : (o : Object) (names : List (List ℕ))
    → with_found o (λ before. goes_by_name false names o) []
    ≡ with_found o (λ before s. is_named names o s) []
copy_names o names =
    found_same o (goes_by_name false names o) (is_named names o) []
    (λ s below. copy_name names o s)

-- ---- The steps

pub followers_are : (o : Object) (symbols_too : Bool) (removed relocations tables indexes : List ℕ)
    → relocations ≡ with_found o (relocates_removed o) removed
    → tables ≡ (if symbols_too then with_found o (is_unneeded_symtab o) relocations
    else relocations)
    → indexes ≡ with_found o (indexes_removed o) tables
    → with_found o (has_removed_users o) indexes ≡ with_followers o symbols_too removed
unfolding with_followers
followers_are o symbols_too removed relocations tables indexes one two three =
    let found = with_found o (has_removed_users o) in
    let indexed = with_found o (indexes_removed o) in
    ap found three
    ∙ ap (λ (l : List ℕ). found (indexed l)) two
    ∙ ap (λ (l : List ℕ). found (indexed
    (if symbols_too then with_found o (is_unneeded_symtab o) l else l))) one

followers_removable : (o : Object) (symbols_too : Bool) (removed : List ℕ)
    → IsRemovable o (with_followers o symbols_too removed)
unfolding with_followers
followers_removable o symbols_too removed = found_removable o (has_removed_users o) _

pub are_removable : (o : Object) (symbols_too : Bool) (removed : List ℕ)
    (r : Result (List ℕ) ElfError)
    → IfOk r (λ set. set ≡ with_followers o symbols_too removed) → IfOk r (IsRemovable o)
are_removable o symbols_too removed (Ok set) is =
    subst (λ (l : List ℕ). IsRemovable o l) (sym is) (followers_removable o symbols_too removed)
are_removable o symbols_too removed (Err e) is = tt

-- ---- The answers

memory_ends : {S T : Type 0} (s : State S) (r : Result T ElfError) → IfErr r (λ e. e ≡ Memory)
    → IfErr r (MayEndReadingNames s)
memory_ends s (Ok x) is = tt
memory_ends s (Err e) is = subst (λ (e : ElfError). MayEndReadingNames s e) (sym is) tt

value_is : (r : Result (List ℕ) ElfError) (stated x : List ℕ) → IfOk r (λ set. set ≡ stated)
    → r ≡ Ok x → x ≡ stated
value_is (Ok y) stated x is same = let one : y ≡ x = cc in sym one ∙ is
value_is (Err e) stated x is same = cc

module _ {S : Type 0} (old : State S) (names : List (List ℕ)) (found : List ℕ)
    (r : Result (List ℕ) ElfError) (err : IfErr r (λ e. e ≡ Memory)) where
  pub strip_answers : (debug_only : Bool)
      → (IsTrue old.told → found ≡ with_found old.o (λ before. goes_by_name true names old.o) [])
      → IfOk r (λ set. set ≡ with_followers old.o (not debug_only) found)
      → Answers old.told (wanted (numbers_call (removed_sections debug_only names)) old) r
      (Ok (removed_sections debug_only names old.o))
  unfolding removed_sections
  strip_answers debug_only told is =
      numbers_answer (removed_sections debug_only names) old r (memory_ends old r err)
      (λ tells x same. value_is r _ x is same
      ∙ ap (with_followers old.o (not debug_only)) (told tells ∙ strip_names old.o names))

  pub copy_answers :
      (IsTrue old.told → found ≡ with_found old.o (λ before. goes_by_name false names old.o) [])
      → IfOk r (λ set. set ≡ with_followers old.o false found)
      → Answers old.told (wanted (numbers_call (removed_by_name names)) old) r
      (Ok (removed_by_name names old.o))
  unfolding removed_by_name
  copy_answers told is =
      numbers_answer (removed_by_name names) old r (memory_ends old r err)
      (λ tells x same. value_is r _ x is same
      ∙ ap (with_followers old.o false) (told tells ∙ copy_names old.o names))
