-- A name that is added to a table, and its place.
use Rattle.std.proofs.Common.{◌≡◌, ◌≢◌, ◌⊎◌, ◌↔◌, ◌==◌, ◌-◌, ◌^◌, ◌<◌, ◌++◌, ℕ, zero, suc, Bool, true, false, List, [], ◌∷◌, length, All, Option, Some, None, Result, Ok, Err, refl, sym, ap, ◌∙◌, subst}
use Rattle.std.specs.Prelude.{IfOk, IfErr, slice_get, if◌then◌else◌}
use Rattle.std.specs.List.{list_all, list_any}
use Rattle.std.specs.Option.{option_map}
use Rattle.std.proofs.lemmas.Bool.{and_parts, not-true}
use Rattle.elf_types.specs.declared.errors.ElfError.{ElfError}
use Rattle.elf_types.specs.declared.errors.ElfError.TheVariants.{Memory, TooLarge}
use Rattle.strtab_build.specs.Table.{table, place_of, distinct}
use Rattle.rebuild_changes.specs.Names.{is_section_name}
use Rattle.rebuild_changes.specs.elf_object.Object.{Object}
use Rattle.rebuild_changes.specs.elf_object.Strings.{section_name, or_empty_name}
use Rattle.rebuild_names.specs.declared.known.KnownPlaces.{KnownPlaces}
use Rattle.rebuild_names.specs.Known.{NotesName}
use Rattle.rebuild_names.specs.Names.{is_too_large_error, IsAddedAt}
use Rattle.rebuild_names.proofs.AddLaws.{fits_ok, err_added, err_memory, added_at}
use Rattle.rebuild_names.proofs.CopyLaws.{plain_copied}
use Rattle.rebuild_changes.specs.declared.changes.NameBytes.{NameBytes}
use Rattle.rebuild_edits.specs.Edits.Names.{mark_of, new_name, name_over, name_now}

-- ---- One name

-- a place was told, and appended
pub text_placed : (old new : List (List ℕ)) (name places more : List ℕ) (place : ℕ)
    (r : Result Bool ElfError) → new ≡ distinct (old ++ name ∷ []) → place ≡ place_of name new
    → (◌≡◌ {A = Result ℕ ElfError} (Ok place) (Err TooLarge)
    ↔ (2 ^ 32 - 1 < length (table (old ++ name ∷ []))))
    → IfOk r (λ fits. (fits ≡ true) × (more ≡ places ++ place ∷ []))
    → IfOk r (λ fits. IsAddedAt old new places more name fits)
text_placed old new name places more place r names at says pushed =
    added_at old new name places more (Some place) r
    (names, at, fits_ok place (length (table (old ++ name ∷ []))) says) pushed

-- none was, since the table would be too large
pub text_refused : (e : ElfError) (old new : List (List ℕ)) (name places more : List ℕ)
    (r : Result Bool ElfError)
    → (◌≡◌ {A = Result ℕ ElfError} (Err e) (Err TooLarge)
    ↔ (2 ^ 32 - 1 < length (table (old ++ name ∷ []))))
    → IfOk r (λ fits. (fits ≡ false) × (is_too_large_error e ≡ true))
    → IfOk r (λ fits. IsAddedAt old new places more name fits)
text_refused e old new name places more (Err d) says is = tt
text_refused e old new name places more (Ok fits) says is =
    subst (λ (b : Bool). IsAddedAt old new places more name b) (sym is.0)
    (err_added e (Ok None) old new name says (refl, is.1))

pub text_memory : (e : ElfError) (r : Result Bool ElfError) → (e ≡ TooLarge) ⊎ (e ≡ Memory)
    → IfErr r (λ other. (other ≡ e) × (is_too_large_error e ≡ false)) → IfErr r (λ d. d ≡ Memory)
text_memory e (Ok fits) refusals is = tt
text_memory e (Err d) refusals is = err_memory e (Err d) refusals is

-- and none is noted
pub text_unnoted : (e : ElfError) (r : Result Bool ElfError) (at : ℕ) (name : List ℕ)
    (names : List (List ℕ)) (known next : KnownPlaces)
    → IfOk r (λ fits. (fits ≡ false) × (is_too_large_error e ≡ true))
    → IfOk r (NotesName at name names known next)
text_unnoted e (Err d) at name names known next is = tt
text_unnoted e (Ok fits) at name names known next is = λ yes.
    absurd (let no : false ≡ true = sym is.0 ∙ yes in cc)

-- ---- Names without NUL

pub plain_bytes : (name : List ℕ) → list_any (λ b. b == 0) name ≡ false
    → All (λ b. b ≢ 0) name
plain_bytes name none =
    plain_copied {T = Unit {0}} (Ok tt) name (Some name)
    (sym (ap (λ (b : Bool). if b then [] else name) none))

plain_name : (name : List ℕ) → is_section_name name ≡ true → All (λ b. b ≢ 0) name
unfolding is_section_name
plain_name name is = plain_bytes name (not-true (list_any (λ c. c == 0) name) is)

all_get : {X : Type 0} (p : X → Bool) (l : List X) (i : ℕ) (x : X) → list_all p l ≡ true
    → slice_get l i ≡ Some x → p x ≡ true
all_get p [] i x all is = cc
all_get p (y ∷ l) zero x all is =
    let same : y ≡ x = cc in
    ap p (sym same) ∙ (and_parts (p y) (list_all p l) all).0
all_get p (y ∷ l) (suc i) x all is =
    all_get p l i x (and_parts (p y) (list_all p l) all).1 is

-- the new name of a section
pub plain_new : (renames : List NameBytes) (mark : ℕ) (name : List ℕ)
    → list_all (λ n. is_section_name n.bytes) renames ≡ true
    → Some name ≡ new_name renames mark → All (λ b. b ≢ 0) name
plain_new renames mark name all is = by_test (mark == 0) is
  where
    by_found : (found : Option NameBytes) → slice_get renames (mark - 1) ≡ found
        → Some name ≡ option_map (λ (n : NameBytes). n.bytes) found → All (λ b. b ≢ 0) name
    by_found None at same = cc
    by_found (Some change) at same =
        let one : name ≡ change.bytes = cc in
        plain_name name
        (ap is_section_name one
        ∙ all_get (λ (n : NameBytes). is_section_name n.bytes) renames (mark - 1) change all at)

    by_test : (b : Bool)
        → Some name ≡ (if b then None
        else option_map (λ (n : NameBytes). n.bytes) (slice_get renames (mark - 1)))
        → All (λ b. b ≢ 0) name
    by_test true same = cc
    by_test false same = by_found (slice_get renames (mark - 1)) refl same

pub plain_added : (adds : List NameBytes) (i : ℕ) (change : NameBytes)
    → list_all (λ n. is_section_name n.name) adds ≡ true → slice_get adds i ≡ Some change
    → All (λ b. b ≢ 0) change.name
plain_added adds i change all is =
    plain_name change.name
    (all_get (λ (n : NameBytes). is_section_name n.name) adds i change all is)

-- ---- The name of a section

module _ (o : Object) (marks : List ℕ) (renames : List NameBytes) (s : ℕ) where
  pub name_new : (name : List ℕ) → Some name ≡ new_name renames (mark_of marks s)
      → name ≡ or_empty_name (name_now o marks renames s)
  unfolding name_now
  name_new name is =
      ap (λ (n : Option (List ℕ)). or_empty_name (name_over n (section_name o s))) is

  pub name_stored : None ≡ new_name renames (mark_of marks s)
      → or_empty_name (section_name o s) ≡ or_empty_name (name_now o marks renames s)
  unfolding name_now
  name_stored is =
      ap (λ (n : Option (List ℕ)). or_empty_name (name_over n (section_name o s))) is
