-- A section's name has no NUL, so its copy is the name.
use Rattle.std.proofs.Common.{◌≡◌, ◌≢◌, ◌==◌, ◌-◌, ◌++◌, ℕ, Bool, true, false, not, cond, List, [], ◌∷◌, drop, All, Option, Some, None, Result, Ok, Err, refl, sym, ap, ◌∙◌, subst}
use Rattle.std.specs.Prelude.{OnOk, if◌then◌else◌, get_or}
use Rattle.std.specs.List.{list_any, take_while}
use Rattle.std.proofs.lemmas.Bool.{both_ways, eq-eqb, or_from}
use Rattle.std.proofs.lemmas.List.Elements.{All-from_get_or}
use Rattle.std.proofs.lemmas.List.Folds.{list_any_at}
use Rattle.std.proofs.lemmas.List.Sums.{take_while-cons}
use Rattle.elf_types.specs.declared.errors.ElfError.{ElfError}
use Rattle.elf_types.specs.Answers.{answered}
use Rattle.strtab_shared.specs.strtab_build.Table.{string_at}
use Rattle.rebuild_numbers.specs.elf_object.Object.{Object, section_at}
use Rattle.rebuild_numbers.specs.elf_object.Blocks.{Block}
use Rattle.rebuild_numbers.specs.elf_object.Strings.{section_name, or_empty_name, readable, string_answer, string_refusal, string_in, piece_over}
use Rattle.rebuild_numbers.proofs.rebuild_select.NameLaws.{ok_injective}
use Rattle.rebuild_names.specs.Names.{without_nul, found_name}

-- ---- What is copied

pub copied_without_nul : {T : Type 0} (r : Result T ElfError) (old new name : List ℕ) → old ≡ []
    → list_any (λ b. b == 0) name ≡ false → OnOk r (new ≡ old ++ name)
    → OnOk r (new ≡ without_nul name)
copied_without_nul (Ok x) old new name none plain is =
    is
    ∙ ap (λ (l : List ℕ). l ++ name) none
    ∙ sym (ap (λ (b : Bool). if b then [] else name) plain)
copied_without_nul (Err e) old new name none plain is = tt

-- there is no NUL in it
all_plain : (l : List ℕ) → list_any (λ b. b == 0) l ≡ false → All (λ b. b ≢ 0) l
all_plain l none =
    All-from_get_or (λ b. b ≢ 0) l 0 (λ k below is.
    both_ways (list_any (λ b. b == 0) l) none
    (list_any_at (λ b. b == 0) l k 0 below (eq-eqb (get_or l k 0) 0 is)))

without_plain : (name : List ℕ) → list_any (λ b. b == 0) (without_nul name) ≡ false
without_plain name = by_test (list_any (λ b. b == 0) name) refl
  where
    by_test : (b : Bool) → list_any (λ b. b == 0) name ≡ b
        → list_any (λ b. b == 0) (if b then [] else name) ≡ false
    by_test true is = refl
    by_test false is = is

found_plain : (found : Option (List ℕ)) → list_any (λ b. b == 0) (found_name found) ≡ false
found_plain None = refl
found_plain (Some name) = without_plain name

pub plain_copied : {T : Type 0} (r : Result T ElfError) (new : List ℕ) (found : Option (List ℕ))
    → OnOk r (new ≡ found_name found) → OnOk r (All (λ b. b ≢ 0) new)
plain_copied (Ok x) new found is =
    subst (λ (l : List ℕ). All (λ b. b ≢ 0) l) (sym is)
    (all_plain (found_name found) (found_plain found))
plain_copied (Err e) new found is = tt

-- ---- A section's name

prefix_plain : (l : List ℕ)
    → list_any (λ b. b == 0) (take_while (λ b. not (b == 0)) l) ≡ false
prefix_plain [] = refl
prefix_plain (x ∷ l) =
    ap (λ (t : List ℕ). list_any (λ b. b == 0) t) (take_while-cons (λ b. not (b == 0)) x l)
    ∙ by_test (x == 0) refl (prefix_plain l)
  where
    by_test : (b : Bool) → (x == 0) ≡ b
        → list_any (λ b. b == 0) (take_while (λ b. not (b == 0)) l) ≡ false
        → list_any (λ b. b == 0) (cond (not b) (x ∷ take_while (λ b. not (b == 0)) l) []) ≡ false
    by_test true is later = refl
    by_test false is later =
        or_from (x == 0) (list_any (λ b. b == 0) (take_while (λ b. not (b == 0)) l)) is later

string_plain : (bytes : List ℕ) (place : ℕ)
    → list_any (λ b. b == 0) (string_at bytes place) ≡ false
unfolding string_at
string_plain bytes place = prefix_plain (drop place bytes)

is_plain : (name : List ℕ) → list_any (λ b. b == 0) name ≡ false → without_nul name ≡ name
is_plain name plain = ap (λ (b : Bool). if b then [] else name) plain

-- an answer that is plain where there is one
plain_found : (answer : Result (List ℕ) ElfError)
    → ((name : List ℕ) → answer ≡ Ok name → list_any (λ b. b == 0) name ≡ false)
    → found_name (readable answer) ≡ or_empty_name (readable answer)
plain_found (Ok name) plain = is_plain name (plain name refl)
plain_found (Err e) plain = refl

in_plain : (o : Object) (s offset : ℕ) → list_any (λ b. b == 0) (string_in o s offset) ≡ false
in_plain o s offset = by_piece (piece_over o s offset)
  where
    by_piece : (over : Option Block)
        → list_any (λ b. b == 0) (elim over [
          | None ↦ []
          | Some b ↦ string_at b.bytes (offset - b.at)
        ]) ≡ false
    by_piece None = refl
    by_piece (Some b) = string_plain b.bytes (offset - b.at)

answer_plain : (o : Object) (s offset : ℕ) (name : List ℕ) → string_answer o s offset ≡ Ok name
    → list_any (λ b. b == 0) name ≡ false
unfolding string_answer
answer_plain o s offset name is = by_refusal (string_refusal o s offset) is
  where
    by_refusal : (refusal : Option ElfError)
        → answered refusal (string_in o s offset) ≡ Ok name
        → list_any (λ b. b == 0) name ≡ false
    by_refusal None is =
        let same = ok_injective (string_in o s offset) name is in
        subst (λ (l : List ℕ). list_any (λ b. b == 0) l ≡ false) same (in_plain o s offset)
    by_refusal (Some e) is =
        let no : ◌≡◌ {A = Result (List ℕ) ElfError} (Err e) (Ok name) = is in absurd (cc)

pub name_plain : (o : Object) (s : ℕ)
    → found_name (section_name o s) ≡ or_empty_name (section_name o s)
unfolding section_name
name_plain o s = by_index (o.header.shstrndx == 0)
  where
    by_index : (b : Bool)
        → found_name (if b then None
        else readable (string_answer o o.header.shstrndx (section_at o s).header.name))
        ≡ or_empty_name (if b then None
        else readable (string_answer o o.header.shstrndx (section_at o s).header.name))
    by_index true = refl
    by_index false =
        plain_found (string_answer o o.header.shstrndx (section_at o s).header.name)
        (answer_plain o o.header.shstrndx (section_at o s).header.name)

-- the copy of a name that was found
pub told_copied : {T : Type 0} (r : Result T ElfError) (new : List ℕ) (o : Object) (s : ℕ)
    (found : Option (List ℕ)) → section_name o s ≡ found → OnOk r (new ≡ found_name found)
    → OnOk r (new ≡ or_empty_name (section_name o s))
told_copied (Ok x) new o s found same is =
    is ∙ ap found_name (sym same) ∙ name_plain o s
told_copied (Err e) new o s found same is = tt
