-- A name that is used behind others has its place, and the table of all is the larger one.
use Rattle.std.proofs.Common.{◌≡◌, ◌≢◌, ◌⊎◌, inl, inr, ◌+◌, ◌-◌, ◌^◌, ◌<◌, ◌≤◌, ◌||◌, ◌==◌, ℕ, Bool, true, false, List, [], ◌∷◌, ◌++◌, length, length-append, All, Result, Ok, Err, OnOk, IfOk, IfErr, sym, ap, ◌∙◌, subst, arith}
use Rattle.std.specs.Prelude.{IsErrOf, ◌↔◌, not}
use Rattle.std.specs.List.{list_any, list_all}
use Rattle.std.specs.Str.{bytes_eq}
use Rattle.std.proofs.lemmas.Bool.{or_right}
use Rattle.std.proofs.lemmas.List.Concat.{flat_map-append}
use Rattle.std.proofs.lemmas.List.Elements.{All-weaker}
use Rattle.std.proofs.lemmas.List.Folds.{list_any-append}
use Rattle.std.proofs.lemmas.List.Sums.{AllPass-from_list_all}
use Rattle.elf_types.specs.declared.errors.ElfError.{ElfError}
use Rattle.elf_types.specs.declared.errors.ElfError.TheVariants.{Memory, TooLarge}
use Rattle.strtab_build.specs.Table.{distinct, strings, table, place_of}
use Rattle.strtab_build.proofs.DistinctLemmas.{same_refl, distinct-append, distinct-append_left, fold-behind}
use Rattle.strtab_build.proofs.TableLemmas.{table_same, place_of-append, place_of-distinct}
use Rattle.elf_calls_generate.specs.Uses.{UsesName}

-- ---- The table of more names

strings-append : (a b : List (List ℕ)) → strings (a ++ b) ≡ strings a ++ strings b
unfolding strings
strings-append a b = flat_map-append (λ name. name ++ 0 ∷ []) a b

length-table : (names : List (List ℕ))
    → length (table names) ≡ length (strings (distinct names)) + 1
unfolding table
length-table names = omega arith

table_grows : (used more : List (List ℕ)) → length (table used) ≤ length (table (used ++ more))
table_grows used more =
    let behind = fold-behind (distinct used) more in
    let grown : length (strings (distinct (used ++ more)))
    ≡ length (strings (distinct used)) + length (strings behind.0) =
    ap (λ (l : List (List ℕ)). length (strings l)) (distinct-append used more ∙ behind.1)
    ∙ ap (λ (l : List ℕ). length l) (strings-append (distinct used) behind.0)
    ∙ length-append (strings (distinct used)) (strings behind.0) in
    omega (arith, grown, length-table used, length-table (used ++ more))

-- ---- One name more

module _ (name : List ℕ) where
  used_last : (used : List (List ℕ)) → list_any (bytes_eq name) (used ++ name ∷ []) ≡ true
  used_last used =
      list_any-append (bytes_eq name) used (name ∷ [])
      ∙ or_right (list_any (bytes_eq name) used) (list_any (bytes_eq name) (name ∷ []))
      (ap (λ (b : Bool). b || false) (same_refl name))

  next_is : (old used : List (List ℕ)) → old ≡ distinct used
      → distinct (old ++ name ∷ []) ≡ distinct (used ++ name ∷ [])
  next_is old used is =
      ap (λ (l : List (List ℕ)). distinct (l ++ name ∷ [])) is
      ∙ distinct-append_left used (name ∷ [])

  place_is : (used more : List (List ℕ))
      → place_of name (distinct (used ++ name ∷ [])) ≡ place_of name ((used ++ name ∷ []) ++ more)
  place_is used more =
      place_of-distinct name (used ++ name ∷ [])
      ∙ sym (place_of-append name (used ++ name ∷ []) more (used_last used))

  too_large : (e : ElfError) (old used more : List (List ℕ))
      → (IsErrOf {T = ℕ} (Err e) TooLarge ↔ (2 ^ 32 - 1 < length (table (old ++ name ∷ []))))
      → old ≡ distinct used → length (table ((used ++ name ∷ []) ++ more)) < 2 ^ 32
      → e ≡ TooLarge → e ≡ Memory
  too_large e old used more large at small is =
      let passes = large.0 (ap {B = Result ℕ ElfError} (λ (x : ElfError). Err x) is) in
      let same = ap (λ (l : List ℕ). length l)
      (table_same (old ++ name ∷ []) (used ++ name ∷ []) (next_is old used at)) in
      let within = table_grows (used ++ name ∷ []) more in
      absurd (omega (arith, passes, same, within, small))

  pub uses_name : (r : Result ℕ ElfError) (old new : List (List ℕ))
      → OnOk r (new ≡ distinct (old ++ name ∷ [])) → IfOk r (λ offset. offset ≡ place_of name new)
      → (IsErrOf r TooLarge ↔ (2 ^ 32 - 1 < length (table (old ++ name ∷ []))))
      → IfErr r (λ e. (e ≡ TooLarge) ⊎ (e ≡ Memory)) → UsesName name r old new
  uses_name (Ok offset) old new next place large errors = record {
    next = λ used at. next ∙ next_is old used at;
    place = λ used more at.
        place ∙ ap (place_of name) (next ∙ next_is old used at) ∙ place_is used more;
    wants = λ used more at small. tt;
  }
  uses_name (Err e) old new next place large errors = record {
    next = λ used at. tt;
    place = λ used more at. tt;
    wants = λ used more at small. by_error errors used more at small;
  }
    where
      by_error : (e ≡ TooLarge) ⊎ (e ≡ Memory) → (used more : List (List ℕ)) → old ≡ distinct used
          → length (table ((used ++ name ∷ []) ++ more)) < 2 ^ 32 → e ≡ Memory
      by_error (inl is) used more at small = too_large e old used more large at small is
      by_error (inr is) used more at small = is

  -- there was no memory to make the name
  pub unused : (e : ElfError) (old : List (List ℕ)) → e ≡ Memory
      → UsesName name (Err e) old old
  unused e old is = record {
    next = λ used at. tt;
    place = λ used more at. tt;
    wants = λ used more at small. is;
  }

  -- ---- Of names that are known

  module _ (r : Result ℕ ElfError) (old new used more all : List (List ℕ))
      (split : (used ++ name ∷ []) ++ more ≡ all) (at : old ≡ distinct used)
      (uses : UsesName name r old new) where
    pub place_in : IfOk r (λ offset. offset ≡ place_of name all)
    place_in =
        subst (λ (l : List (List ℕ)). IfOk r (λ offset. offset ≡ place_of name l)) split
        (uses.place used more at)

    pub wants_in : length (table all) < 2 ^ 32 → IfErr r (λ e. e ≡ Memory)
    wants_in small =
        uses.wants used more at
        (subst (λ (l : List (List ℕ)). length (table l) < 2 ^ 32) (sym split) small)

-- ---- No name has a NUL

not_nul : (b : ℕ) → not (b == 0) ≡ true → b ≢ 0
not_nul b is = λ (none : b ≡ 0).
    let never : false ≡ true = sym (ap (λ (x : ℕ). not (x == 0)) none) ∙ is in cc

pub whole : (name : List ℕ) → list_all (λ b. not (b == 0)) name ≡ true → All (λ b. b ≢ 0) name
whole name is =
    All-weaker (λ b. not (b == 0) ≡ true) (λ b. b ≢ 0) not_nul name
    (AllPass-from_list_all (λ b. not (b == 0)) name is)
