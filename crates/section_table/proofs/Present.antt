-- The present headers, by those that were opened and the others.
use Rattle.std.proofs.Common.{◌≡◌, ℕ, ◌<◌, ◌==◌, Bool, true, false, List, [], ◌∷◌, ◌++◌, length, set, Result, Ok, Err, refl, ap, ◌∙◌, arith}
use Rattle.std.specs.Prelude.{if◌then◌else◌, OnOk, OnErr}
use Rattle.std.proofs.lemmas.Bool.{eqb-true, eqb-false}
use Rattle.std.proofs.lemmas.List.{length-set}
use Rattle.elf_types.specs.declared.errors.ElfError.{ElfError}
use Rattle.elf_types.specs.declared.records.Shdr.{Shdr}
use Rattle.section_table.specs.Tables.{present}

-- ---- Which they are

-- where there are no others
pub while_none : (opened own : List Shdr) (n : ℕ) → n ≡ length own → (n == 0) ≡ true
    → present opened own ≡ opened
while_none opened [] n long none = refl
while_none opened (h ∷ own) n long none =
    let zero = eqb-true n 0 none in
    absurd (omega (arith, zero, long))

-- and where there are
pub once_some : (opened own : List Shdr) (n : ℕ) → n ≡ length own → (n == 0) ≡ false
    → present opened own ≡ own
once_some opened [] n long some = absurd (eqb-false n 0 some long)
once_some opened (h ∷ own) n long some = refl

present_long : (opened l : List Shdr) → 0 < length l → present opened l ≡ l
present_long opened [] some = absurd (omega (arith, some))
present_long opened (h ∷ l) some = refl

present_more : (opened l : List Shdr) (h : Shdr) → present opened (l ++ h ∷ []) ≡ l ++ h ∷ []
present_more opened [] h = refl
present_more opened (x ∷ l) h = refl

present_again : (opened own : List Shdr)
    → present opened (present opened own) ≡ present opened own
present_again [] [] = refl
present_again (h ∷ opened) [] = refl
present_again opened (h ∷ own) = refl

-- ---- What becomes of them

-- none of both
pub no_headers : (opened own : List Shdr) → opened ≡ [] → own ≡ [] → present opened own ≡ []
no_headers opened own none no_others =
    ap (λ (l : List Shdr). present opened l) no_others ∙ none

-- those that were opened are copied, once
pub copied : (opened own other new : List Shdr) (n : ℕ) (ok : Bool) → n ≡ length own
    → (n == 0) ≡ true → other ≡ opened → ok ≡ true → new ≡ (if ok then own ++ other else own)
    → new ≡ present opened own
copied opened [] other new n ok long none same done is =
    is ∙ ap (λ (b : Bool). if b then [] ++ other else []) done ∙ same
copied opened (h ∷ own) other new n ok long none same done is =
    let zero = eqb-true n 0 none in
    absurd (omega (arith, zero, long))

module _ (opened own old mid new : List Shdr) (mid_is : mid ≡ present opened own)
    (seen : present opened own ≡ old) where
  -- a header is stored
  pub stored : (s : ℕ) (h : Shdr) → s < length old → present opened (set mid s h) ≡ set old s h
  stored s h there =
      ap (λ (l : List Shdr). present opened (set l s h)) (mid_is ∙ seen)
      ∙ present_long opened (set old s h)
      (let same = length-set old s h in omega (arith, same, there))

  -- or added, or not
  pub pushed : (h : Shdr) (r : Result (Unit {0}) ElfError) → OnOk r (new ≡ mid ++ h ∷ [])
      → OnOk r (present opened new ≡ old ++ h ∷ [])
  pushed h (Ok x) is =
      ap (λ (l : List Shdr). present opened l) is
      ∙ present_more opened mid h
      ∙ ap (λ (l : List Shdr). l ++ h ∷ []) (mid_is ∙ seen)
  pushed h (Err e) is = tt

  pub kept : (r : Result (Unit {0}) ElfError) → OnErr r (new ≡ mid)
      → OnErr r (present opened new ≡ old)
  kept (Ok x) is = tt
  kept (Err e) is =
      ap (λ (l : List Shdr). present opened l) (is ∙ mid_is) ∙ present_again opened own ∙ seen
