-- The rules of option words leave no choice: two splits that follow them are one.
use Rattle.std.proofs.Common.{◌≡◌, ◌≢◌, ◌+◌, ◌≤◌, List, [], ◌∷◌, ℕ, zero, suc, true, false, length, bytes_eq, codes, Option, refl, sym, ap, subst, ◌∙◌, ⊎_elim, arith}
use Rattle.std.specs.Str.{byte}
use Rattle.std.proofs.lemmas.Bool.{and_right, ne_eqb, cases_eq, cases_Bool}
use Rattle.std.proofs.lemmas.Bool.Decides.{not_from_Decides}
use Rattle.std.proofs.lemmas.Slice.Eq.{bytes_eq-Decides}
use Rattle.elfkit_words.specs.declared.usages.Usage.{Usage}
use Rattle.elfkit_words.specs.declared.splitting.Split.{Split}
use Rattle.elfkit_words.specs.Usages.{stands_alone, takes_option_argument}
use Rattle.elfkit_words.specs.Splitting.{is_option_word, lone_option, option_with, split_after}
use Rattle.elfkit_words.specs.Rules.{FollowsRules, dash}

-- how much there is to read
size : List (List ℕ) → ℕ
size [] = 0
size (word ∷ words) = length word + 1 + size words

module _ (usage : Usage) (s t : List (List ℕ) → Option Split) (F : FollowsRules usage s) (G : FollowsRules usage t) where
  Same : List (List ℕ) → Type 0
  Same words = s words ≡ t words

  at_operand : (word : List ℕ) (words : List (List ℕ)) → is_option_word word ≡ false → Same (word ∷ words)
  unfolding Same
  at_operand word words operand = F.operands word words operand ∙ sym (G.operands word words operand)

  -- a dash behind the first one
  at_dash : (letters : List ℕ) (words : List (List ℕ)) → Same (dash (byte "-" ∷ letters) ∷ words)
  unfolding Same
  at_dash [] words = F.end words ∙ sym (G.end words)
  at_dash (next ∷ letters) words =
      let d = bytes_eq-Decides (next ∷ letters) (codes "help") in
      ⊎_elim
      (λ t. subst (λ cs. Same (dash (byte "-" ∷ cs) ∷ words)) (sym (d.0 t)) (F.help words ∙ sym (G.help words)))
      (λ f. let other = not_from_Decides _ d f in F.other_dash letters next words other ∙ sym (G.other_dash letters next words other))
      (cases_Bool (bytes_eq (next ∷ letters) (codes "help")))

  -- where what is shorter is split alike
  module _ (n : ℕ) (shorter : (words : List (List ℕ)) → size words ≤ n → Same words) where
    at_option_argument : (letter : ℕ) (letters : List ℕ) (words : List (List ℕ)) → takes_option_argument usage letter ≡ true → size (dash (letter ∷ letters) ∷ words) ≤ suc n → Same (dash (letter ∷ letters) ∷ words)
    unfolding Same size
    at_option_argument letter (next ∷ rest) words here small =
        F.joined letter next rest words here
        ∙ ap (split_after (option_with letter (next ∷ rest))) (shorter words (omega arith))
        ∙ sym (G.joined letter next rest words here)
    at_option_argument letter [] [] here small = F.missing letter here ∙ sym (G.missing letter here)
    at_option_argument letter [] (word ∷ words) here small =
        F.separate letter word words here
        ∙ ap (split_after (option_with letter word)) (shorter words (omega arith))
        ∙ sym (G.separate letter word words here)

    at_alone : (letter : ℕ) (letters : List ℕ) (words : List (List ℕ)) → stands_alone usage letter ≡ true → size (dash (letter ∷ letters) ∷ words) ≤ suc n → Same (dash (letter ∷ letters) ∷ words)
    unfolding Same size
    at_alone letter [] words here small =
        F.alone letter words here
        ∙ ap (split_after (lone_option letter)) (shorter words (omega arith))
        ∙ sym (G.alone letter words here)
    at_alone letter (next ∷ letters) words here small =
        ⊎_elim
        (λ e. subst (λ c. Same (dash (letter ∷ c ∷ letters) ∷ words)) (sym e) (F.dash_grouped letter letters words here ∙ sym (G.dash_grouped letter letters words here)))
        (λ other.
        F.grouped letter next letters words here other
        ∙ ap (split_after (lone_option letter)) (shorter (dash (next ∷ letters) ∷ words) (omega arith))
        ∙ sym (G.grouped letter next letters words here other))
        (cases_eq next 45)

    at_letter : (letter : ℕ) (letters : List ℕ) (words : List (List ℕ)) → letter ≢ byte "-" → size (dash (letter ∷ letters) ∷ words) ≤ suc n → Same (dash (letter ∷ letters) ∷ words)
    unfolding Same
    at_letter letter letters words other small =
        ⊎_elim
        (λ here. at_option_argument letter letters words here small)
        (λ none. ⊎_elim
        (λ here. at_alone letter letters words here small)
        (λ neither. F.other_letter letter letters words none neither other ∙ sym (G.other_letter letter letters words none neither other))
        (cases_Bool (stands_alone usage letter)))
        (cases_Bool (takes_option_argument usage letter))

    at_word : (word : List ℕ) (words : List (List ℕ)) → size (word ∷ words) ≤ suc n → Same (word ∷ words)
    unfolding size
    at_word [] words small = at_operand [] words refl
    at_word (c ∷ []) words small = at_operand (c ∷ []) words refl
    at_word (c ∷ letter ∷ letters) words small =
        ⊎_elim
        (λ e. subst (λ d. Same ((d ∷ letter ∷ letters) ∷ words)) (sym e)
        (⊎_elim
        (λ k. subst (λ d. Same (dash (d ∷ letters) ∷ words)) (sym k) (at_dash letters words))
        (λ other. at_letter letter letters words other small)
        (cases_eq letter 45)))
        (λ other. at_operand (c ∷ letter ∷ letters) words (and_right _ _ (ne_eqb c 45 other)))
        (cases_eq c 45)

  by_size : (n : ℕ) (words : List (List ℕ)) → size words ≤ n → Same words
  unfolding Same size
  by_size n [] small = F.no_words ∙ sym G.no_words
  by_size zero (word ∷ words) small = absurd (omega arith)
  by_size (suc n) (word ∷ words) small = at_word n (by_size n) word words small

  pub one_split : (words : List (List ℕ)) → s words ≡ t words
  unfolding Same
  one_split words = by_size (size words) words (omega arith)
