-- The split of the words follows the rules of option words.
use Rattle.std.proofs.Common.{◌≡◌, ◌≢◌, List, [], ◌∷◌, ℕ, Bool, true, false, length, bytes_eq, codes, Option, Some, None, ⊎_elim, option_and_then, refl, sym, ap, ◌∙◌, arith}
use Rattle.std.specs.Str.{byte}
use Rattle.std.proofs.lemmas.Slice.Eq.{bytes_eq-Decides}
use Rattle.std.proofs.lemmas.Bool.{true≢false, cases_Bool, le-leb, ne_eqb, and_from, and_left, cond-true, cond-false}
use Rattle.elfkit_words.specs.declared.usages.Usage.{Usage}
use Rattle.elfkit_words.specs.declared.splitting.CommandOption.{CommandOption}
use Rattle.elfkit_words.specs.declared.splitting.Split.{Split}
use Rattle.elfkit_words.specs.Usages.{stands_alone, takes_option_argument}
use Rattle.elfkit_words.specs.Splitting.{Group, is_option_word, lone_option, option_with, group_of, group_after, last_of_group, split_of, split_after, operands_alone, help_alone}
use Rattle.elfkit_words.specs.Rules.{FollowsRules, dash}
use Rattle.elfkit_words.proofs.Letters.{lone_letter, dash_takes_no_option_argument, dash_stands_not_alone}
use Rattle.elfkit_words.proofs.Groups.{group_of-option_argument, group_of-alone, group_of-other, group_of-nil}
use Rattle.elfkit_words.proofs.Splits.{split_after-nil, split_after-append}

is_no_dash : (test : ℕ → Bool) (letter : ℕ) → test (byte "-") ≡ false → test letter ≡ true → letter ≢ byte "-"
is_no_dash test letter none here e = true≢false (sym here ∙ ap test e ∙ none)

-- a dash and a letter are an option word
is_option : (letter : ℕ) (letters : List ℕ) → is_option_word (dash (letter ∷ letters)) ≡ true
is_option letter letters = and_from _ _ (le-leb 2 (length (dash (letter ∷ letters))) (omega arith)) refl

is_no_end : (letter : ℕ) (letters : List ℕ) → letter ≢ byte "-" → bytes_eq (dash (letter ∷ letters)) (codes "--") ≡ false
is_no_end letter letters other = and_left _ _ (ne_eqb letter 45 other)

is_no_help : (letter : ℕ) (letters : List ℕ) → letter ≢ byte "-" → bytes_eq (dash (letter ∷ letters)) (codes "--help") ≡ false
is_no_help letter letters other = and_left _ _ (ne_eqb letter 45 other)

no_help : (word : List ℕ) → word ≢ codes "help" → bytes_eq word (codes "help") ≡ false
no_help word other =
    ⊎_elim (λ t. absurd (other ((bytes_eq-Decides word (codes "help")).0 t))) (λ f. f) (cases_Bool (bytes_eq word (codes "help")))

module _ (usage : Usage) where
  -- what a group gives before the words after it
  and_then_words : List (List ℕ) → Option Group → Option Split
  and_then_words words group = option_and_then (λ r. split_after r.options (split_of usage r.waiting words)) group

  -- the words at an option word that does not end the options
  at_group : (letter : ℕ) (letters : List ℕ) (words : List (List ℕ)) → bytes_eq (dash (letter ∷ letters)) (codes "--") ≡ false → bytes_eq (dash (letter ∷ letters)) (codes "--help") ≡ false → split_of usage None (dash (letter ∷ letters) ∷ words) ≡ and_then_words words (group_of usage (letter ∷ letters))
  unfolding split_of and_then_words
  at_group letter letters words goes asks_not = cond-true _ _ _ (is_option letter letters) ∙ cond-false _ _ _ goes ∙ cond-false _ _ _ asks_not

  at_letters : (letter : ℕ) (letters : List ℕ) (words : List (List ℕ)) → letter ≢ byte "-" → split_of usage None (dash (letter ∷ letters) ∷ words) ≡ and_then_words words (group_of usage (letter ∷ letters))
  at_letters letter letters words other = at_group letter letters words (is_no_end letter letters other) (is_no_help letter letters other)

  group_joined : (options : List CommandOption) (words : List (List ℕ)) (group : Option Group) → and_then_words words (group_after options group) ≡ split_after options (and_then_words words group)
  unfolding and_then_words
  group_joined options words None = refl
  group_joined options words (Some group) = split_after-append options group.options (split_of usage group.waiting words)

  option_argument_is_no_dash : (letter : ℕ) → takes_option_argument usage letter ≡ true → letter ≢ byte "-"
  option_argument_is_no_dash letter t = is_no_dash (takes_option_argument usage) letter (dash_takes_no_option_argument usage) t

  alone_is_no_dash : (letter : ℕ) → stands_alone usage letter ≡ true → letter ≢ byte "-"
  alone_is_no_dash letter f = is_no_dash (stands_alone usage) letter (dash_stands_not_alone usage) f

  option_argument_here : (letter : ℕ) (letters : List ℕ) (words : List (List ℕ)) → takes_option_argument usage letter ≡ true → split_of usage None (dash (letter ∷ letters) ∷ words) ≡ and_then_words words (Some (last_of_group letter letters))
  option_argument_here letter letters words t =
      at_letters letter letters words (option_argument_is_no_dash letter t) ∙ ap (and_then_words words) (group_of-option_argument usage letter letters t)

  alone_here : (letter : ℕ) (letters : List ℕ) (words : List (List ℕ)) → stands_alone usage letter ≡ true → split_of usage None (dash (letter ∷ letters) ∷ words) ≡ split_after (lone_option letter) (and_then_words words (group_of usage letters))
  alone_here letter letters words f =
      at_letters letter letters words (alone_is_no_dash letter f)
      ∙ ap (and_then_words words) (group_of-alone usage letter letters (lone_letter usage letter f) f)
      ∙ group_joined (lone_option letter) words (group_of usage letters)

  alone_rule : (letter : ℕ) (words : List (List ℕ)) → stands_alone usage letter ≡ true → split_of usage None (dash (letter ∷ []) ∷ words) ≡ split_after (lone_option letter) (split_of usage None words)
  unfolding and_then_words
  alone_rule letter words f =
      alone_here letter [] words f
      ∙ ap (split_after (lone_option letter)) (ap (and_then_words words) (group_of-nil usage) ∙ split_after-nil (split_of usage None words))

  joined_rule : (letter next : ℕ) (rest : List ℕ) (words : List (List ℕ)) → takes_option_argument usage letter ≡ true → split_of usage None (dash (letter ∷ next ∷ rest) ∷ words) ≡ split_after (option_with letter (next ∷ rest)) (split_of usage None words)
  unfolding and_then_words
  joined_rule letter next rest words t = option_argument_here letter (next ∷ rest) words t

  separate_rule : (letter : ℕ) (word : List ℕ) (words : List (List ℕ)) → takes_option_argument usage letter ≡ true → split_of usage None (dash (letter ∷ []) ∷ word ∷ words) ≡ split_after (option_with letter word) (split_of usage None words)
  unfolding and_then_words split_of
  separate_rule letter word words t = option_argument_here letter [] (word ∷ words) t ∙ split_after-nil _

  missing_rule : (letter : ℕ) → takes_option_argument usage letter ≡ true → split_of usage None (dash (letter ∷ []) ∷ []) ≡ None
  unfolding and_then_words split_of
  missing_rule letter t = option_argument_here letter [] [] t

  -- a dash behind a dash or a letter
  dash_group : (letters : List ℕ) → group_of usage (byte "-" ∷ letters) ≡ None
  dash_group letters = group_of-other usage (byte "-") letters (dash_takes_no_option_argument usage) (dash_stands_not_alone usage)

  other_letter_rule : (letter : ℕ) (letters : List ℕ) (words : List (List ℕ)) → takes_option_argument usage letter ≡ false → stands_alone usage letter ≡ false → letter ≢ byte "-" → split_of usage None (dash (letter ∷ letters) ∷ words) ≡ None
  unfolding and_then_words
  other_letter_rule letter letters words t f other =
      at_letters letter letters words other ∙ ap (and_then_words words) (group_of-other usage letter letters t f)

  other_dash_rule : (letters : List ℕ) (next : ℕ) (words : List (List ℕ)) → next ∷ letters ≢ codes "help" → split_of usage None (dash (byte "-" ∷ next ∷ letters) ∷ words) ≡ None
  unfolding and_then_words
  other_dash_rule letters next words other =
      at_group (byte "-") (next ∷ letters) words refl (no_help (next ∷ letters) other) ∙ ap (and_then_words words) (dash_group (next ∷ letters))

  dash_grouped_rule : (letter : ℕ) (letters : List ℕ) (words : List (List ℕ)) → stands_alone usage letter ≡ true → split_of usage None (dash (letter ∷ byte "-" ∷ letters) ∷ words) ≡ None
  unfolding and_then_words
  dash_grouped_rule letter letters words f =
      alone_here letter (byte "-" ∷ letters) words f ∙ ap (λ group. split_after (lone_option letter) (and_then_words words group)) (dash_group letters)

  no_words_rule : split_of usage None [] ≡ Some (operands_alone [])
  unfolding split_of
  no_words_rule = refl

  operands_rule : (word : List ℕ) (words : List (List ℕ)) → is_option_word word ≡ false → split_of usage None (word ∷ words) ≡ Some (operands_alone (word ∷ words))
  unfolding split_of
  operands_rule word words operand = cond-false _ _ _ operand

  end_rule : (words : List (List ℕ)) → split_of usage None (codes "--" ∷ words) ≡ Some (operands_alone words)
  unfolding split_of
  end_rule words = refl

  help_rule : (words : List (List ℕ)) → split_of usage None (codes "--help" ∷ words) ≡ Some help_alone
  unfolding split_of
  help_rule words = refl

  pub split_rules : FollowsRules usage (split_of usage None)
  split_rules = record {
    no_words = no_words_rule;
    operands = operands_rule;
    end = end_rule;
    help = help_rule;
    alone = alone_rule;
    grouped = λ letter next letters words f other.
        alone_here letter (next ∷ letters) words f
        ∙ ap (split_after (lone_option letter)) (sym (at_letters next letters words other));
    joined = joined_rule;
    separate = separate_rule;
    missing = missing_rule;
    other_letter = other_letter_rule;
    other_dash = other_dash_rule;
    dash_grouped = dash_grouped_rule;
  }
