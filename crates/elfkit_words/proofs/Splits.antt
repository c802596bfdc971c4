-- The steps through the words after a command, word by word.
use Rattle.std.proofs.Common.{◌≡◌, ◌++◌, List, [], ◌∷◌, ℕ, Bool, true, false, not, drop, bytes_eq, codes, Option, Some, None, Ok, Err, Bor, option_and_then, refl, sym, ap, ◌∙◌, append_assoc}
use Rattle.std.specs.Option.{is_some, option_copied, unwrap_or}
use Rattle.std.proofs.lemmas.Bool.{cond-true, cond-false}
use Rattle.std.proofs.lemmas.List.{append-nil}
use Rattle.elfkit_words.specs.declared.usages.Usage.{Usage}
use Rattle.elfkit_words.specs.declared.splitting.CommandOption.{CommandOption}
use Rattle.elfkit_words.specs.declared.splitting.Split.{Split}
use Rattle.elfkit_words.specs.Splitting.{Group, option_with, group_of, group_after, split_of, split_after, split_by_group, split_into, is_option_word, AddsGroup, GoesOn, EndsOptions, FollowsWords}
use Rattle.elfkit_words.specs.declared.faults.Fault.{Fault}
use Rattle.elfkit_words.specs.declared.faults.Fault.TheVariants.{Memory, Words}

pub split_after-nil : (o : Option Split) → split_after [] o ≡ o
split_after-nil None = refl
split_after-nil (Some split) = refl

pub split_after-append : (xs ys : List CommandOption) (o : Option Split) → split_after (xs ++ ys) o ≡ split_after xs (split_after ys o)
split_after-append xs ys None = refl
split_after-append xs ys (Some split) = ap (λ os. Some (record split { options = os })) (append_assoc xs ys split.options)

-- the end of the words
pub words_ended : (usage : Usage) (options : List CommandOption) (whole : Option Split) → split_after options (split_of usage None []) ≡ whole → whole ≡ Some (split_into options (Some []))
unfolding split_of
words_ended usage options whole so_far = sym so_far ∙ ap (λ os. Some (split_into os (Some []))) (append-nil options)

-- where a group gave its options after others
after_group : (usage : Usage) (options new : List CommandOption) (waiting : Option ℕ) (words : List (List ℕ)) (group : Option Group) → group_after options group ≡ Some (record { options = new; waiting = waiting }) → split_after options (option_and_then (λ r. split_after r.options (split_of usage r.waiting words)) group) ≡ split_after new (split_of usage waiting words)
after_group usage options new waiting words None e = cc
after_group usage options new waiting words (Some r) e =
    let same : record r { options = options ++ r.options } ≡ record { options = new; waiting = waiting } = cc in
    let options_are : options ++ r.options ≡ new = ap (λ (x : Group). x.options) same in
    let waiting_is : r.waiting ≡ waiting = ap (λ (x : Group). x.waiting) same in
    sym (split_after-append options r.options (split_of usage r.waiting words))
    ∙ ap (λ os. split_after os (split_of usage r.waiting words)) options_are
    ∙ ap (λ w. split_after new (split_of usage w words)) waiting_is

-- at a word, where it and the words after it give `whole` after the options so far
module _ (usage : Usage) (options : List CommandOption) (word : List ℕ) (words : List (List ℕ)) (whole : Option Split) (so_far : split_after options (split_of usage None (word ∷ words)) ≡ whole) where
  -- it is an operand
  pub operand_met : is_option_word word ≡ false → whole ≡ Some (split_into options (Some (word ∷ words)))
  unfolding split_of
  operand_met is_operand =
      sym so_far
      ∙ ap (split_after options) (cond-false _ _ _ is_operand)
      ∙ ap (λ os. Some (split_into os (Some (word ∷ words)))) (append-nil options)

  -- it ends the options
  pub end_met : is_option_word word ≡ true → bytes_eq word (codes "--") ≡ true → whole ≡ Some (split_into options (Some words))
  unfolding split_of
  end_met is_option ends =
      sym so_far
      ∙ ap (split_after options) (cond-true _ _ _ is_option ∙ cond-true _ _ _ ends)
      ∙ ap (λ os. Some (split_into os (Some words))) (append-nil options)

  -- it asks for help
  pub help_met : is_option_word word ≡ true → bytes_eq word (codes "--") ≡ false → bytes_eq word (codes "--help") ≡ true → whole ≡ Some (split_into options None)
  unfolding split_of
  help_met is_option goes asks =
      sym so_far
      ∙ ap (split_after options) (cond-true _ _ _ is_option ∙ cond-false _ _ _ goes ∙ cond-true _ _ _ asks)
      ∙ ap (λ os. Some (split_into os None)) (append-nil options)

  -- it is an option word
  pub group_met : is_option_word word ≡ true → bytes_eq word (codes "--") ≡ false
      → bytes_eq word (codes "--help") ≡ false
      → split_after options (split_by_group usage (group_of usage (drop 1 word)) words) ≡ whole
  unfolding split_of
  group_met is_option goes asks_not =
      ap (split_after options)
      (sym (cond-true _ _ _ is_option ∙ cond-false _ _ _ goes ∙ cond-false _ _ _ asks_not))
      ∙ so_far

  -- it is one that is not read
  pub group_missed : (read : List ℕ) → read ≡ word → is_option_word word ≡ true
      → bytes_eq word (codes "--") ≡ false → bytes_eq word (codes "--help") ≡ false
      → (new : List CommandOption) (fault : Fault)
      → GoesOn usage
      (split_after options (split_by_group usage (group_of usage (drop 1 read)) words)) new
      (Err fault)
      → EndsOptions whole new (Err fault)
  group_missed read same is_option goes asks_not new Words none =
      sym (group_met is_option goes asks_not)
      ∙ ap (λ w. split_after options (split_by_group usage (group_of usage (drop 1 w)) words))
      (sym same)
      ∙ none
  group_missed read same is_option goes asks_not new Memory none = tt

-- after a letter that waits for its option-argument
pub option_argument_missing : (usage : Usage) (options : List CommandOption) (letter : ℕ) (whole : Option Split) → split_after options (split_of usage (Some letter) []) ≡ whole → whole ≡ None
unfolding split_of
option_argument_missing usage options letter whole so_far = sym so_far

pub option_argument_taken : (usage : Usage) (options new : List CommandOption) (letter : ℕ) (option_argument : List ℕ) (words : List (List ℕ)) (whole : Option Split) → split_after options (split_of usage (Some letter) (option_argument ∷ words)) ≡ whole → new ≡ options ++ option_with letter option_argument → split_after new (split_of usage None words) ≡ whole
unfolding split_of
option_argument_taken usage options new letter option_argument words whole so_far added =
    ap (λ os. split_after os (split_of usage None words)) added
    ∙ split_after-append options _ (split_of usage None words)
    ∙ so_far

-- an option word that is read, by its letters, before words
module _ (usage : Usage) (old new : List CommandOption) (letters : List ℕ)
    (words : List (List ℕ)) where
  abbrev by_group : Option Split
  by_group = split_after old (split_by_group usage (group_of usage letters) words)

  pub group_refused : (fault : Fault) → AddsGroup usage letters old new (Err fault)
      → GoesOn usage by_group new (Err fault)
  group_refused Words none =
      ap (λ (g : Option Group). split_after old (split_by_group usage g words)) none
  group_refused Memory none = tt

  pub group_ended : AddsGroup usage letters old new (Ok None)
      → split_after new (split_of usage None words) ≡ by_group
  group_ended added = sym (after_group usage old new None words (group_of usage letters) added)

  -- a letter waits for its option-argument
  pub argument_missing : (letter : ℕ) → words ≡ []
      → AddsGroup usage letters old new (Ok (Some letter)) → by_group ≡ None
  argument_missing letter none added =
      after_group usage old new (Some letter) words (group_of usage letters) added
      ∙ option_argument_missing usage new letter _
      (ap (λ ws. split_after new (split_of usage (Some letter) ws)) (sym none))

  pub argument_taken : (letter : ℕ) (argument : List ℕ) (rest : List (List ℕ))
      (more : List CommandOption) → words ≡ argument ∷ rest
      → AddsGroup usage letters old new (Ok (Some letter))
      → more ≡ new ++ option_with letter argument
      → split_after more (split_of usage None rest) ≡ by_group
  argument_taken letter argument rest more is added taken =
      option_argument_taken usage new more letter argument rest by_group
      (ap (λ ws. split_after new (split_of usage (Some letter) ws)) (sym is)
      ∙ sym (after_group usage old new (Some letter) words (group_of usage letters) added))
      taken

-- the split, where nothing stands before the words
module _ (usage : Usage) (words : List (List ℕ)) (old options : List CommandOption)
    (nothing : old ≡ []) where
  abbrev all : Option Split
  all = split_after old (split_of usage None words)

  all_is : all ≡ split_of usage None words
  all_is =
      ap (λ os. split_after os (split_of usage None words)) nothing
      ∙ split_after-nil (split_of usage None words)

  pub split_missed : (fault : Fault) → EndsOptions all options (Err fault)
      → FollowsWords (Err fault) (split_of usage None words)
  split_missed Words none = sym all_is ∙ none
  split_missed Memory none = tt

  pub split_done : (rest : Option (Bor (List (List ℕ)))) (operands : List (List ℕ)) (asks : Bool)
      → EndsOptions all options (Ok rest) → operands ≡ unwrap_or (option_copied rest) []
      → is_some rest ≡ not asks
      → split_of usage None words
      ≡ Some (record { options = options; operands = operands; asks_help = asks })
  split_done None operands true ends are is = rw are (sym all_is ∙ ends)
  split_done None operands false ends are is = cc
  split_done (Some rest) operands true ends are is = cc
  split_done (Some rest) operands false ends are is = rw are (sym all_is ∙ ends)
