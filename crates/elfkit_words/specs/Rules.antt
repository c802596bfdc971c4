-- The rules of option words, one sentence each, by the guidelines of POSIX.1-2017, base definitions
-- 12.2.
use Rattle.std.specs.Prelude.{◌≡◌, ◌≢◌, List, [], ◌∷◌, ℕ, true, false, Option, Some, None, codes}
use Rattle.std.specs.Str.{byte}
use Rattle.elfkit_words.specs.declared.usages.Usage.{Usage}
use Rattle.elfkit_words.specs.declared.splitting.Split.{Split}
use Rattle.elfkit_words.specs.Usages.{stands_alone, takes_option_argument}
use Rattle.elfkit_words.specs.Splitting.{is_option_word, lone_option, option_with, operands_alone, help_alone, split_after}

-- the word of a dash and these letters
abbrev pub dash : List ℕ → List ℕ
dash letters = byte "-" ∷ letters

pub record FollowsRules (usage : Usage) (split : List (List ℕ) → Option Split) : Type 0 where
  -- No words are no options and no operands.
  pub no_words : split [] ≡ Some (operands_alone [])
  -- From the first word on that is no option word all are operands (guideline 9).
  pub operands : (word : List ℕ) (words : List (List ℕ)) → is_option_word word ≡ false
      → split (word ∷ words) ≡ Some (operands_alone (word ∷ words))
  -- `--` is dropped, and the words after it are operands (guideline 10).
  pub end : (words : List (List ℕ))
      → split (codes "--" ∷ words) ≡ Some (operands_alone words)
  -- `--help` asks for help, and nothing after it is looked at (GNU Coding Standards, section 4.8).
  pub help : (words : List (List ℕ)) → split (codes "--help" ∷ words) ≡ Some help_alone
  -- A letter without an option-argument is an option.
  pub alone : (letter : ℕ) (words : List (List ℕ)) → stands_alone usage letter ≡ true
      → split (dash (letter ∷ []) ∷ words) ≡ split_after (lone_option letter) (split words)
  -- Before other letters it is that option, and then a word of the others (guideline 5).
  pub grouped : (letter next : ℕ) (letters : List ℕ) (words : List (List ℕ))
      → stands_alone usage letter ≡ true → next ≢ byte "-"
      → split (dash (letter ∷ next ∷ letters) ∷ words)
      ≡ split_after (lone_option letter) (split (dash (next ∷ letters) ∷ words))
  -- An option-argument is the rest of the word.
  pub joined : (letter next : ℕ) (rest : List ℕ) (words : List (List ℕ))
      → takes_option_argument usage letter ≡ true
      → split (dash (letter ∷ next ∷ rest) ∷ words)
      ≡ split_after (option_with letter (next ∷ rest)) (split words)
  -- Where the rest of the word is empty, it is the next word, whatever that is (guideline 6).
  pub separate : (letter : ℕ) (word : List ℕ) (words : List (List ℕ))
      → takes_option_argument usage letter ≡ true
      → split (dash (letter ∷ []) ∷ word ∷ words)
      ≡ split_after (option_with letter word) (split words)
  -- It is not optional: where there is no next word, the words are refused (guideline 7).
  pub missing : (letter : ℕ) → takes_option_argument usage letter ≡ true
      → split (dash (letter ∷ []) ∷ []) ≡ None
  -- Any other letter is refused, and so are any other word behind two dashes and a dash among
  -- letters.
  pub other_letter : (letter : ℕ) (letters : List ℕ) (words : List (List ℕ))
      → takes_option_argument usage letter ≡ false → stands_alone usage letter ≡ false
      → letter ≢ byte "-" → split (dash (letter ∷ letters) ∷ words) ≡ None
  pub other_dash : (letters : List ℕ) (next : ℕ) (words : List (List ℕ))
      → next ∷ letters ≢ codes "help"
      → split (dash (byte "-" ∷ next ∷ letters) ∷ words) ≡ None
  pub dash_grouped : (letter : ℕ) (letters : List ℕ) (words : List (List ℕ))
      → stands_alone usage letter ≡ true
      → split (dash (letter ∷ byte "-" ∷ letters) ∷ words) ≡ None
