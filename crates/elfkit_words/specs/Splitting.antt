-- The words after a command, as options and operands: the utility syntax of POSIX.1-2017 (base
-- definitions, chapter 12), where options come first and may be grouped behind one dash. The one
-- long option is `--help` of the GNU Coding Standards (section 4.8).
use Rattle.std.specs.Prelude.{◌≡◌, ◌++◌, ◌&&◌, ◌==◌, List, [], ◌∷◌, ℕ, Bool, true, false, length, drop, nat_le, slice_index, bytes_eq, Option, Some, None, option_map, option_and_then, Result, Ok, Err, codes, if◌then◌else◌}
use Rattle.std.specs.Borrow.{Bor}
use Rattle.std.specs.Option.{option_copied}
use Rattle.std.specs.Str.{byte}
use Rattle.elfkit_words.specs.declared.faults.Fault.{Fault}
use Rattle.elfkit_words.specs.declared.faults.Fault.TheVariants.{Memory, Words}
use Rattle.elfkit_words.specs.declared.usages.Usage.{Usage}
use Rattle.elfkit_words.specs.declared.splitting.CommandOption.{CommandOption}
use Rattle.elfkit_words.specs.declared.splitting.Split.{Split}
use Rattle.elfkit_words.specs.Usages.{stands_alone, takes_option_argument}

-- what a part of the code returned is what the words say, unless memory ran out
abbrev pub FollowsWords : {X : Type 0} → Result X Fault → Option X → Type 0
FollowsWords (Ok x) stated = stated ≡ Some x
FollowsWords (Err Words) stated = stated ≡ None
FollowsWords (Err Memory) stated = Unit {0}

-- new is old with the value of a word at its end, unless the word has none
abbrev pub AddsValue : {X Y : Type 0} → Option X → List X → List X → Result Y Fault → Type 0
AddsValue value old new (Ok y) = option_map (λ x. old ++ x ∷ []) value ≡ Some new
AddsValue value old new (Err Words) = value ≡ None
AddsValue value old new (Err Memory) = Unit {0}

-- An option word has at least two characters and begins with a dash.
abbrev pub is_option_word : List ℕ → Bool
is_option_word word = nat_le 2 (length word) && (slice_index word 0 == byte "-")

-- the option of such a letter
abbrev pub lone_option : ℕ → List CommandOption
lone_option letter = record { letter = letter; option_argument = None } ∷ []

abbrev pub option_with : ℕ → List ℕ → List CommandOption
option_with letter argument = record { letter = letter; option_argument = Some argument } ∷ []

-- what a group of letters says: its options, and the letter whose option-argument is the next word
pub record Group : Type 0 where
  pub options : List CommandOption
  pub waiting : Option ℕ

-- the group with options before its own
abbrev pub group_after : List CommandOption → Option Group → Option Group
group_after before group =
    option_map (λ (g : Group). record g { options = before ++ g.options }) group

-- An option-argument is the rest of the word, or the next word where the rest is empty.
abbrev pub last_of_group : ℕ → List ℕ → Group
last_of_group letter [] = record { options = []; waiting = Some letter }
last_of_group letter (c ∷ cs) = record { options = option_with letter (c ∷ cs); waiting = None }

-- An option word is a group of letters behind its dash.
unfoldable pub group_of : Usage → List ℕ → Option Group
group_of usage [] = Some (record { options = []; waiting = None })
group_of usage (letter ∷ rest) =
    if takes_option_argument usage letter
    then Some (last_of_group letter rest)
    else (if stands_alone usage letter
    then group_after (lone_option letter) (group_of usage rest)
    else None)

-- words that have no options
abbrev pub operands_alone : List (List ℕ) → Split
operands_alone words = record { options = []; operands = words; asks_help = false }

-- `--help`
abbrev pub help_alone : Split
help_alone = record { options = []; operands = []; asks_help = true }

-- the options before, and then those and the operands of the words after them
abbrev pub split_after : List CommandOption → Option Split → Option Split
split_after before split =
    option_map (λ (s : Split). record s { options = before ++ s.options }) split

-- Option words come until the first word that is none, or until `--`, which is dropped. The rest
-- are operands. Where `--help` comes before, help is asked for, and nothing after it is looked at.
-- `waiting` is a letter before these words whose option-argument is the first of them, whatever
-- that is.
unfoldable pub split_of : Usage → Option ℕ → List (List ℕ) → Option Split
split_of usage (Some letter) [] = None
split_of usage (Some letter) (word ∷ words) =
    split_after (option_with letter word) (split_of usage None words)
split_of usage None [] = Some (operands_alone [])
split_of usage None (word ∷ words) =
    if is_option_word word
    then (if bytes_eq word (codes "--")
    then Some (operands_alone words)
    else (if bytes_eq word (codes "--help")
    then Some help_alone
    else option_and_then
    (λ group. split_after group.options (split_of usage group.waiting words))
    (group_of usage (drop 1 word))))
    else Some (operands_alone (word ∷ words))

-- new is old with the options of a group of letters at its end
abbrev pub AddsGroup : Usage → List ℕ → List CommandOption → List CommandOption
    → Result (Option ℕ) Fault → Type 0
AddsGroup usage letters old new (Ok waiting) =
    group_after old (group_of usage letters) ≡ Some (record { options = new; waiting = waiting })
AddsGroup usage letters old new (Err Words) = group_of usage letters ≡ None
AddsGroup usage letters old new (Err Memory) = Unit {0}

-- what an option word says before words, by its group of letters
abbrev pub split_by_group : Usage → Option Group → List (List ℕ) → Option Split
split_by_group usage group words =
    option_and_then
    (λ (g : Group). split_after g.options (split_of usage g.waiting words))
    group

-- An option word was read: behind the options that there are now, the words that are left say the
-- same.
abbrev pub GoesOn : Usage → Option Split → List CommandOption → Result (Bor (List (List ℕ))) Fault
    → Type 0
GoesOn usage whole options (Ok rest) = split_after options (split_of usage None rest.now) ≡ whole
GoesOn usage whole options (Err Words) = whole ≡ None
GoesOn usage whole options (Err Memory) = Unit {0}

-- the split into options and operands, or into options and `--help`
abbrev pub split_into : List CommandOption → Option (List (List ℕ)) → Split
split_into options (Some words) = record { options = options; operands = words; asks_help = false }
split_into options None = record { options = options; operands = []; asks_help = true }

-- All options were read: the operands are left, or help is asked for.
abbrev pub EndsOptions : Option Split → List CommandOption
    → Result (Option (Bor (List (List ℕ)))) Fault → Type 0
EndsOptions whole options (Ok rest) = whole ≡ Some (split_into options (option_copied rest))
EndsOptions whole options (Err Words) = whole ≡ None
EndsOptions whole options (Err Memory) = Unit {0}
