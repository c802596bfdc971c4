-- The steps through an option word, letter by letter.
use Rattle.std.proofs.Common.{◌≡◌, ◌++◌, ◌+◌, ◌<◌, ◌≤◌, List, [], ◌∷◌, ℕ, true, false, length, drop, get_or, Option, Some, None, option_map, refl, sym, ap, ◌∙◌, append_assoc, arith}
use Rattle.std.proofs.lemmas.Bool.{cond-true, cond-false}
use Rattle.std.proofs.lemmas.List.{append-nil, drop_more, drop_all, length-drop}
use Rattle.elfkit_words.specs.declared.usages.Usage.{Usage}
use Rattle.elfkit_words.specs.declared.splitting.CommandOption.{CommandOption}
use Rattle.elfkit_words.specs.Usages.{stands_alone, takes_option_argument}
use Rattle.elfkit_words.specs.Splitting.{Group, group_of, group_after, last_of_group, lone_option, option_with}

-- what comes after nothing, and after two lists of options
pub group_after-nil : (o : Option Group) → group_after [] o ≡ o
group_after-nil None = refl
group_after-nil (Some group) = refl

pub group_after-append : (xs ys : List CommandOption) (o : Option Group) → group_after (xs ++ ys) o ≡ group_after xs (group_after ys o)
group_after-append xs ys None = refl
group_after-append xs ys (Some group) = ap (λ os. Some (record { options = os; waiting = group.waiting })) (append_assoc xs ys group.options)

pub none_from_map : {X Y : Type 0} (f : X → Y) (o : Option X) → option_map f o ≡ None → o ≡ None
none_from_map f None e = refl
none_from_map f (Some x) e = cc

-- a group of letters, by its first letter
pub group_of-option_argument : (usage : Usage) (letter : ℕ) (rest : List ℕ) → takes_option_argument usage letter ≡ true → group_of usage (letter ∷ rest) ≡ Some (last_of_group letter rest)
unfolding group_of
group_of-option_argument usage letter rest t = cond-true _ _ _ t

pub group_of-alone : (usage : Usage) (letter : ℕ) (rest : List ℕ) → takes_option_argument usage letter ≡ false → stands_alone usage letter ≡ true → group_of usage (letter ∷ rest) ≡ group_after (lone_option letter) (group_of usage rest)
unfolding group_of
group_of-alone usage letter rest t f = cond-false _ _ _ t ∙ cond-true _ _ _ f

pub group_of-other : (usage : Usage) (letter : ℕ) (rest : List ℕ) → takes_option_argument usage letter ≡ false → stands_alone usage letter ≡ false → group_of usage (letter ∷ rest) ≡ None
unfolding group_of
group_of-other usage letter rest t f = cond-false _ _ _ t ∙ cond-false _ _ _ f

pub group_of-nil : (usage : Usage) → group_of usage [] ≡ Some (record { options = []; waiting = None })
unfolding group_of
group_of-nil usage = refl

last_of_group-rest : (options : List CommandOption) (letter : ℕ) (rest : List ℕ) → 0 < length rest → group_after options (Some (last_of_group letter rest)) ≡ Some (record { options = options ++ option_with letter rest; waiting = None })
last_of_group-rest options letter [] some = absurd (omega arith)
last_of_group-rest options letter (c ∷ cs) some = refl

-- at the letter i of a word, where the letters from i on give `whole` after the options so far
module _ (usage : Usage) (word : List ℕ) (options : List CommandOption) (i letter : ℕ) (whole : Option Group) (within : i < length word) (here : letter ≡ get_or word i 0) (so_far : group_after options (group_of usage (drop i word)) ≡ whole) where
  from_here : whole ≡ group_after options (group_of usage (letter ∷ drop (i + 1) word))
  from_here = sym so_far ∙ ap (λ group. group_after options (group_of usage group)) (drop_more word i 0 within ∙ ap (λ c. c ∷ drop (i + 1) word) (sym here))

  -- its option-argument is the next word
  pub option_argument_apart : takes_option_argument usage letter ≡ true → i + 1 ≡ length word → whole ≡ Some (record { options = options; waiting = Some letter })
  option_argument_apart t last =
      from_here
      ∙ ap (λ rest. group_after options (group_of usage (letter ∷ rest))) (drop_all (i + 1) word (omega arith))
      ∙ ap (group_after options) (group_of-option_argument usage letter [] t)
      ∙ ap (λ os. Some (record { options = os; waiting = Some letter })) (append-nil options)

  -- its option-argument is the rest of the word
  pub option_argument_joined : (option_argument : List ℕ) (new : List CommandOption) → takes_option_argument usage letter ≡ true → i + 1 < length word → option_argument ≡ drop (i + 1) word → new ≡ options ++ option_with letter option_argument → whole ≡ Some (record { options = new; waiting = None })
  option_argument_joined option_argument new t more is added =
      from_here
      ∙ ap (group_after options) (group_of-option_argument usage letter (drop (i + 1) word) t)
      ∙ last_of_group-rest options letter (drop (i + 1) word) (omega (arith, length-drop (i + 1) word))
      ∙ ap (λ a. Some (record { options = options ++ option_with letter a; waiting = None })) (sym is)
      ∙ ap (λ os. Some (record { options = os; waiting = None })) (sym added)

  -- it stands alone
  pub alone_taken : (new : List CommandOption) → takes_option_argument usage letter ≡ false → stands_alone usage letter ≡ true → new ≡ options ++ lone_option letter → group_after new (group_of usage (drop (i + 1) word)) ≡ whole
  alone_taken new t f added =
      ap (λ os. group_after os (group_of usage (drop (i + 1) word))) added
      ∙ group_after-append options _ (group_of usage (drop (i + 1) word))
      ∙ ap (group_after options) (sym (group_of-alone usage letter (drop (i + 1) word) t f))
      ∙ sym from_here

  -- it is no letter of the command
  pub letter_refused : takes_option_argument usage letter ≡ false → stands_alone usage letter ≡ false → whole ≡ None
  letter_refused t f = from_here ∙ ap (group_after options) (group_of-other usage letter (drop (i + 1) word) t f)

-- at the end of a word
pub group_ended : (usage : Usage) (word : List ℕ) (options : List CommandOption) (i : ℕ) (whole : Option Group) → length word ≤ i → group_after options (group_of usage (drop i word)) ≡ whole → whole ≡ Some (record { options = options; waiting = None })
group_ended usage word options i whole past so_far =
    sym so_far
    ∙ ap (λ group. group_after options (group_of usage group)) (drop_all i word past)
    ∙ ap (group_after options) (group_of-nil usage)
    ∙ ap (λ os. Some (record { options = os; waiting = None })) (append-nil options)
