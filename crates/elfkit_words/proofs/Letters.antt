-- The option letters: they are ASCII, none of them is a dash, and none is of both kinds.
use Rattle.std.proofs.Common.{◌≡◌, ◌==◌, ◌<◌, List, [], ◌∷◌, ℕ, Bool, true, false, not, nat_lt, refl, subst, ⊎_elim}
use Rattle.std.specs.Bool.{OnTrue}
use Rattle.std.specs.List.{list_any, list_all}
use Rattle.std.specs.Str.{byte}
use Rattle.std.proofs.lemmas.Bool.{and_parts, or_cases, ltb-true, eqb-true, false≢true, not-true, OnTrue_from}
use Rattle.elfkit_words.specs.declared.usages.Usage.{Usage}
use Rattle.elfkit_words.specs.declared.usages.Usage.TheVariants.{Readelf, Nm, Size, Strings, Strip, Elflint, Calls, Selftest, Rehash, Copy, Unstrip, Lines, General}
use Rattle.elfkit_words.specs.Usages.{letters_alone, letters_with_option_argument}
use Rattle.elfkit_words.specs.Usages.{stands_alone, takes_option_argument}

-- what holds of all letters holds of one of them
member_passes : (test : ℕ → Bool) (letters : List ℕ) (letter : ℕ) → list_all test letters ≡ true → list_any (λ c. c == letter) letters ≡ true → test letter ≡ true
member_passes test [] letter all here = absurd (false≢true here)
member_passes test (c ∷ cs) letter all here =
    let p = and_parts _ _ all in
    ⊎_elim (λ e. subst (λ x. test x ≡ true) (eqb-true _ _ e) p.0) (member_passes test cs letter p.1) (or_cases _ _ here)

small_letters : (usage : Usage) → list_all (λ c. nat_lt c 128) (letters_with_option_argument usage) ≡ true
unfolding letters_with_option_argument
small_letters Readelf = refl
small_letters Nm = refl
small_letters Size = refl
small_letters Strings = refl
small_letters Strip = refl
small_letters Elflint = refl
small_letters Calls = refl
small_letters Selftest = refl
small_letters Rehash = refl
small_letters Copy = refl
small_letters Unstrip = refl
small_letters Lines = refl
small_letters General = refl

pub ascii_letter : (usage : Usage) (letter : ℕ) (r : Bool) → r ≡ takes_option_argument usage letter → OnTrue r (letter < 128)
ascii_letter usage letter r e =
    OnTrue_from r _ (λ t. ltb-true _ _ (member_passes (λ c. nat_lt c 128) (letters_with_option_argument usage) letter (small_letters usage) (subst (λ b. b ≡ true) e t)))

kinds_apart : (usage : Usage) → list_all (λ c. not (takes_option_argument usage c)) (letters_alone usage) ≡ true
unfolding letters_alone letters_with_option_argument
kinds_apart Readelf = refl
kinds_apart Nm = refl
kinds_apart Size = refl
kinds_apart Strings = refl
kinds_apart Strip = refl
kinds_apart Elflint = refl
kinds_apart Calls = refl
kinds_apart Selftest = refl
kinds_apart Rehash = refl
kinds_apart Copy = refl
kinds_apart Unstrip = refl
kinds_apart Lines = refl
kinds_apart General = refl

-- a letter that stands alone takes no option-argument
pub lone_letter : (usage : Usage) (letter : ℕ) → stands_alone usage letter ≡ true → takes_option_argument usage letter ≡ false
lone_letter usage letter here =
    not-true _ (member_passes (λ c. not (takes_option_argument usage c)) (letters_alone usage) letter (kinds_apart usage) here)

pub dash_takes_no_option_argument : (usage : Usage) → takes_option_argument usage (byte "-") ≡ false
unfolding letters_with_option_argument
dash_takes_no_option_argument Readelf = refl
dash_takes_no_option_argument Nm = refl
dash_takes_no_option_argument Size = refl
dash_takes_no_option_argument Strings = refl
dash_takes_no_option_argument Strip = refl
dash_takes_no_option_argument Elflint = refl
dash_takes_no_option_argument Calls = refl
dash_takes_no_option_argument Selftest = refl
dash_takes_no_option_argument Rehash = refl
dash_takes_no_option_argument Copy = refl
dash_takes_no_option_argument Unstrip = refl
dash_takes_no_option_argument Lines = refl
dash_takes_no_option_argument General = refl

pub dash_stands_not_alone : (usage : Usage) → stands_alone usage (byte "-") ≡ false
unfolding letters_alone
dash_stands_not_alone Readelf = refl
dash_stands_not_alone Nm = refl
dash_stands_not_alone Size = refl
dash_stands_not_alone Strings = refl
dash_stands_not_alone Strip = refl
dash_stands_not_alone Elflint = refl
dash_stands_not_alone Calls = refl
dash_stands_not_alone Selftest = refl
dash_stands_not_alone Rehash = refl
dash_stands_not_alone Copy = refl
dash_stands_not_alone Unstrip = refl
dash_stands_not_alone Lines = refl
dash_stands_not_alone General = refl
