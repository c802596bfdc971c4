-- What the folds over options say, step by step.
use Rattle.std.proofs.Common.{◌-◌, slice_get, ◌≡◌, ◌++◌, ◌+◌, ◌<◌, List, [], ◌∷◌, ℕ, length, take, get_or, Option, Some, None, option_to_list, refl, sym, ap, ◌∙◌, arith}
use Rattle.std.specs.List.{last_or, filter_map, cons_option}
use Rattle.std.proofs.lemmas.List.{take_more}
use Rattle.std.proofs.lemmas.List.Elements.{filter_map-append}
use Rattle.elfkit_words.specs.declared.splitting.CommandOption.{CommandOption}
use Rattle.tool_text.specs.Arguments.{last}
use Rattle.elfkit_words.specs.Reading.{option_arguments, option_argument_of}

one_option_argument : (a : Option (List ℕ)) → cons_option a [] ≡ option_to_list a
one_option_argument None = refl
one_option_argument (Some x) = refl

-- the option-argument of one option more
pub option_arguments_more : (letter : ℕ) (options : List CommandOption) (i : ℕ) (o : CommandOption) (words new : List (List ℕ)) (option_argument : Option (List ℕ)) → i < length options → o ≡ get_or options i o → words ≡ option_arguments letter (take i options) → option_argument_of letter o ≡ option_argument → new ≡ words ++ option_to_list option_argument → new ≡ option_arguments letter (take (i + 1) options)
unfolding option_arguments
option_arguments_more letter options i o words new option_argument within here so_far is added =
    let more : take (i + 1) options ≡ take i options ++ o ∷ [] = take_more options i o within ∙ ap (λ x. take i options ++ x ∷ []) (sym here) in
    added
    ∙ ap (λ ws. ws ++ option_to_list option_argument) so_far
    ∙ ap (λ ws. filter_map (option_argument_of letter) (take i options) ++ ws) (sym (one_option_argument option_argument) ∙ ap (λ a. cons_option a []) (sym is))
    ∙ sym (ap (filter_map (option_argument_of letter)) more ∙ filter_map-append (option_argument_of letter) (take i options) (o ∷ []))

-- the last item by its index
pub last_read : {X : Type 0} (xs : List X) → slice_get xs (length xs - 1) ≡ last xs
unfolding last
last_read [] = refl
last_read (x ∷ xs) = ap (slice_get (x ∷ xs)) (omega arith) ∙ by_length None x xs
  where
    by_length : {X : Type 0} (o : Option X) (x : X) (xs : List X) → slice_get (x ∷ xs) (length xs) ≡ last_or o (x ∷ xs)
    by_length o x [] = refl
    by_length o x (y ∷ ys) = by_length (Some x) y ys
