-- The values of words, one after another.
use Rattle.std.proofs.Common.{◌≡◌, ◌++◌, ◌+◌, ◌<◌, ◌≤◌, List, [], ◌∷◌, ℕ, length, drop, get_or, Option, Some, None, option_map, Ok, Err, refl, sym, ap, ◌∙◌, append_assoc}
use Rattle.std.proofs.lemmas.List.{append-nil, drop_more, drop_all}
use Rattle.elfkit_words.specs.declared.faults.Fault.{Fault}
use Rattle.elfkit_words.specs.declared.faults.Fault.TheVariants.{Memory, Words}
use Rattle.elfkit_words.specs.Reading.{all_values, ◌>>=◌}
use Rattle.elfkit_words.specs.Splitting.{AddsValue, FollowsWords}

-- behind no values
behind_none : {X : Type 0} (o : Option (List X)) → option_map (λ xs. [] ++ xs) o ≡ o
behind_none None = refl
behind_none (Some xs) = refl

module _ {X : Type 0} (value : List ℕ → Option X) where
  -- the value of a word and those of the words after it
  abbrev with_value : Option X → Option (List X) → Option (List X)
  with_value o later = o >>= λ x. later >>= λ xs. Some (x ∷ xs)

  first_value : (word : List ℕ) (words : List (List ℕ))
      → all_values value (word ∷ words) ≡ with_value (value word) (all_values value words)
  unfolding all_values
  first_value word words = refl

  -- a value more before the later ones
  one_more : (values new : List X) (o : Option X) (later : Option (List X))
      → option_map (λ x. values ++ x ∷ []) o ≡ Some new
      → option_map (λ xs. new ++ xs) later ≡ option_map (λ xs. values ++ xs) (with_value o later)
  one_more values new None later is = cc
  one_more values new (Some x) None is = refl
  one_more values new (Some x) (Some xs) is =
      let same : values ++ x ∷ [] ≡ new = cc in
      ap Some (ap (λ l. l ++ xs) (sym same) ∙ append_assoc values (x ∷ []) xs)

  module _ (words : List (List ℕ)) where
    pub values_begun : option_map (λ xs. [] ++ xs) (all_values value words) ≡ all_values value words
    values_begun = behind_none (all_values value words)

    module _ (i : ℕ) (word default : List ℕ) (values : List X)
        (so_far : option_map (λ xs. values ++ xs) (all_values value (drop i words))
        ≡ all_values value words) (within : i < length words)
        (here : word ≡ get_or words i default) (new : List X) where
      -- from this word on
      from_here : option_map (λ xs. values ++ xs)
          (with_value (value word) (all_values value (drop (i + 1) words)))
          ≡ all_values value words
      from_here =
          ap (option_map (λ xs. values ++ xs)) (sym (first_value word (drop (i + 1) words))
          ∙ ap (all_values value) (ap (λ w. w ∷ drop (i + 1) words) here
          ∙ sym (drop_more words i default within)))
          ∙ so_far

      pub value_taken : AddsValue (value word) values new (Ok (tt {0}))
          → option_map (λ xs. new ++ xs) (all_values value (drop (i + 1) words))
          ≡ all_values value words
      value_taken added =
          one_more values new (value word) (all_values value (drop (i + 1) words)) added
          ∙ from_here

      pub value_missed : (fault : Fault)
          → AddsValue {Y = Unit {0}} (value word) values new (Err fault)
          → FollowsWords (Err fault) (all_values value words)
      value_missed Words none =
          sym from_here
          ∙ ap (λ o. option_map (λ xs. values ++ xs)
          (with_value o (all_values value (drop (i + 1) words)))) none
      value_missed Memory none = tt

    pub values_ended : (i : ℕ) (values : List X)
        → option_map (λ xs. values ++ xs) (all_values value (drop i words))
        ≡ all_values value words
        → length words ≤ i → all_values value words ≡ Some values
    unfolding all_values
    values_ended i values so_far past =
        sym so_far
        ∙ ap (λ ws. option_map (λ xs. values ++ xs) (all_values value ws)) (drop_all i words past)
        ∙ ap Some (append-nil values)
