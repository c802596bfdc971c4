-- The first end of a name in a text, found place by place.
use Rattle.std.proofs.Common.{◌≡◌, ℕ, ◌+◌, ◌<◌, ◌≤◌, Bool, true, false, cond, ltb, position, nat_eq, ◌==◌, codes, List, [], ◌∷◌, ◌++◌, length, get_or, take, drop, Option, Some, None, refl, sym, ap, ◌∙◌, append_assoc}
use Rattle.std.specs.Option.{option_map}
use Rattle.std.specs.List.{position_or_len, before_first, starts_with}
use Rattle.std.proofs.lemmas.List.{drop_more, take_more, take_all}
use Rattle.std.proofs.lemmas.Bool.{ltb-false}
use Rattle.std.proofs.lemmas.Option.{none-some}
use Rattle.ar_members.specs.Names.{ends_name, up_to_end, short_of_text}

-- no name ends before the place, so the name is what stands before it and what follows up to the end
pub record EndsFrom (text : List ℕ) (i : ℕ) : Type 0 where
  pub split : up_to_end text ≡ option_map (λ name. take i text ++ name) (up_to_end (drop i text))

map_same : (o : Option (List ℕ)) → o ≡ option_map (λ name. [] ++ name) o
map_same None = refl
map_same (Some name) = refl

map_cons : (front : List ℕ) (b : ℕ) (o : Option (List ℕ)) → option_map (λ name. front ++ name) (option_map (λ name. b ∷ name) o) ≡ option_map (λ name. (front ++ b ∷ []) ++ name) o
map_cons front b None = refl
map_cons front b (Some name) = ap Some (sym (append_assoc front (b ∷ []) name))

-- what a text without an end at the place gives from it on
step : (text : List ℕ) (i : ℕ) → i < length text → ends_name (drop i text) ≡ false → up_to_end (drop i text) ≡ option_map (λ name. get_or text i 0 ∷ name) (up_to_end (drop (i + 1) text))
step text i within not_here =
    let cons = drop_more text i 0 within in
    let at_cons : ends_name (get_or text i 0 ∷ drop (i + 1) text) ≡ false = ap ends_name (sym cons) ∙ not_here in
    ap up_to_end cons ∙ ap (λ b. cond b (Some []) (option_map (λ name. get_or text i 0 ∷ name) (up_to_end (drop (i + 1) text)))) at_cons

pub ends_from_more : (text : List ℕ) (i : ℕ) → i < length text → ends_name (drop i text) ≡ false → EndsFrom text i → EndsFrom text (i + 1)
ends_from_more text i within not_here so_far = record {
  split = so_far.split
      ∙ ap (option_map (λ name. take i text ++ name)) (step text i within not_here)
      ∙ map_cons (take i text) (get_or text i 0) (up_to_end (drop (i + 1) text))
      ∙ ap (λ front. option_map (λ name. front ++ name) (up_to_end (drop (i + 1) text))) (sym (take_more text i 0 within));
}

-- where no element passes, all stand before the first that does
pub whole_without_first : {X : Type 0} (p : X → Bool) (xs : List X) → None ≡ position p xs → before_first p xs ≡ xs
whole_without_first p xs none =
    take_all (position_or_len p xs) xs (past (ltb (position_or_len p xs) (length xs)) refl (sym none))
  where
    past : (b : Bool) → ltb (position_or_len p xs) (length xs) ≡ b → cond b (Some (position_or_len p xs)) None ≡ None → length xs ≤ position_or_len p xs
    past true is same = absurd (none-some _ (sym same))
    past false is same = ltb-false _ _ is

-- a short name without a slash is whole
pub short_without_slash : (name : List ℕ) → starts_with nat_eq name (codes "#1/") ≡ false → None ≡ position (λ b. b == 47) name → name ≡ short_of_text name
short_without_slash name resolved none =
    sym (ap (λ b. cond b name (before_first (λ b. b == 47) name)) resolved ∙ whole_without_first (λ b. b == 47) name none)
