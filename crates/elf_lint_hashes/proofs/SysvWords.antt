-- The words of a hash section of type SHT_HASH, and the chains that they make.
use Rattle.std.proofs.Common.{◌≡◌, ◌≢◌, ◌⊎◌, inl, inr, ℕ, zero, suc, ◌+◌, ◌<◌, ◌≤◌, Bool, true, false, ◌||◌, List, [], ◌∷◌, ◌++◌, length, take, drop, get_or, Option, Some, None, refl, sym, ap, ◌∙◌, arith}
use Rattle.std.specs.Prelude.{nat_eq, slice_get, slice_index_or}
use Rattle.std.specs.List.{list_any}
use Rattle.std.specs.Option.{option_map}
use Rattle.std.proofs.lemmas.List.{get_or-take, get_or-drop, length-drop, take_all, take_more}
use Rattle.std.proofs.lemmas.Option.{slice_get-get_or, slice_get_past, slice_get_cases}
use Rattle.hash_model.specs.HashSections.{sysv_chain}
use Rattle.hash_model.specs.elf_object.Sections.{is_among}
use Rattle.elf_lint_hashes.specs.declared.sysv.SysvTable.{SysvTable}
use Rattle.elf_lint_hashes.specs.Sysv.{sysv_section_of, chain_has, with_word}

-- ---- Words

get_drop : (k at : ℕ) (xs : List ℕ) → slice_get xs (k + at) ≡ slice_get (drop k xs) at
get_drop k at xs = by_place (slice_get_cases xs (k + at)).1
  where
    by_place : ((x : ℕ) × (k + at < length xs) × (slice_get xs (k + at) ≡ Some x) × (get_or xs (k + at) x ≡ x)) ⊎ ((length xs ≤ k + at) × (slice_get xs (k + at) ≡ None))
        → slice_get xs (k + at) ≡ slice_get (drop k xs) at
    by_place (inl (x, lt, is, same)) =
        is ∙ ap Some (sym same) ∙ ap Some (sym (get_or-drop k xs at x)) ∙ sym (slice_get-get_or (drop k xs) at x (omega (arith, length-drop k xs)))
    by_place (inr (past, is)) = is ∙ sym (slice_get_past (drop k xs) at (omega (arith, length-drop k xs)))

-- words that are read one after another
pub word_more : (words list : List ℕ) (i : ℕ) → list ≡ take i words
    → with_word list (slice_get words i) ≡ take (i + 1) words
unfolding with_word
word_more words list i is = by_place (slice_get_cases words i).1
  where
    by_place : ((x : ℕ) × (i < length words) × (slice_get words i ≡ Some x) × (get_or words i x ≡ x))
        ⊎ ((length words ≤ i) × (slice_get words i ≡ None))
        → with_word list (slice_get words i) ≡ take (i + 1) words
    by_place (inl (x, lt, there, same)) =
        ap (with_word list) there ∙ ap (λ (l : List ℕ). l ++ x ∷ []) is
        ∙ ap (λ (y : ℕ). take i words ++ y ∷ []) (sym same) ∙ sym (take_more words i x lt)
    by_place (inr (past, none)) =
        ap (with_word list) none ∙ is ∙ take_all i words past
        ∙ sym (take_all (i + 1) words (omega (arith, past)))

pub words_all : (words : List ℕ) (i : ℕ) → length words ≤ i → take i words ≡ words
words_all words i past = take_all i words past

pub chain_word : (words : List ℕ) (t : SysvTable) (at : ℕ) → slice_get words (2 + t.nbucket + at) ≡ slice_get (sysv_section_of t words).chains at
chain_word words t at = get_drop (2 + t.nbucket) at words

module _ (words : List ℕ) (t : SysvTable) (b : ℕ) (below : b < t.nbucket) (long : length words ≡ 2 + t.nbucket + t.nchain) where
  -- the first symbol of a bucket
  pub bucket_word : slice_get words (2 + b) ≡ Some (slice_index_or (sysv_section_of t words).buckets b 0)
  bucket_word =
      slice_get-get_or words (2 + b) 0 (omega arith) ∙ ap Some (sym (get_or-drop 2 words b 0)) ∙ ap Some (sym (get_or-take t.nbucket (drop 2 words) b 0 below))

  pub bucket_is : (first : ℕ) → Some first ≡ slice_get words (2 + b) → first ≡ slice_index_or (sysv_section_of t words).buckets b 0
  bucket_is first is = let both = is ∙ bucket_word in cc

  pub bucket_there : None ≡ slice_get words (2 + b) → ⊥
  bucket_there is = let both = is ∙ bucket_word in cc

pub ruleset bucket_rules = (bucket_is, bucket_there)

-- ---- A walk along a chain

module _ (words : List ℕ) (t : SysvTable) (i : ℕ) where
  -- what is left to find out, with what was met so far, within so many steps
  pub left : Bool → ℕ → ℕ → Option Bool
  left met n at = option_map (λ (chain : List ℕ). met || is_among chain i) (sysv_chain (sysv_section_of t words).chains n at)

  or_false : (b : Bool) → (b || false) ≡ b
  or_false true = refl
  or_false false = refl

  or_more : (a b c : Bool) → (a || (b || c)) ≡ ((a || b) || c)
  or_more true b c = refl
  or_more false b c = refl

  map_same : {A B : Type 0} (f g : A → B) → ((x : A) → f x ≡ g x) → (r : Option A) → option_map f r ≡ option_map g r
  map_same f g same None = refl
  map_same f g same (Some x) = ap Some (same x)

  map_map : {A B C : Type 0} (f : B → C) (g : A → B) (r : Option A) → option_map f (option_map g r) ≡ option_map (λ (x : A). f (g x)) r
  map_map f g None = refl
  map_map f g (Some x) = refl

  pub left_begins : (first : ℕ) → left false t.nchain first ≡ chain_has words t first i
  unfolding left chain_has
  left_begins first = refl

  pub left_ends : (met : Bool) (n : ℕ) → Some met ≡ left met n 0
  unfolding left sysv_chain is_among
  left_ends met n = ap Some (sym (or_false met))

  pub left_stops : (met : Bool) (at : ℕ) → at ≢ 0 → None ≡ left met 0 at
  unfolding left sysv_chain
  left_stops met zero other = absurd (other refl)
  left_stops met (suc k) other = refl

  pub left_leaves : (met : Bool) (n at : ℕ) → at ≢ 0 → None ≡ slice_get (sysv_section_of t words).chains at → None ≡ left met (suc n) at
  unfolding left sysv_chain
  left_leaves met n zero other is = absurd (other refl)
  left_leaves met n (suc k) other is =
      ap (λ (got : Option ℕ). option_map (λ (chain : List ℕ). met || is_among chain i)
      (elim got [ None ↦ None | Some next ↦ option_map (λ (later : List ℕ). suc k ∷ later) (sysv_chain (sysv_section_of t words).chains n next) ])) is

  left_same : (met : Bool) (n at next : ℕ) → at ≢ 0 → Some next ≡ slice_get (sysv_section_of t words).chains at
      → left (met || nat_eq i at) n next ≡ left met (suc n) at
  unfolding left sysv_chain is_among
  left_same met n zero next other is = absurd (other refl)
  left_same met n (suc k) next other is =
      let chains = (sysv_section_of t words).chains in
      sym (map_map (λ (chain : List ℕ). met || is_among chain i) (λ (later : List ℕ). suc k ∷ later) (sysv_chain chains n next)
      ∙ map_same (λ (later : List ℕ). met || (nat_eq i (suc k) || list_any (nat_eq i) later)) (λ (later : List ℕ). (met || nat_eq i (suc k)) || list_any (nat_eq i) later)
      (λ later. or_more met (nat_eq i (suc k)) (list_any (nat_eq i) later)) (sysv_chain chains n next))
      ∙ ap (λ (got : Option ℕ). option_map (λ (chain : List ℕ). met || is_among chain i)
      (elim got [ None ↦ None | Some m ↦ option_map (λ (later : List ℕ). suc k ∷ later) (sysv_chain chains n m) ])) is

  -- one step more of so many
  pub left_more : (met : Bool) (n m at shown next : ℕ) → m ≡ suc n → shown ≡ at → at ≢ 0 → Some next ≡ slice_get (sysv_section_of t words).chains at
      → left (met || nat_eq i shown) n next ≡ left met m at
  left_more met n m at shown next one same other is =
      ap (λ (k : ℕ). left (met || nat_eq i k) n next) same ∙ left_same met n at next other is ∙ ap (λ (k : ℕ). left met k at) (sym one)

  pub left_past : (met : Bool) (n m at : ℕ) → m ≡ suc n → at ≢ 0 → None ≡ slice_get (sysv_section_of t words).chains at → None ≡ left met m at
  left_past met n m at one other is = left_leaves met n at other is ∙ ap (λ (k : ℕ). left met k at) (sym one)
