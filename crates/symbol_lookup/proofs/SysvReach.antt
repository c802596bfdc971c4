-- In a section of type SHT_HASH that is whole, a walk goes over the chain of its bucket.
use Rattle.std.proofs.Common.{◌≡◌, ℕ, zero, suc, ◌+◌, ◌*◌, ◌%◌, ◌<◌, Bool, true, eqb, List, [], ◌∷◌, length, get_or, take, drop, Option, Some, None, Result, Ok, Err, refl, sym, ap, ◌∙◌, arith}
use Rattle.std.specs.Prelude.{not, slice_get, if◌then◌else◌}
use Rattle.std.specs.Option.{option_map}
use Rattle.std.specs.List.{list_all}
use Rattle.std.proofs.lemmas.Bool.{lt-ltb, eqb-true, ne_eqb}
use Rattle.std.proofs.lemmas.List.{get_or-take, get_or-drop, length-drop, length-take-le}
use Rattle.std.proofs.lemmas.Option.{slice_get_within, slice_get-get_or, get_or_from_slice_get}
use Rattle.elf_types.specs.Answers.{or_refused, ◌>>=◌}
use Rattle.elf_types.specs.declared.errors.ElfError.{ElfError}
use Rattle.elf_types.specs.declared.errors.ElfError.TheVariants.{BadChain}
use Rattle.hash_model.specs.elf_object.Words.{result_map}
use Rattle.hash_model.specs.Hashes.{elf_hash}
use Rattle.hash_model.specs.HashSections.{sysv_in, sysv_chain, sysv_chain_of, is_whole_sysv, ends, is_on, each_listed}
use Rattle.symbol_lookup.specs.declared.walks.WalkStep.{WalkStep}
use Rattle.symbol_lookup.specs.declared.walks.Links.TheVariants as links
use Rattle.symbol_lookup.specs.Walks.{hash_word, nonzero_count, sysv_buckets, sysv_bucket, sysv_behind, sysv_start, sysv_next, walk_from}
use Rattle.symbol_lookup.proofs.LeastLaws.{listed_at, all_at, all_six}

-- ---- A step of a walk

pub walked : (next : ℕ → Result WalkStep ElfError) (n at i : ℕ) (step : WalkStep) (later : List ℕ) → next (suc i) ≡ Ok step → walk_from next n step.at step.symbol ≡ Ok later
    → walk_from next (suc n) at (suc i) ≡ Ok (suc i ∷ later)
unfolding walk_from
walked next n at i step later came rest =
    ap (λ (r : Result WalkStep ElfError). r >>= (λ step. result_map (λ later. suc i ∷ later) (walk_from next n step.at step.symbol))) came
    ∙ ap (result_map (λ later. suc i ∷ later)) rest

-- a walk that stands at 0 has ended
pub walk_ends : (next : ℕ → Result WalkStep ElfError) (n at i : ℕ) → i ≡ 0 → walk_from next n at i ≡ Ok []
unfolding walk_from
walk_ends next n at zero is = refl
walk_ends next n at (suc i) is = absurd (omega arith)

-- ---- Words

word_at : (words : List ℕ) (i : ℕ) → i < length words → hash_word words i ≡ Ok (get_or words i 0)
unfolding hash_word
word_at words i below = ap (λ (found : Option ℕ). or_refused found (BadChain (4 * i))) (slice_get-get_or words i 0 below)

-- ---- Chains

module _ (words : List ℕ) (nbucket nchain : ℕ) (count : length words ≡ 2 + nbucket + nchain) where
  abbrev chains : List ℕ
  chains = drop (2 + nbucket) words

  next_is : (i next : ℕ) → slice_get chains i ≡ Some next → sysv_next words nbucket nchain i ≡ Ok (record { at = 4 * (2 + nbucket + i); symbol = next })
  unfolding sysv_next
  next_is i next there =
      let below : i < length chains = slice_get_within chains i next there in
      let long = length-drop (2 + nbucket) words in
      let short : i < nchain = omega (arith, below, long, count) in
      let within : 2 + nbucket + i < length words = omega (arith, short, count) in
      let found : get_or words (2 + nbucket + i) 0 ≡ next = sym (get_or-drop (2 + nbucket) words i 0) ∙ get_or_from_slice_get chains i next 0 there in
      ap (λ (b : Bool). if b then result_map (λ next. record { at = 4 * (2 + nbucket + i); symbol = next }) (hash_word words (2 + nbucket + i)) else Err (BadChain (4 * (2 + nbucket + i)))) (lt-ltb i nchain short)
      ∙ ap (result_map (λ next. record { at = 4 * (2 + nbucket + i); symbol = next })) (word_at words (2 + nbucket + i) within)
      ∙ ap (λ (n : ℕ). Ok (record { at = 4 * (2 + nbucket + i); symbol = n })) found

  -- a chain that ends is what the walk goes over
  pub chain_walked : (n at i : ℕ) (l : List ℕ) → sysv_chain chains n i ≡ Some l → walk_from (sysv_next words nbucket nchain) n at i ≡ Ok l
  unfolding sysv_chain walk_from
  chain_walked n at zero l is = cc
  chain_walked zero at (suc i) l is = cc
  chain_walked (suc n) at (suc i) l is = by_next (slice_get chains (suc i)) refl is (λ at next later ends. chain_walked n at next later ends)
    where
      by_later : (next : ℕ) → slice_get chains (suc i) ≡ Some next → (rest : Option (List ℕ)) → sysv_chain chains n next ≡ rest → option_map (λ later. suc i ∷ later) rest ≡ Some l
          → ((at next : ℕ) (later : List ℕ) → sysv_chain chains n next ≡ Some later → walk_from (sysv_next words nbucket nchain) n at next ≡ Ok later)
          → walk_from (sysv_next words nbucket nchain) (suc n) at (suc i) ≡ Ok l
      by_later next there None rest is on = cc
      by_later next there (Some later) rest is on =
          let whole : suc i ∷ later ≡ l = cc in
          walked (sysv_next words nbucket nchain) n at i (record { at = 4 * (2 + nbucket + suc i); symbol = next }) later (next_is (suc i) next there) (on (4 * (2 + nbucket + suc i)) next later rest)
          ∙ ap Ok whole

      by_next : (there : Option ℕ) → slice_get chains (suc i) ≡ there → ◌≡◌ {A = Option (List ℕ)} (elim there [ None ↦ None | Some next ↦ option_map (λ later. suc i ∷ later) (sysv_chain chains n next) ]) (Some l)
          → ((at next : ℕ) (later : List ℕ) → sysv_chain chains n next ≡ Some later → walk_from (sysv_next words nbucket nchain) n at next ≡ Ok later)
          → walk_from (sysv_next words nbucket nchain) (suc n) at (suc i) ≡ Ok l
      by_next None known is on = cc
      by_next (Some next) known is on = by_later next known (sysv_chain chains n next) refl is on

-- ---- Where a walk begins

pub start_is : (words : List ℕ) (nbucket nchain hash : ℕ) → get_or words 0 0 ≡ nbucket → get_or words 1 0 ≡ nchain → 0 < nbucket → length words ≡ 2 + nbucket + nchain
    → sysv_start words hash ≡ Ok (record { links = links.Sysv nbucket nchain; step = record { at = 4 * (2 + hash % nbucket); symbol = get_or words (2 + hash % nbucket) 0 } })
unfolding sysv_start sysv_buckets sysv_behind sysv_bucket nonzero_count
start_is words nbucket nchain hash first second some count =
    let zero_in : 0 < length words = omega (arith, count) in
    let one_in : 1 < length words = omega (arith, count, some) in
    let bucket_in : 2 + hash % nbucket < length words = omega (arith, count, some) in
    let buckets : sysv_buckets words ≡ Ok nbucket =
    ap (λ (r : Result ℕ ElfError). r >>= nonzero_count 0) (word_at words 0 zero_in)
    ∙ ap (λ (n : ℕ). nonzero_count 0 n) first
    ∙ ap (λ (b : Bool). if b then Err (BadChain 0) else Ok nbucket) (ne_eqb nbucket 0 (λ is. absurd (omega (arith, is, some)))) in
    ap (λ (r : Result ℕ ElfError). r >>= sysv_behind words hash) buckets
    ∙ ap (λ (r : Result ℕ ElfError). r >>= sysv_bucket words hash nbucket) (word_at words 1 one_in)
    ∙ ap (λ (n : ℕ). sysv_bucket words hash nbucket n) second
    ∙ ap (result_map (λ first. record { links = links.Sysv nbucket nchain; step = record { at = 4 * (2 + hash % nbucket); symbol = first } })) (word_at words (2 + hash % nbucket) bucket_in)

-- ---- A whole section

pub record IsWhole (words : List ℕ) (names : List (Option (List ℕ))) : Type 0 where
  pub some : 0 < get_or words 0 0
  pub count : length words ≡ 2 + get_or words 0 0 + length names
  pub symbols : get_or words 1 0 ≡ length names
  pub chain : (hash : ℕ) → (l : List ℕ) × (sysv_chain (drop (2 + get_or words 0 0) words) (length names) (get_or words (2 + hash % get_or words 0 0) 0) ≡ Some l)
  pub within : (k : ℕ) (name : List ℕ) → k < length names → get_or names k None ≡ Some name
      → is_on k (sysv_chain (drop (2 + get_or words 0 0) words) (length names) (get_or words (2 + elf_hash name % get_or words 0 0) 0)) ≡ true

pub positive : (n : ℕ) → not (eqb n 0) ≡ true → 0 < n
positive zero some = cc
positive (suc n) some = omega arith

pub ended : {A : Type 0} (chain : Option A) → ends chain ≡ true → (l : A) × (chain ≡ Some l)
ended None is = cc
ended (Some l) is = (l, refl)

whole_parts : (words : List ℕ) (names : List (Option (List ℕ))) → is_whole_sysv words names ≡ true
    → (not (eqb (get_or words 0 0) 0) ≡ true)
    × (eqb (get_or words 1 0) (length names) ≡ true)
    × (eqb (length words) (2 + get_or words 0 0 + get_or words 1 0) ≡ true)
    × (list_all (λ first. ends (sysv_chain (sysv_in words).chains (length (sysv_in words).chains) first)) (sysv_in words).buckets ≡ true)
    × (each_listed (λ i name. is_on i (sysv_chain_of (sysv_in words) (elf_hash name))) names ≡ true)
unfolding is_whole_sysv
whole_parts words names whole = let parts = all_six _ _ _ _ _ _ whole in (parts.1, parts.2, parts.3, parts.4, parts.5)

pub is_whole : (words : List ℕ) (names : List (Option (List ℕ))) → is_whole_sysv words names ≡ true → IsWhole words names
unfolding sysv_in sysv_chain_of
is_whole words names whole =
    let nbucket : ℕ = get_or words 0 0 in
    let buckets : List ℕ = take nbucket (drop 2 words) in
    let chains : List ℕ = drop (2 + nbucket) words in
    let parts = whole_parts words names whole in
    let some : 0 < nbucket = positive nbucket parts.0 in
    let symbols : get_or words 1 0 ≡ length names = eqb-true (get_or words 1 0) (length names) parts.1 in
    let count : length words ≡ 2 + nbucket + length names = eqb-true (length words) (2 + nbucket + get_or words 1 0) parts.2 ∙ ap (λ (n : ℕ). 2 + nbucket + n) symbols in
    let many : length buckets ≡ nbucket = length-take-le nbucket (drop 2 words) (omega (arith, count, length-drop 2 words)) in
    let links : length chains ≡ length names = omega (arith, count, length-drop (2 + nbucket) words) in
    let first : (hash : ℕ) → get_or buckets (hash % nbucket) 0 ≡ get_or words (2 + hash % nbucket) 0 =
    λ hash. get_or-take nbucket (drop 2 words) (hash % nbucket) 0 (omega (arith, some)) ∙ get_or-drop 2 words (hash % nbucket) 0 in
    let same : (hash : ℕ) → sysv_chain chains (length chains) (get_or buckets (hash % nbucket) 0) ≡ sysv_chain chains (length names) (get_or words (2 + hash % nbucket) 0) =
    λ hash. ap (λ (n : ℕ). sysv_chain chains n (get_or buckets (hash % nbucket) 0)) links ∙ ap (sysv_chain chains (length names)) (first hash) in
    record {
      some = some;
      count = count;
      symbols = symbols;
      chain = λ hash.
          ended _
          (ap ends (sym (same hash))
          ∙ all_at (λ first. ends (sysv_chain chains (length chains) first)) buckets parts.3 (hash % nbucket) 0 (omega (arith, some, many)));
      within = λ k name below at.
          ap (is_on k) (sym (same (elf_hash name)))
          ∙ ap (λ (n : ℕ). is_on k (sysv_chain chains (length chains) (get_or buckets (elf_hash name % n) 0))) (sym many)
          ∙ listed_at (λ i name. is_on i (sysv_chain_of (sysv_in words) (elf_hash name))) names parts.4 k name below at;
    }
