-- The hash section of type SHT_HASH that is built is whole: the chain of a bucket has the symbols
-- of the bucket in their order.
use Rattle.std.proofs.Common.{◌≡◌, ◌+◌, ◌-◌, ◌%◌, ◌<◌, ◌≤◌, ℕ, zero, suc, Bool, true, false, cond, ◌==◌, List, [], ◌∷◌, ◌++◌, length, get_or, drop, map, Option, Some, None, refl, sym, ap, ◌∙◌, mod-lt, arith}
use Rattle.std.specs.Prelude.{filter, slice_get}
use Rattle.std.specs.Option.{option_map}
use Rattle.std.specs.List.{range_with_len, list_all}
use Rattle.std.proofs.lemmas.Bool.{le-leb, eq-eqb, ne_eqb, not_from_false}
use Rattle.std.proofs.lemmas.List.{length-map, length-append, take_at, drop_at}
use Rattle.std.proofs.lemmas.List.Folds.{list_all-map}
use Rattle.std.proofs.lemmas.List.FromFn.{length-map-range_with_len, get_or-map-range_with_len}
use Rattle.std.proofs.lemmas.Option.{slice_get-get_or}
use Rattle.rebuild_model.specs.hash_model.Hashes.{elf_hash}
use Rattle.rebuild_model.specs.hash_model.HashSections.{SysvHash, sysv_words, sysv_in, sysv_chain, sysv_chain_of, is_on, is_whole_sysv, ends, each_listed}
use Rattle.rebuild_model.specs.hash_model.BuiltHashes.{buckets_of, in_bucket, is_in, first_in, next_in, sysv_built}
use Rattle.hash_build.proofs.ListedLaws.{option_at}
use Rattle.hash_build.proofs.RangeLaws.{is_here, first_at, first_none, first_step, first_all, next_some}
use Rattle.law_hash.proofs.NameLaws.{each_is, each_passes, six, among, in_some, in_its}

-- ---- Along a chain

-- a symbol, and those behind the one that its chain word names
step : (nexts : List ℕ) (fuel n low next : ℕ) (later : List ℕ) → fuel ≡ suc n → 0 < low
    → slice_get nexts low ≡ Some next → sysv_chain nexts n next ≡ Some later
    → sysv_chain nexts fuel low ≡ Some (low ∷ later)
unfolding sysv_chain
step nexts fuel n zero next later more some there rest = absurd (omega (arith, some))
step nexts fuel n (suc i) next later more some there rest =
    ap (λ (k : ℕ). sysv_chain nexts k (suc i)) more
    ∙ ap (λ (got : Option ℕ). elim got [
      | None ↦ None
      | Some m ↦ option_map (λ (l : List ℕ). suc i ∷ l) (sysv_chain nexts n m)
    ]) there
    ∙ ap (option_map (λ (l : List ℕ). suc i ∷ l)) rest

no_more : (nexts : List ℕ) (fuel i : ℕ) → i ≡ 0 → sysv_chain nexts fuel i ≡ Some []
unfolding sysv_chain
no_more nexts fuel zero none = refl
no_more nexts fuel (suc i) none = absurd (omega (arith, none))

module _ (buckets : List (Option ℕ)) (n : ℕ) (long : length buckets ≡ n) where
  abbrev nexts : List ℕ
  nexts = map (next_in buckets) (range_with_len 0 n)

  -- the symbols of a bucket among so many from one on
  abbrev those : ℕ → ℕ → ℕ → List ℕ
  those b low m = filter (is_here buckets b) (range_with_len low m)

  those_by : (b low m : ℕ) (t : Bool) → is_here buckets b low ≡ t
      → those b low (suc m) ≡ cond t (low ∷ those b (low + 1) m) (those b (low + 1) m)
  those_by b low m t known =
      ap (λ (s : Bool). cond s (low ∷ those b (low + 1) m) (those b (low + 1) m)) known

  first_by : (b low m : ℕ) (t : Bool) → is_here buckets b low ≡ t
      → first_at buckets b low (suc m) ≡ cond t low (first_at buckets b (low + 1) m)
  first_by b low m t known =
      first_step buckets b low m
      ∙ ap (λ (s : Bool). cond s low (first_at buckets b (low + 1) m)) known

  next_word : (b low m : ℕ) → is_here buckets b low ≡ true → low + suc m ≡ n
      → slice_get nexts low ≡ Some (first_at buckets b (low + 1) m)
  next_word b low m here whole =
      let many : length nexts ≡ n = length-map-range_with_len (next_in buckets) 0 n in
      let next : suc low ≡ low + 1 = omega arith in
      slice_get-get_or nexts low 0 (omega (arith, many, whole))
      ∙ ap Some
      (get_or-map-range_with_len (next_in buckets) 0 n low low 0 (omega (arith, whole))
      (omega arith)
      ∙ next_some buckets low b m (in_some b (get_or buckets low None) here)
      (omega (arith, whole, long))
      ∙ ap (λ (k : ℕ). first_at buckets b k m) next)

  -- the chain from the first of these symbols on has them all
  chain_from : (b m low fuel : ℕ) → 0 < low → low + m ≡ n → m ≤ fuel
      → sysv_chain nexts fuel (first_at buckets b low m) ≡ Some (those b low m)
  chain_from b zero low fuel some whole enough =
      no_more nexts fuel (first_at buckets b low 0) (first_none buckets b low)
  chain_from b (suc m) low fuel some whole enough =
      by (λ k many. chain_from b m (low + 1) k (omega arith) (omega (arith, whole)) many)
      (is_here buckets b low) refl
    where
      by : ((k : ℕ) → m ≤ k → sysv_chain nexts k (first_at buckets b (low + 1) m)
          ≡ Some (those b (low + 1) m)) → (t : Bool) → is_here buckets b low ≡ t
          → sysv_chain nexts fuel (first_at buckets b low (suc m)) ≡ Some (those b low (suc m))
      by later true known =
          ap (sysv_chain nexts fuel) (first_by b low m true known)
          ∙ step nexts fuel (fuel - 1) low (first_at buckets b (low + 1) m)
          (those b (low + 1) m) (omega (arith, enough)) some (next_word b low m known whole)
          (later (fuel - 1) (omega (arith, enough)))
          ∙ sym (ap Some (those_by b low m true known))
      by later false known =
          ap (sysv_chain nexts fuel) (first_by b low m false known)
          ∙ later fuel (omega (arith, enough))
          ∙ sym (ap Some (those_by b low m false known))

  -- the chain of a bucket has its symbols
  bucket_chain : (b fuel : ℕ) → get_or buckets 0 None ≡ None → n ≤ fuel
      → sysv_chain nexts fuel (first_in buckets b) ≡ Some (in_bucket buckets b)
  unfolding in_bucket
  bucket_chain b fuel first enough =
      ap (sysv_chain nexts fuel) (sym (first_all buckets b))
      ∙ ap (λ (k : ℕ). sysv_chain nexts fuel (first_at buckets b 0 k)) long
      ∙ by n refl
      ∙ sym (ap (λ (k : ℕ). Some (those b 0 k)) long)
    where
      out : is_here buckets b 0 ≡ false
      out = ap (is_in b) first

      by : (k : ℕ) → k ≡ n
          → sysv_chain nexts fuel (first_at buckets b 0 k) ≡ Some (those b 0 k)
      by zero all = no_more nexts fuel (first_at buckets b 0 0) (first_none buckets b 0)
      by (suc m) all =
          ap (sysv_chain nexts fuel) (first_by b 0 m false out)
          ∙ chain_from b m (0 + 1) fuel (omega arith) (omega (arith, all))
          (omega (arith, all, enough))
          ∙ sym (ap Some (those_by b 0 m false out))

-- ---- The section in its words

abbrev made : List ℕ → List ℕ → SysvHash
made buckets chains = record { buckets = buckets; chains = chains }

read_again : (buckets chains : List ℕ)
    → sysv_in (sysv_words (made buckets chains)) ≡ made buckets chains
unfolding sysv_in sysv_words
read_again buckets chains =
    let behind : 2 + length buckets ≡ suc (suc (length buckets)) = omega arith in
    ap (λ (l : List ℕ). made l
    (drop (2 + length buckets) (length buckets ∷ length chains ∷ (buckets ++ chains))))
    (take_at buckets chains (length buckets) refl)
    ∙ ap (λ (k : ℕ). made buckets
    (drop k (length buckets ∷ length chains ∷ (buckets ++ chains)))) behind
    ∙ ap (made buckets) (drop_at buckets chains (length buckets) refl)

abbrev all_end : SysvHash → Bool
all_end h = list_all (λ (first : ℕ). ends (sysv_chain h.chains (length h.chains) first)) h.buckets

abbrev all_on : List (Option (List ℕ)) → SysvHash → Bool
all_on names h = each_listed (λ i name. is_on i (sysv_chain_of h (elf_hash name))) names

whole_words : (buckets chains : List ℕ) (names : List (Option (List ℕ))) → 0 < length buckets
    → length chains ≡ length names → all_end (made buckets chains) ≡ true
    → all_on names (made buckets chains) ≡ true
    → is_whole_sysv (sysv_words (made buckets chains)) names ≡ true
unfolding is_whole_sysv sysv_words
whole_words buckets chains names some count end on =
    let words : List ℕ = length buckets ∷ length chains ∷ (buckets ++ chains) in
    let joined = length-append buckets chains in
    six _ _ _ _ _ _
    (le-leb 2 (length words) (omega (arith, joined)))
    (not_from_false (length buckets == 0)
    (ne_eqb (length buckets) 0 (λ none. absurd (omega (arith, none, some)))))
    (eq-eqb (length chains) (length names) count)
    (eq-eqb (length words) (2 + length buckets + length chains) (omega (arith, joined)))
    (ap all_end (read_again buckets chains) ∙ end)
    (ap (all_on names) (read_again buckets chains) ∙ on)

-- ---- The section that is built

module _ (count : ℕ) (names : List (Option (List ℕ))) (some : 0 < count)
    (first : get_or names 0 None ≡ None) where
  abbrev hashed : List (Option ℕ)
  hashed = buckets_of elf_hash count names

  hashed_at : (i : ℕ)
      → get_or hashed i None ≡ option_map (λ name. elf_hash name % count) (get_or names i None)
  unfolding buckets_of
  hashed_at i = option_at (λ (name : List ℕ). elf_hash name % count) names i

  hashed_long : length hashed ≡ length names
  unfolding buckets_of
  hashed_long = length-map names (option_map (λ (name : List ℕ). elf_hash name % count))

  abbrev firsts : List ℕ
  firsts = map (first_in hashed) (range_with_len 0 count)

  abbrev links : List ℕ
  links = map (next_in hashed) (range_with_len 0 (length names))

  firsts_long : length firsts ≡ count
  firsts_long = length-map-range_with_len (first_in hashed) 0 count

  links_long : length links ≡ length names
  links_long = length-map-range_with_len (next_in hashed) 0 (length names)

  chain_is : (b : ℕ)
      → sysv_chain links (length links) (first_in hashed b) ≡ Some (in_bucket hashed b)
  chain_is b =
      bucket_chain hashed (length names) hashed_long b (length links)
      (hashed_at 0 ∙ ap (option_map (λ (name : List ℕ). elf_hash name % count)) first)
      (omega (arith, links_long))

  chain_of : (hash : ℕ)
      → sysv_chain_of (made firsts links) hash ≡ Some (in_bucket hashed (hash % count))
  unfolding sysv_chain_of
  chain_of hash =
      ap (λ (k : ℕ). sysv_chain links (length links) (get_or firsts (hash % k) 0)) firsts_long
      ∙ ap (sysv_chain links (length links))
      (get_or-map-range_with_len (first_in hashed) 0 count (hash % count) (hash % count) 0
      (mod-lt hash some) (omega arith))
      ∙ chain_is (hash % count)

  every_end : all_end (made firsts links) ≡ true
  every_end =
      list_all-map (λ (k : ℕ). ends (sysv_chain links (length links) k)) (first_in hashed)
      (range_with_len 0 count)
      ∙ each_passes (λ (b : ℕ). ends (sysv_chain links (length links) (first_in hashed b)))
      (λ b. ap ends (chain_is b)) (range_with_len 0 count)

  is_member : (k : ℕ) (name : List ℕ) → k < length names → get_or names k None ≡ Some name
      → is_on k (Some (in_bucket hashed (elf_hash name % count))) ≡ true
  unfolding in_bucket
  is_member k name below at =
      among (is_here hashed (elf_hash name % count)) 0 (length hashed) k (omega arith)
      (omega (arith, below, hashed_long))
      (in_its (elf_hash name % count) (get_or hashed k None)
      (hashed_at k ∙ ap (option_map (λ (x : List ℕ). elf_hash x % count)) at))

  every_on : all_on names (made firsts links) ≡ true
  every_on =
      each_is (λ i name. is_on i (sysv_chain_of (made firsts links) (elf_hash name))) names
      (λ k name below at. ap (is_on k) (chain_of (elf_hash name)) ∙ is_member k name below at)

  pub sysv_whole : is_whole_sysv (sysv_words (sysv_built count names)) names ≡ true
  unfolding sysv_built
  sysv_whole =
      whole_words firsts links names (omega (arith, firsts_long, some)) links_long every_end
      every_on
