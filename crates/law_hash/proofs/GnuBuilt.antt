-- GNU's hash section that is built is whole, where the symbols stand in the order that it needs:
-- the symbols of a bucket stand in a row, which ends with the first end mark.
use Rattle.std.proofs.Common.{◌≡◌, ◌+◌, ◌-◌, ◌*◌, ◌/◌, ◌%◌, ◌^◌, ◌<◌, ◌≤◌, ◌⊎◌, inl, inr, ℕ, zero, suc, Bool, true, false, not, cond, ◌&&◌, List, [], ◌∷◌, length, get_or, map, Option, Some, None, is_none, refl, sym, ap, ◌∙◌, subst, mod-lt, arith}
use Rattle.std.specs.Prelude.{filter, nat_lt, slice_get, if◌then◌else◌}
use Rattle.std.specs.Option.{option_map}
use Rattle.std.specs.List.{fold, list_all, position, range_with_len}
use Rattle.std.proofs.lemmas.Bool.{both_ways, and_from, cases_lt, eq-eqb, ne_eqb, le-leb, lt-ltb, not_from_true}
use Rattle.std.proofs.lemmas.List.{length-map, get_or_past}
use Rattle.std.proofs.lemmas.List.Folds.{list_all-map}
use Rattle.std.proofs.lemmas.List.FromFn.{length-map-range_with_len, get_or-map-range_with_len}
use Rattle.std.proofs.lemmas.List.Quantifiers.{position-Some}
use Rattle.std.proofs.lemmas.Option.{slice_get-get_or}
use Rattle.elf_types.specs.declared.records.Class.{Class}
use Rattle.elf_types.specs.declared.records.Order.{Order}
use Rattle.symbol_lookup.proofs.symbol_hashes.HashLemmas.{gnu_step, gnu_is}
use Rattle.rebuild_model.specs.hash_model.Hashes.{gnu_hash}
use Rattle.rebuild_model.specs.elf_object.Sections.{number_or_0}
use Rattle.rebuild_model.specs.hash_model.HashSections.{GnuHash, gnu_bytes, gnu_word, gnu_chain, gnu_chain_from, is_end, is_on_with, is_found_gnu, is_whole_gnu, ends}
use Rattle.rebuild_model.specs.hash_model.BuiltHashes.{GnuShape, buckets_of, hashes_of, in_bucket, is_in, first_in, order_key, first_unsorted, ends_chain, chain_word, bloom_word, first_listed, gnu_built}
use Rattle.rebuild_model.specs.Laws.{IsShape}
use Rattle.law_files.proofs.commands.SortedLemmas.{key_of, ascends}
use Rattle.symbol_lookup.proofs.LeastLaws.{position_none}
use Rattle.elf_lint_hashes.specs.Gnu.{is_end_marked, has_hash}
use Rattle.elf_lint_hashes.proofs.GnuChains.{does_end, reached}
use Rattle.hash_build.proofs.ListedLaws.{option_at}
use Rattle.law_hash.proofs.NameLaws.{each_is, each_passes, in_some, in_its}
use Rattle.law_hash.proofs.GnuBloom.{words_long, words_low, hash_passes}
use Rattle.law_hash.proofs.GnuBytes.{Fits, whole_bytes}

-- ---- Hashes have 32 bits

fold_low : (h : ℕ) (name : List ℕ) → h < 2 ^ 32 → fold gnu_step h name < 2 ^ 32
fold_low h [] low = low
fold_low h (b ∷ name) low =
    let some : 0 < 2 ^ 32 = omega arith in
    fold_low ((33 * h + b) % 2 ^ 32) name (mod-lt (33 * h + b) some)

hash_low : (name : List ℕ) → gnu_hash name < 2 ^ 32
hash_low name =
    subst (λ (n : ℕ). n < 2 ^ 32) (sym (gnu_is name)) (fold_low 5381 name (omega arith))

hash_or_low : (name : Option (List ℕ)) → number_or_0 (option_map gnu_hash name) < 2 ^ 32
hash_or_low None = omega arith
hash_or_low (Some name) = hash_low name

-- ---- A chain word

abbrev marked_word : ℕ → Bool → ℕ
marked_word x last = x / 2 * 2 + (if last then 1 else 0)

word_end : (x : ℕ) (last : Bool) → is_end (marked_word x last) ≡ last
word_end x true = eq-eqb (marked_word x true % 2) 1 (omega arith)
word_end x false = ne_eqb (marked_word x false % 2) 1 (λ is. absurd (omega (arith, is)))

word_hash : (x : ℕ) (last : Bool) → marked_word x last / 2 ≡ x / 2
word_hash x true = omega arith
word_hash x false = omega arith

marked_low : (x : ℕ) (last : Bool) → x < 2 ^ 32 → marked_word x last < 256 ^ 4
marked_low x true low = omega (arith, low)
marked_low x false low = omega (arith, low)

-- ---- The first of a range that passes

module _ (p : ℕ → Bool) where
  abbrev first_from : ℕ → ℕ → ℕ
  first_from a m = get_or (filter p (range_with_len a m)) 0 0

  abbrev later : ℕ → ℕ → List ℕ
  later a m = filter p (range_with_len a m)

  -- with the first number, where it passes
  abbrev found : ℕ → ℕ → Bool → ℕ
  found a m b = get_or (cond b (a ∷ later (a + 1) m) (later (a + 1) m)) 0 0

  -- is no greater than one that passes
  first_low : (a m i : ℕ) → a ≤ i → i < a + m → p i ≡ true
      → (first_from a m ≤ i) × (p (first_from a m) ≡ true)
  first_low a zero i from below passes = absurd (omega (arith, from, below))
  first_low a (suc m) i from below passes =
      by (p a) refl
      (λ behind. first_low (a + 1) m i (omega (arith, behind)) (omega (arith, below)) passes)
    where
      by : (b : Bool) → p a ≡ b
          → (a < i → (first_from (a + 1) m ≤ i) × (p (first_from (a + 1) m) ≡ true))
          → (first_from a (suc m) ≤ i) × (p (first_from a (suc m)) ≡ true)
      by true known rest =
          subst (λ (b : Bool). (found a m b ≤ i) × (p (found a m b) ≡ true)) (sym known)
          (from, known)
      by false known rest =
          subst (λ (b : Bool). (found a m b ≤ i) × (p (found a m b) ≡ true)) (sym known)
          (rest (by_place (cases_lt a i)))
        where
          by_place : (a < i) ⊎ (i ≤ a) → a < i
          by_place (inl behind) = behind
          by_place (inr near) =
              let same : i ≡ a = omega (arith, from, near) in
              absurd (both_ways (p a) known (ap p (sym same) ∙ passes))

  abbrev Case : ℕ → ℕ → Type 0
  Case end k = (k ≡ 0) ⊎ ((k < end) × (p k ≡ true))

  -- is 0 where none passes
  first_case : (a m : ℕ)
      → (first_from a m ≡ 0) ⊎ ((first_from a m < a + m) × (p (first_from a m) ≡ true))
  first_case a zero = inl refl
  first_case a (suc m) = by (p a) refl (first_case (a + 1) m)
    where
      by : (b : Bool) → p a ≡ b
          → (first_from (a + 1) m ≡ 0)
          ⊎ ((first_from (a + 1) m < a + 1 + m) × (p (first_from (a + 1) m) ≡ true))
          → Case (a + suc m) (first_from a (suc m))
      by true known rest =
          subst (λ (b : Bool). Case (a + suc m) (found a m b)) (sym known)
          (inr (omega arith, known))
      by false known (inl none) =
          subst (λ (b : Bool). Case (a + suc m) (found a m b)) (sym known) (inl none)
      by false known (inr (below, passes)) =
          subst (λ (b : Bool). Case (a + suc m) (found a m b)) (sym known)
          (inr (omega (arith, below), passes))

-- ---- Buckets by their keys

key_some : (bucket : Option ℕ) (b : ℕ) → order_key bucket ≡ b + 1 → bucket ≡ Some b
key_some None b is = absurd (omega (arith, is))
key_some (Some c) b is = let same : c ≡ b = omega (arith, is) in ap Some same

abbrev last_by : Option ℕ → Option ℕ → Bool
last_by bucket next = elim bucket [ None ↦ true | Some b ↦ not (is_in b next) ]

last_none : (bucket next : Option ℕ) → next ≡ None → last_by bucket next ≡ true
last_none None next none = refl
last_none (Some b) next none = ap (λ (x : Option ℕ). not (is_in b x)) none

named : {A B : Type 0} (f : A → B) (x : Option A) (y : B) → option_map f x ≡ Some y
    → (a : A) × (x ≡ Some a)
named f None y is = cc
named f (Some a) y is = (a, refl)

-- ---- The first listed symbol

module _ (names : List (Option (List ℕ))) where
  abbrev listed : Option (List ℕ) → Bool
  listed name = not (is_none name)

  abbrev found_or : Option ℕ → ℕ
  found_or found = elim found [ None ↦ length names | Some k ↦ k ]

  first_within : first_listed names ≤ length names
  unfolding first_listed
  first_within = by (position listed names) refl
    where
      by : (found : Option ℕ) → position listed names ≡ found → found_or found ≤ length names
      by None is = omega arith
      by (Some k) is = omega (arith, (position-Some listed names k None is).0)

  first_below : (i : ℕ) (name : List ℕ) → get_or names i None ≡ Some name
      → first_listed names ≤ i
  unfolding first_listed
  first_below i name at = by (position listed names) refl
    where
      here : listed (get_or names i None) ≡ true
      here = ap listed at

      by : (found : Option ℕ) → position listed names ≡ found → found_or found ≤ i
      by None is = by_place (cases_lt i (length names))
        where
          by_place : (i < length names) ⊎ (length names ≤ i) → length names ≤ i
          by_place (inl below) =
              absurd (both_ways (listed (get_or names i None))
              (position_none listed names is i None below) here)
          by_place (inr past) = past
      by (Some k) is = by_place (cases_lt i k)
        where
          by_place : (i < k) ⊎ (k ≤ i) → k ≤ i
          by_place (inl before) =
              absurd (both_ways (listed (get_or names i None))
              ((position-Some listed names k None is).2 i before) here)
          by_place (inr from) = from

-- ---- The section that is built

module _ (class : Class) (shape : GnuShape) (names : List (Option (List ℕ)))
    (is_shape : IsShape shape) (zeroth : get_or names 0 None ≡ None)
    (sorted : first_unsorted (buckets_of gnu_hash shape.nbuckets names) ≡ None) where
  abbrev n : ℕ
  n = length names

  abbrev buckets : List (Option ℕ)
  buckets = buckets_of gnu_hash shape.nbuckets names

  abbrev hashes : List (Option ℕ)
  hashes = hashes_of names

  abbrev bucket_of : List ℕ → ℕ
  bucket_of name = gnu_hash name % shape.nbuckets

  abbrev start : ℕ
  start = first_listed names

  abbrev firsts : List ℕ
  firsts = map (first_in buckets) (range_with_len 0 shape.nbuckets)

  abbrev chains : List ℕ
  chains = map (chain_word hashes buckets) (range_with_len start (n - start))

  abbrev h : GnuHash
  h = record {
    symoffset = start;
    shift = shape.shift;
    bloom = map (bloom_word class shape hashes) (range_with_len 0 shape.bloom);
    buckets = firsts;
    chains = chains;
  }

  bucket_at : (i : ℕ) → get_or buckets i None ≡ option_map bucket_of (get_or names i None)
  unfolding buckets_of
  bucket_at i = option_at bucket_of names i

  hash_at : (i : ℕ) → get_or hashes i None ≡ option_map gnu_hash (get_or names i None)
  unfolding hashes_of
  hash_at i = option_at gnu_hash names i

  buckets_long : length buckets ≡ n
  unfolding buckets_of
  buckets_long = length-map names (option_map bucket_of)

  hashes_long : length hashes ≡ n
  unfolding hashes_of
  hashes_long = length-map names (option_map gnu_hash)

  firsts_long : length firsts ≡ shape.nbuckets
  firsts_long = length-map-range_with_len (first_in buckets) 0 shape.nbuckets

  chains_long : length chains ≡ n - start
  chains_long = length-map-range_with_len (chain_word hashes buckets) start (n - start)

  start_within : start ≤ n
  start_within = first_within names

  abbrev here : ℕ → ℕ → Bool
  here b i = is_in b (get_or buckets i None)

  -- a symbol of a bucket is listed
  in_within : (b i : ℕ) → here b i ≡ true → start ≤ i
  in_within b i is =
      let name = named bucket_of (get_or names i None) b
      (sym (bucket_at i) ∙ in_some b (get_or buckets i None) is) in
      first_below names i name.0 name.1

  first_out : (b : ℕ) → here b 0 ≡ false
  first_out b = ap (is_in b) (bucket_at 0 ∙ ap (option_map bucket_of) zeroth)

  -- ---- Chain words

  word_at : (i : ℕ) → start ≤ i → i < n → gnu_word h n i ≡ Some (chain_word hashes buckets i)
  word_at i from below =
      ap (λ (b : Bool). if b && nat_lt i n then slice_get chains (i - start) else None)
      (le-leb start i from)
      ∙ ap (λ (b : Bool). if b then slice_get chains (i - start) else None) (lt-ltb i n below)
      ∙ slice_get-get_or chains (i - start) 0 (omega (arith, chains_long, from, below))
      ∙ ap Some (get_or-map-range_with_len (chain_word hashes buckets) start (n - start)
      (i - start) i 0 (omega (arith, from, below)) (omega (arith, from)))

  marked_at : (i : ℕ) → start ≤ i → i < n → is_end_marked h n i ≡ ends_chain buckets i
  unfolding is_end_marked chain_word
  marked_at i from below =
      ap (λ (w : Option ℕ). elim w [ None ↦ false | Some word ↦ is_end word ])
      (word_at i from below)
      ∙ word_end (number_or_0 (get_or hashes i None)) (ends_chain buckets i)

  last_marked : (i : ℕ) → start ≤ i → i + 1 ≡ n → is_end_marked h n i ≡ true
  last_marked i from end =
      marked_at i from (omega (arith, end))
      ∙ last_none (get_or buckets i None) (get_or buckets (i + 1) None)
      (get_or_past buckets (i + 1) None (omega (arith, buckets_long, end)))

  -- ---- The symbols of a bucket stand in a row

  rises_by : (i d : ℕ) → i + d < length buckets → key_of buckets i ≤ key_of buckets (i + d)
  rises_by i zero below =
      let same : i + 0 ≡ i = omega arith in omega (arith, ap (key_of buckets) same)
  rises_by i (suc d) below =
      let before : i + suc d - 1 ≡ i + d = omega arith in
      let earlier : key_of buckets i ≤ key_of buckets (i + d) =
      rises_by i d (omega (arith, below)) in
      let step : key_of buckets (i + suc d - 1) ≤ key_of buckets (i + suc d) =
      ascends buckets sorted (i + suc d) (omega arith) (omega (arith, below)) in
      omega (arith, earlier, step, ap (key_of buckets) before)

  rises : (i j : ℕ) → i ≤ j → j < n → key_of buckets i ≤ key_of buckets j
  rises i j from below =
      let place : i + (j - i) ≡ j = omega (arith, from) in
      let rest : key_of buckets i ≤ key_of buckets (i + (j - i)) =
      rises_by i (j - i) (omega (arith, place, below, buckets_long)) in
      subst (λ (k : ℕ). key_of buckets i ≤ key_of buckets k) place rest

  between : (b i j k : ℕ) → i ≤ j → j ≤ k → k < n → here b i ≡ true → here b k ≡ true
      → get_or buckets j None ≡ Some b
  between b i j k from to below first last =
      let low : key_of buckets i ≡ b + 1 =
      ap order_key (in_some b (get_or buckets i None) first) in
      let high : key_of buckets k ≡ b + 1 =
      ap order_key (in_some b (get_or buckets k None) last) in
      key_some (get_or buckets j None) b
      (omega (arith, low, high, rises i j from (omega (arith, to, below)), rises j k to below))

  unmarked : (b i j k : ℕ) → i ≤ j → j < k → k < n → here b i ≡ true → here b k ≡ true
      → is_end_marked h n j ≡ false
  unmarked b i j k from to below first last =
      let at : get_or buckets j None ≡ Some b =
      between b i j k from (omega (arith, to)) below first last in
      let next : get_or buckets (j + 1) None ≡ Some b =
      between b i (j + 1) k (omega (arith, from)) (omega (arith, to)) below first last in
      marked_at j (in_within b j (in_its b (get_or buckets j None) at)) (omega (arith, to, below))
      ∙ ap (λ (x : Option ℕ). last_by x (get_or buckets (j + 1) None)) at
      ∙ not_from_true (is_in b (get_or buckets (j + 1) None))
      (in_its b (get_or buckets (j + 1) None) next)

  -- ---- The chain of a bucket

  chain_of : (first : ℕ) → 0 < first → gnu_chain_from h n first ≡ gnu_chain h n n first
  unfolding gnu_chain_from
  chain_of zero some = absurd (omega (arith, some))
  chain_of (suc k) some = refl

  not_first : (b i : ℕ) → here b i ≡ true → 0 < i
  not_first b zero is = absurd (both_ways (here b 0) (first_out b) is)
  not_first b (suc k) is = omega arith

  row_ends : (b first : ℕ) → here b first ≡ true → first < n
      → ends (gnu_chain_from h n first) ≡ true
  row_ends b first is below =
      ap ends (chain_of first (not_first b first is))
      ∙ does_end h n n first (n - 1) (in_within b first is) (omega (arith, below))
      (omega (arith, below))
      (last_marked (n - 1) (omega (arith, below, in_within b first is)) (omega (arith, below)))

  no_chain : (first : ℕ) → first ≡ 0 → ends (gnu_chain_from h n first) ≡ true
  unfolding gnu_chain_from
  no_chain zero none = refl
  no_chain (suc k) none = absurd (omega (arith, none))

  abbrev Found : ℕ → ℕ → Type 0
  Found b first = (first ≡ 0) ⊎ ((first < n) × (here b first ≡ true))

  first_found : (b : ℕ) → Found b (first_in buckets b)
  unfolding in_bucket
  first_found b =
      subst (λ (m : ℕ). (first_in buckets b ≡ 0)
      ⊎ ((first_in buckets b < m) × (here b (first_in buckets b) ≡ true)))
      (let count : 0 + length buckets ≡ n = omega (arith, buckets_long) in count)
      (first_case (here b) 0 (length buckets))

  chain_ends : (b : ℕ) → ends (gnu_chain_from h n (first_in buckets b)) ≡ true
  chain_ends b = by (first_in buckets b) (first_found b)
    where
      by : (first : ℕ) → Found b first → ends (gnu_chain_from h n first) ≡ true
      by first (inl none) = no_chain first none
      by first (inr (below, is)) = row_ends b first is below

  every_end : list_all (λ (k : ℕ). ends (gnu_chain_from h n k)) firsts ≡ true
  every_end =
      list_all-map (λ (k : ℕ). ends (gnu_chain_from h n k)) (first_in buckets)
      (range_with_len 0 shape.nbuckets)
      ∙ each_passes (λ (b : ℕ). ends (gnu_chain_from h n (first_in buckets b))) chain_ends
      (range_with_len 0 shape.nbuckets)

  -- ---- Each listed symbol is found

  module _ (k : ℕ) (name : List ℕ) (below : k < n) (at : get_or names k None ≡ Some name) where
    abbrev hash : ℕ
    hash = gnu_hash name

    abbrev b : ℕ
    b = bucket_of name

    its_bucket : here b k ≡ true
    its_bucket =
        in_its b (get_or buckets k None) (bucket_at k ∙ ap (option_map bucket_of) at)

    its_hash : get_or hashes k None ≡ Some hash
    its_hash = hash_at k ∙ ap (option_map gnu_hash) at

    first_is : (first_in buckets b ≤ k) × (here b (first_in buckets b) ≡ true)
    unfolding in_bucket
    first_is =
        first_low (here b) 0 (length buckets) k (omega arith) (omega (arith, below, buckets_long))
        its_bucket

    word_has : has_hash (gnu_word h n k) hash ≡ true
    unfolding chain_word
    word_has =
        ap (λ (w : Option ℕ). has_hash w hash)
        (word_at k (in_within b k its_bucket) below)
        ∙ eq-eqb
        (marked_word (number_or_0 (get_or hashes k None)) (ends_chain buckets k) / 2) (hash / 2)
        (word_hash (number_or_0 (get_or hashes k None)) (ends_chain buckets k)
        ∙ ap (λ (x : Option ℕ). number_or_0 x / 2) its_hash)

    on_chain : is_on_with k hash (gnu_chain_from h n (first_in buckets b)) ≡ true
    on_chain =
        let first : ℕ = first_in buckets b in
        let under : first_in buckets b < n = omega (arith, first_is.0, below) in
        let chain : gnu_chain_from h n (first_in buckets b) ≡ gnu_chain h n n (first_in buckets b) =
        chain_of first (not_first b first first_is.1) in
        ap (is_on_with k hash) chain
        ∙ reached h n k hash n first first_is.0
        (λ j from lt. unmarked b first j k from lt below first_is.1 its_bucket)
        (sym (ap ends chain) ∙ row_ends b first first_is.1 under)
        ∙ word_has

    bucket_word : get_or firsts (hash % length firsts) 0 ≡ first_in buckets b
    bucket_word =
        ap (λ (m : ℕ). get_or firsts (hash % m) 0) firsts_long
        ∙ get_or-map-range_with_len (first_in buckets) 0 shape.nbuckets b b 0
        (mod-lt hash is_shape.some_buckets) (omega arith)

    is_found : is_found_gnu class h n k name ≡ true
    unfolding is_found_gnu
    is_found =
        and_from _ _
        (hash_passes class shape hashes k hash (omega (arith, below, hashes_long)) its_hash
        is_shape.some_bloom start firsts chains)
        (ap (λ (first : ℕ). is_on_with k hash (gnu_chain_from h n first)) bucket_word ∙ on_chain)

  -- ---- Its numbers fit

  first_fits : n < 2 ^ 32 → (b : ℕ) → first_in buckets b < 256 ^ 4
  first_fits few b = by (first_in buckets b) (first_found b)
    where
      by : (first : ℕ) → Found b first → first < 256 ^ 4
      by first (inl none) = omega (arith, none)
      by first (inr (below, is)) = omega (arith, below, few)

  firsts_low : n < 2 ^ 32 → (b : ℕ) → b < length firsts → get_or firsts b 0 < 256 ^ 4
  firsts_low few b below =
      subst (λ (x : ℕ). x < 256 ^ 4)
      (sym (get_or-map-range_with_len (first_in buckets) 0 shape.nbuckets b b 0
      (omega (arith, below, firsts_long)) (omega arith)))
      (first_fits few b)

  word_low : (i : ℕ) → chain_word hashes buckets i < 256 ^ 4
  unfolding chain_word
  word_low i =
      marked_low (number_or_0 (get_or hashes i None)) (ends_chain buckets i)
      (subst (λ (x : Option ℕ). number_or_0 x < 2 ^ 32) (sym (hash_at i))
      (hash_or_low (get_or names i None)))

  chains_low : (i : ℕ) → i < length chains → get_or chains i 0 < 256 ^ 4
  chains_low i below =
      subst (λ (x : ℕ). x < 256 ^ 4)
      (sym (get_or-map-range_with_len (chain_word hashes buckets) start (n - start) i (start + i)
      0 (omega (arith, below, chains_long)) refl))
      (word_low (start + i))

  fits : n < 2 ^ 32 → Fits class h
  fits few = record {
    symoffset = omega (arith, start_within, few);
    shift = omega (arith, is_shape.shift);
    size = omega (arith, words_long class shape hashes, is_shape.bloom);
    nbuckets = omega (arith, firsts_long, is_shape.nbuckets);
    bloom = words_low class shape hashes;
    buckets = firsts_low few;
    chains = chains_low;
  }

  pub gnu_whole : (order : Order) → length names < 2 ^ 32
      → is_whole_gnu class order (gnu_bytes class order (gnu_built class shape names)) names
      ≡ true
  unfolding gnu_built
  gnu_whole order few =
      whole_bytes class order h (fits few) names
      (omega (arith, firsts_long, is_shape.some_buckets))
      (omega (arith, words_long class shape hashes, is_shape.some_bloom)) every_end
      (each_is (is_found_gnu class h n) names is_found)
