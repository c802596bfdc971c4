-- GNU's hash section as it is made from the hashes, and that it is the stated one.
use Rattle.std.proofs.Common.{◌≡◌, ◌+◌, ◌-◌, ◌*◌, ◌/◌, ◌%◌, ◌<◌, ◌≤◌, ◌⊎◌, ℕ, Bool, true, false, not, cond, List, [], ◌∷◌, ◌++◌, length, get_or, map, Option, Some, None, is_none, Result, Ok, Err, refl, sym, ap, ◌∙◌, subst, inl, inr, append_assoc, arith}
use Rattle.std.specs.Prelude.{IfOk, IfErr, OnOk, nat_lt}
use Rattle.std.specs.Option.{option_map}
use Rattle.std.specs.List.{range_with_len, position_or_len}
use Rattle.std.proofs.lemmas.Bool.{cases_lt, lt-ltb, le-ltb}
use Rattle.std.proofs.lemmas.List.{length-map}
use Rattle.std.proofs.lemmas.List.Concat.{flat_map-append}
use Rattle.std.proofs.lemmas.List.FromFn.{length-map-range_with_len, map-range_with_len_more}
use Rattle.std.proofs.lemmas.List.Sums.{position_or_len_is}
use Rattle.elf_types.specs.Answers.{Follows, answered, first_refusal}
use Rattle.elf_types.specs.declared.records.Class.{Class}
use Rattle.elf_types.specs.declared.records.Order.{Order}
use Rattle.elf_types.specs.declared.errors.ElfError.{ElfError}
use Rattle.elf_types.specs.declared.errors.ElfError.TheVariants.{Memory, Unsorted}
use Rattle.elf_xlate.specs.Numbers.{octets}
use Rattle.symbol_lookup.specs.elf_object.Object.{Object}
use Rattle.symbol_lookup.specs.hash_model.Hashes.{gnu_hash}
use Rattle.symbol_lookup.specs.hash_model.HashSections.{GnuHash, gnu_bytes, bloom_bytes, numbers_as}
use Rattle.symbol_lookup.specs.hash_model.Listed.{listed_names}
use Rattle.symbol_lookup.specs.elf_object.Sections.{first_of, number_or_0}
use Rattle.symbol_lookup.specs.hash_model.BuiltHashes.{bloom_word, build_gnu_answer, buckets_of, chain_word, ends_chain, first_in, first_listed, first_unsorted, gnu_built, hash_refusal, hashes_of, is_in, is_unsorted_after, unsorted}
use Rattle.hash_build.specs.declared.shape.GnuShape.{GnuShape}
use Rattle.hash_build.specs.declared.hashing.Hashing.TheVariants.{Gnu}
use Rattle.hash_build.specs.Calls.{stated, IsWantOrUnsorted}
use Rattle.hash_build.specs.Hashed.{buckets_by, listed_hashes}
use Rattle.hash_build.specs.Gnu.{first_hashed, bloom_of, firsts_of, chains_from, gnu_of, gnu_answer, ends_before}
use Rattle.hash_build.proofs.RangeLaws.{bucket_at, buckets_long, first_more, first_end}
use Rattle.hash_build.proofs.SysvLaws.{buckets_same}

-- ---- The first symbol that is listed

module _ (hashes : List (Option ℕ)) where
  abbrev pub is_hashed : ℕ → Bool
  is_hashed i = not (is_none (get_or hashes i None))

  pub none_more : (i : ℕ) (hash : Option ℕ) (listed : Bool) → hash ≡ get_or hashes i None
      → listed ≡ not (is_none hash) → listed ≡ false
      → ((k : ℕ) → k < i → is_hashed k ≡ false) → (k : ℕ) → k < i + 1 → is_hashed k ≡ false
  none_more i hash listed at is not_so before k below = by (cases_lt k i)
    where
      by : (k < i) ⊎ (i ≤ k) → is_hashed k ≡ false
      by (inl low) = before k low
      by (inr high) =
          let same : k ≡ i = omega (arith, below, high) in
          ap (λ (j : ℕ). is_hashed j) same
          ∙ ap (λ (h : Option ℕ). not (is_none h)) (sym at) ∙ sym is ∙ not_so

  pub is_first : (i : ℕ) (hash : Option ℕ) (listed : Bool) → hash ≡ get_or hashes i None
      → listed ≡ not (is_none hash) → listed ≡ true → is_hashed i ≡ true
  is_first i hash listed at is so =
      ap (λ (h : Option ℕ). not (is_none h)) (sym at) ∙ sym is ∙ so

  found_at : (n i : ℕ) → n ≡ i → i ≤ length hashes
      → (elim (cond (nat_lt n (length hashes)) (Some n) None) [
        | None ↦ length hashes
        | Some k ↦ k
      ]) ≡ i
  found_at n i is within =
      ap (λ (m : ℕ). elim (cond (nat_lt m (length hashes)) (Some m) None) [
        | None ↦ length hashes
        | Some k ↦ k
      ]) is ∙ by (cases_lt i (length hashes))
    where
      by : (i < length hashes) ⊎ (length hashes ≤ i)
          → (elim (cond (nat_lt i (length hashes)) (Some i) None) [
            | None ↦ length hashes
            | Some k ↦ k
          ]) ≡ i
      by (inl low) =
          ap (λ (b : Bool). elim (cond b (Some i) None) [
            | None ↦ length hashes
            | Some k ↦ k
          ]) (lt-ltb i (length hashes) low)
      by (inr high) =
          ap (λ (b : Bool). elim (cond b (Some i) None) [
            | None ↦ length hashes
            | Some k ↦ k
          ]) (le-ltb i (length hashes) high) ∙ omega (arith, high, within)

  pub first_is : (i : ℕ) → i ≤ length hashes → ((k : ℕ) → k < i → is_hashed k ≡ false)
      → (i < length hashes → is_hashed i ≡ true) → i ≡ first_hashed hashes
  unfolding first_hashed
  first_is i within fails passes =
      sym (found_at _ i
      (position_or_len_is (λ (h : Option ℕ). not (is_none h)) hashes i None within fails passes)
      within)

-- ---- The order of the symbols

module _ (nbuckets : ℕ) (hashes : List (Option ℕ)) where
  abbrev pub is_unsorted : ℕ → Bool
  is_unsorted i =
      is_unsorted_after (get_or (buckets_by nbuckets hashes) (i - 1) None)
      (get_or (buckets_by nbuckets hashes) i None)

  -- a bucket that is made of a hash
  pub bucket_is : (i : ℕ) (hash bucket : Option ℕ) → hash ≡ get_or hashes i None
      → bucket ≡ option_map (λ h. h % nbuckets) hash
      → bucket ≡ get_or (buckets_by nbuckets hashes) i None
  bucket_is i hash bucket at is =
      is ∙ ap (λ (h : Option ℕ). option_map (λ h. h % nbuckets) h) at
      ∙ sym (bucket_at nbuckets hashes i)

  pub unsorted_is : (i : ℕ) (b : Bool) (before next : Option ℕ)
      → before ≡ get_or (buckets_by nbuckets hashes) (i - 1) None
      → next ≡ get_or (buckets_by nbuckets hashes) i None
      → b ≡ is_unsorted_after before next → b ≡ is_unsorted i
  unsorted_is i b before next before_is next_is is =
      is ∙ ap (λ (x : Option ℕ). is_unsorted_after x next) before_is
      ∙ ap (λ (x : Option ℕ). is_unsorted_after
      (get_or (buckets_by nbuckets hashes) (i - 1) None) x) next_is

  -- what is left to look at has the first one
  abbrev pub left_from : ℕ → Option ℕ
  left_from i = first_of (λ k. is_unsorted k) (range_with_len i (length hashes - i))

  pub unsorted_begun : left_from 1 ≡ first_unsorted (buckets_by nbuckets hashes)
  unfolding first_unsorted
  unsorted_begun =
      ap (λ (n : ℕ). first_of (λ k. is_unsorted k) (range_with_len 1 (n - 1)))
      (sym (buckets_long nbuckets hashes))

  left_more : (i : ℕ) (b : Bool) → i < length hashes → b ≡ is_unsorted i
      → left_from i ≡ cond b (Some i) (left_from (i + 1))
  left_more i b below is =
      first_more (λ k. is_unsorted k) i (length hashes) below
      ∙ ap (λ (t : Bool). cond t (Some i) (left_from (i + 1))) (sym is)

  pub unsorted_more : (i : ℕ) (b : Bool) → i < length hashes → b ≡ is_unsorted i → b ≡ false
      → left_from i ≡ first_unsorted (buckets_by nbuckets hashes)
      → left_from (i + 1) ≡ first_unsorted (buckets_by nbuckets hashes)
  unsorted_more i b below is not_so left =
      sym (left_more i b below is ∙ ap (λ (t : Bool). cond t (Some i) (left_from (i + 1))) not_so)
      ∙ left

  pub unsorted_found : (i : ℕ) (b : Bool) → i < length hashes → b ≡ is_unsorted i → b ≡ true
      → left_from i ≡ first_unsorted (buckets_by nbuckets hashes)
      → Some i ≡ first_unsorted (buckets_by nbuckets hashes)
  unsorted_found i b below is so left =
      sym (left_more i b below is ∙ ap (λ (t : Bool). cond t (Some i) (left_from (i + 1))) so)
      ∙ left

  pub unsorted_none : (i : ℕ) → length hashes ≤ i
      → left_from i ≡ first_unsorted (buckets_by nbuckets hashes)
      → None ≡ first_unsorted (buckets_by nbuckets hashes)
  unsorted_none i past left =
      sym (first_end (λ k. is_unsorted k) i (length hashes) past) ∙ left

  -- ---- The chains

  ends_same : (here next : Option ℕ)
      → ends_before here next
      ≡ (elim here [ None ↦ true | Some bucket ↦ not (is_in bucket next) ])
  ends_same None next = refl
  ends_same (Some bucket) next = refl

  pub ends_is : (i : ℕ) (b : Bool) (here next : Option ℕ)
      → here ≡ get_or (buckets_by nbuckets hashes) i None
      → next ≡ get_or (buckets_by nbuckets hashes) (i + 1) None
      → b ≡ ends_before here next → b ≡ ends_chain (buckets_by nbuckets hashes) i
  ends_is i b here next here_is next_is is =
      is ∙ ap (λ (x : Option ℕ). ends_before x next) here_is
      ∙ ap (λ (x : Option ℕ). ends_before (get_or (buckets_by nbuckets hashes) i None) x) next_is
      ∙ ends_same (get_or (buckets_by nbuckets hashes) i None)
      (get_or (buckets_by nbuckets hashes) (i + 1) None)

  pub word_ended : (i n : ℕ) (hash : Option ℕ) (b : Bool) → n ≡ number_or_0 hash
      → hash ≡ get_or hashes i None → b ≡ ends_chain (buckets_by nbuckets hashes) i → b ≡ true
      → n / 2 * 2 + 1 ≡ chain_word hashes (buckets_by nbuckets hashes) i
  unfolding chain_word
  word_ended i n hash b is at ends so =
      ap (λ (m : ℕ). m / 2 * 2 + 1) (is ∙ ap (λ (h : Option ℕ). number_or_0 h) at)
      ∙ ap (λ (t : Bool). number_or_0 (get_or hashes i None) / 2 * 2 + cond t 1 0)
      (sym so ∙ ends)

  pub word_open : (i n : ℕ) (hash : Option ℕ) (b : Bool) → n ≡ number_or_0 hash
      → hash ≡ get_or hashes i None → b ≡ ends_chain (buckets_by nbuckets hashes) i → b ≡ false
      → n / 2 * 2 ≡ chain_word hashes (buckets_by nbuckets hashes) i
  unfolding chain_word
  word_open i n hash b is at ends not_so =
      ap (λ (m : ℕ). m / 2 * 2) (is ∙ ap (λ (h : Option ℕ). number_or_0 h) at)
      ∙ (let none : number_or_0 (get_or hashes i None) / 2 * 2
      ≡ number_or_0 (get_or hashes i None) / 2 * 2 + 0 = omega arith in none)
      ∙ ap (λ (t : Bool). number_or_0 (get_or hashes i None) / 2 * 2 + cond t 1 0)
      (sym not_so ∙ ends)

  abbrev pub chains_to : ℕ → ℕ → List ℕ
  chains_to from k =
      map (chain_word hashes (buckets_by nbuckets hashes)) (range_with_len from k)

  pub chains_more : (begun old new : List ℕ) (from k word : ℕ)
      → word ≡ chain_word hashes (buckets_by nbuckets hashes) (from + k)
      → old ≡ begun ++ chains_to from k → new ≡ old ++ word ∷ []
      → new ≡ begun ++ chains_to from (k + 1)
  chains_more begun old new from k word word_is so_far is =
      is ∙ ap (λ (l : List ℕ). l ++ word ∷ []) so_far
      ∙ append_assoc begun (chains_to from k) (word ∷ [])
      ∙ ap (λ (l : List ℕ). begun ++ l)
      (ap (λ (w : ℕ). chains_to from k ++ w ∷ []) word_is
      ∙ sym (map-range_with_len_more (chain_word hashes (buckets_by nbuckets hashes)) from k
      (from + k) refl))

  pub chains_all : (begun words : List ℕ) (from k : ℕ) → k ≡ length hashes - from
      → words ≡ begun ++ chains_to from k → words ≡ begun ++ chains_from from nbuckets hashes
  unfolding chains_from
  chains_all begun words from k end so_far =
      so_far ∙ ap (λ (n : ℕ). begun ++ chains_to from n) end

-- ---- The section

pub headed : (none one two three four : List ℕ) (a b c d : ℕ) → none ≡ [] → one ≡ none ++ a ∷ []
    → two ≡ one ++ b ∷ [] → three ≡ two ++ c ∷ [] → four ≡ three ++ d ∷ []
    → four ≡ a ∷ b ∷ c ∷ d ∷ []
headed none one two three four a b c d p q r s t =
    t ∙ ap (λ (l : List ℕ). l ++ d ∷ [])
    (s ∙ ap (λ (l : List ℕ). l ++ c ∷ [])
    (r ∙ ap (λ (l : List ℕ). l ++ b ∷ [])
    (q ∙ ap (λ (l : List ℕ). l ++ a ∷ []) p)))

module _ (class : Class) (order : Order) (shape : GnuShape) (hashes : List (Option ℕ)) where
  abbrev firsts : List ℕ
  firsts = firsts_of shape.nbuckets hashes

  abbrev bloom : List ℕ
  bloom = bloom_of class shape hashes

  abbrev chains : ℕ → List ℕ
  chains from = chains_from from shape.nbuckets hashes

  firsts_long : length (firsts_of shape.nbuckets hashes) ≡ shape.nbuckets
  unfolding firsts_of
  firsts_long = length-map-range_with_len (first_in (buckets_by shape.nbuckets hashes)) 0 shape.nbuckets

  bloom_long : length (bloom_of class shape hashes) ≡ shape.bloom
  unfolding bloom_of
  bloom_long = length-map-range_with_len (bloom_word class (stated shape) hashes) 0 shape.bloom

  abbrev head_of : ℕ → ℕ → ℕ → List ℕ
  head_of n from size = n ∷ from ∷ size ∷ shape.shift ∷ []

  abbrev laid : List ℕ → List ℕ → List ℕ → List ℕ
  laid head middle rest =
      numbers_as order 4 head ++ (numbers_as order (bloom_bytes class) middle ++ rest)

  section_bytes : (head words words_bloom : List ℕ) (from : ℕ)
      → head ≡ shape.nbuckets ∷ from ∷ shape.bloom ∷ shape.shift ∷ []
      → words_bloom ≡ bloom_of class shape hashes
      → words ≡ firsts_of shape.nbuckets hashes ++ chains_from from shape.nbuckets hashes
      → from ≡ first_hashed hashes
      → numbers_as order 4 head
      ++ (numbers_as order (bloom_bytes class) words_bloom ++ numbers_as order 4 words)
      ≡ gnu_bytes class order (gnu_of class shape hashes)
  unfolding gnu_bytes gnu_of
  section_bytes head words words_bloom from head_is bloom_is words_is from_is =
      ap (λ (l : List ℕ). laid l words_bloom (numbers_as order 4 words))
      (head_is ∙ ap (λ (n : ℕ). head_of n from shape.bloom) (sym firsts_long)
      ∙ ap (λ (n : ℕ). head_of (length firsts) from n) (sym bloom_long)
      ∙ ap (λ (n : ℕ). head_of (length firsts) n (length bloom)) from_is)
      ∙ ap (λ (l : List ℕ). laid (head_of (length firsts) (first_hashed hashes) (length bloom)) l
      (numbers_as order 4 words)) bloom_is
      ∙ ap (λ (l : List ℕ). laid (head_of (length firsts) (first_hashed hashes) (length bloom))
      bloom l)
      (ap (λ (l : List ℕ). numbers_as order 4 l)
      (words_is ∙ ap (λ (n : ℕ). firsts ++ chains n) from_is)
      ∙ flat_map-append (octets order 4) firsts (chains (first_hashed hashes)))

  pub section_laid : (r : Result (Unit {0}) ElfError) (old new head words words_bloom : List ℕ)
      (at from : ℕ) → head ≡ shape.nbuckets ∷ at ∷ shape.bloom ∷ shape.shift ∷ []
      → words_bloom ≡ bloom_of class shape hashes
      → words ≡ firsts_of shape.nbuckets hashes ++ chains_from from shape.nbuckets hashes
      → from ≡ first_hashed hashes → at ≡ from
      → OnOk r (new ≡ old ++ (numbers_as order 4 head
      ++ (numbers_as order (bloom_bytes class) words_bloom ++ numbers_as order 4 words)))
      → OnOk r (new ≡ old ++ gnu_bytes class order (gnu_of class shape hashes))
  section_laid r old new head words words_bloom at from head_is bloom_is words_is from_is same
      is =
      subst (λ (l : List ℕ). OnOk r (new ≡ old ++ l))
      (section_bytes head words words_bloom from
      (head_is ∙ ap (λ (n : ℕ). head_of shape.nbuckets n shape.bloom) same)
      bloom_is words_is from_is) is

  -- ---- The answer

  abbrev bytes : List ℕ
  bytes = gnu_bytes class order (gnu_of class shape hashes)

  pub unsorted_follows : (at : ℕ)
      → Some at ≡ first_unsorted (buckets_by shape.nbuckets hashes)
      → Follows {T = List ℕ} (Err (Unsorted at)) (gnu_answer class order shape hashes)
  unfolding gnu_answer
  unsorted_follows at is =
      ap (λ (u : Option ℕ). answered (option_map Unsorted u) bytes) (sym is)

  pub sorted_follows : (r : Result (List ℕ) ElfError)
      → None ≡ first_unsorted (buckets_by shape.nbuckets hashes)
      → IfOk r (λ b. b ≡ gnu_bytes class order (gnu_of class shape hashes))
      → IfErr r (λ e. e ≡ Memory) → Follows r (gnu_answer class order shape hashes)
  unfolding gnu_answer
  sorted_follows (Ok b) none is want =
      ap (λ (u : Option ℕ). answered (option_map Unsorted u) bytes) (sym none)
      ∙ ap (λ (l : List ℕ). Ok l) (sym is)
  sorted_follows (Err e) none is want =
      subst (λ (e : ElfError). Follows {T = List ℕ} (Err e)
      (answered (option_map Unsorted (first_unsorted (buckets_by shape.nbuckets hashes))) bytes))
      (sym want) tt

pub want_alone : (r : Result (List ℕ) ElfError) → IfErr r (λ e. e ≡ Memory)
    → IfErr r IsWantOrUnsorted
want_alone (Ok b) is = tt
want_alone (Err e) is = subst (λ (e : ElfError). IsWantOrUnsorted e) (sym is) tt

pub told_with : (class class' : Class) (order order' : Order) (shape : GnuShape)
    (hashes hashes' : List (Option ℕ)) (r : Result (List ℕ) ElfError) → class ≡ class'
    → order ≡ order' → hashes ≡ hashes' → Follows r (gnu_answer class order shape hashes)
    → Follows r (gnu_answer class' order' shape hashes')
told_with class class' order order' shape hashes hashes' r same_class same_order same follows =
    subst (λ (c : Class). Follows r (gnu_answer c order' shape hashes')) same_class
    (subst (λ (d : Order). Follows r (gnu_answer class d shape hashes')) same_order
    (subst (λ (l : List (Option ℕ)). Follows r (gnu_answer class order shape l)) same follows))

-- ---- By the names

abbrev found_in : ℕ → ℕ → ℕ
found_in n all = elim (cond (nat_lt n all) (Some n) None) [ None ↦ all | Some i ↦ i ]

place_same : (hash : List ℕ → ℕ) (names : List (Option (List ℕ)))
    → position_or_len (λ (h : Option ℕ). not (is_none h)) (map (option_map hash) names)
    ≡ position_or_len (λ (name : Option (List ℕ)). not (is_none name)) names
place_same hash [] = refl
place_same hash (None ∷ names) = ap (λ (n : ℕ). 1 + n) (place_same hash names)
place_same hash (Some name ∷ names) = refl

first_same : (hash : List ℕ → ℕ) (names : List (Option (List ℕ)))
    → first_hashed (map (option_map hash) names) ≡ first_listed names
unfolding first_hashed first_listed
first_same hash names =
    ap (λ (n : ℕ). found_in n (length (map (option_map hash) names))) (place_same hash names)
    ∙ ap (λ (n : ℕ). found_in
    (position_or_len (λ (name : Option (List ℕ)). not (is_none name)) names) n)
    (length-map names (option_map hash))

module _ (class : Class) (shape : GnuShape) where
  abbrev made : List (Option ℕ) → ℕ → List (Option ℕ) → ℕ → GnuHash
  made hashes first buckets n = record {
    symoffset = first;
    shift = shape.shift;
    bloom = map (bloom_word class (stated shape) hashes) (range_with_len 0 shape.bloom);
    buckets = map (first_in buckets) (range_with_len 0 shape.nbuckets);
    chains = map (chain_word hashes buckets) (range_with_len first (n - first));
  }

  gnu_same : (names : List (Option (List ℕ)))
      → gnu_of class shape (map (option_map gnu_hash) names)
      ≡ gnu_built class (stated shape) names
  unfolding gnu_of gnu_built hashes_of bloom_of firsts_of chains_from
  gnu_same names =
      ap (λ (n : ℕ). made (map (option_map gnu_hash) names) n
      (buckets_by shape.nbuckets (map (option_map gnu_hash) names))
      (length (map (option_map gnu_hash) names))) (first_same gnu_hash names)
      ∙ ap (λ (b : List (Option ℕ)). made (map (option_map gnu_hash) names) (first_listed names) b
      (length (map (option_map gnu_hash) names))) (buckets_same gnu_hash shape.nbuckets names)
      ∙ ap (λ (n : ℕ). made (map (option_map gnu_hash) names) (first_listed names)
      (buckets_of gnu_hash shape.nbuckets names) n) (length-map names (option_map gnu_hash))

module _ (o : Object) (s : ℕ) (shape : GnuShape) where
  abbrev names : List (Option (List ℕ))
  names = listed_names o s

  abbrev of_names : GnuHash → List ℕ
  of_names h = gnu_bytes o.header.class o.header.order h

  alone : (u : Option ElfError) → first_refusal (u ∷ []) ≡ u
  alone None = refl
  alone (Some e) = refl

  by_names : answered (unsorted o s shape.nbuckets)
      (of_names (gnu_built o.header.class (stated shape) (listed_names o s)))
      ≡ gnu_answer o.header.class o.header.order shape (listed_hashes Gnu o s)
  unfolding gnu_answer unsorted listed_hashes
  by_names =
      ap (λ (b : List (Option ℕ)). answered (option_map Unsorted (first_unsorted b))
      (of_names (gnu_built o.header.class (stated shape) (listed_names o s))))
      (sym (buckets_same gnu_hash shape.nbuckets names))
      ∙ ap (λ (h : GnuHash). answered
      (option_map Unsorted
      (first_unsorted (buckets_by shape.nbuckets (map (option_map gnu_hash) names))))
      (of_names h)) (sym (gnu_same o.header.class shape names))

  pub gnu_stated : hash_refusal o s ≡ None
      → build_gnu_answer o s (stated shape)
      ≡ gnu_answer o.header.class o.header.order shape (listed_hashes Gnu o s)
  unfolding build_gnu_answer
  gnu_stated passed =
      ap (λ (r : Option ElfError). answered
      (first_refusal (r ∷ unsorted o s shape.nbuckets ∷ []))
      (of_names (gnu_built o.header.class (stated shape) (listed_names o s)))) passed
      ∙ ap (λ (r : Option ElfError). answered r
      (of_names (gnu_built o.header.class (stated shape) (listed_names o s))))
      (alone (unsorted o s shape.nbuckets))
      ∙ by_names

  pub gnu_refused : (e : ElfError) → hash_refusal o s ≡ Some e
      → build_gnu_answer o s (stated shape) ≡ Err e
  unfolding build_gnu_answer
  gnu_refused e is =
      ap (λ (r : Option ElfError). answered
      (first_refusal (r ∷ unsorted o s shape.nbuckets ∷ []))
      (of_names (gnu_built o.header.class (stated shape) (listed_names o s)))) is
