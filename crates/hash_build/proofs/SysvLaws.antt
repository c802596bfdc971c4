-- The section of type SHT_HASH as it is made from the hashes, and that it is the stated one.
use Rattle.std.proofs.Common.{◌≡◌, ◌+◌, ◌-◌, ◌%◌, ◌<◌, ◌≤◌, ℕ, suc, List, [], ◌∷◌, ◌++◌, length, get_or, map, Option, Some, None, Result, Ok, Err, refl, sym, ap, ◌∙◌, subst, arith}
use Rattle.std.specs.Prelude.{IfSome, IfOk}
use Rattle.std.specs.Option.{option_map}
use Rattle.std.specs.List.{range_with_len}
use Rattle.std.proofs.lemmas.List.{length-map, length-append}
use Rattle.std.proofs.lemmas.List.FromFn.{length-map-range_with_len}
use Rattle.elf_types.specs.Answers.{answered}
use Rattle.elf_types.specs.declared.errors.ElfError.{ElfError}
use Rattle.symbol_lookup.specs.elf_object.Object.{Object}
use Rattle.symbol_lookup.specs.hash_model.HashSections.{SysvHash, sysv_words}
use Rattle.symbol_lookup.specs.hash_model.BuiltHashes.{buckets_of, first_in, next_in, sysv_built, build_sysv_answer, hash_refusal}
use Rattle.symbol_lookup.specs.hash_model.Listed.{listed_names}
use Rattle.hash_build.specs.declared.hashing.Hashing.TheVariants.{Sysv}
use Rattle.hash_build.specs.Hashed.{hash_with, listed_hashes, buckets_by, sysv_of, zeros_of, first_set, next_set}
use Rattle.hash_build.proofs.RangeLaws.{bucket_at, buckets_long, AreFirsts, AreNexts, firsts_none, firsts_more, firsts_all, nexts_none, nexts_more, nexts_all}

-- ---- From the last symbol on

pub inside_same : (bucket : Option ℕ) (n m : ℕ) → n ≡ m → IfSome bucket (λ b. b < n)
    → IfSome bucket (λ b. b < m)
inside_same bucket n m same inside = subst (λ (k : ℕ). IfSome bucket (λ b. b < k)) same inside

module _ (hashes : List (Option ℕ)) (nbucket count done : ℕ) (all : count ≡ length hashes) where
  abbrev low : ℕ → ℕ
  low k = length hashes - k

  abbrev buckets : List (Option ℕ)
  buckets = buckets_by nbucket hashes

  -- before the first step
  pub begun_firsts : (firsts : List ℕ) → firsts ≡ zeros_of nbucket
      → AreFirsts (buckets_by nbucket hashes) nbucket (length hashes - 0) 0 firsts
  begun_firsts firsts is =
      firsts_none buckets nbucket (low 0) firsts (omega (arith, buckets_long nbucket hashes)) is

  pub begun_nexts : (nexts : List ℕ) → nexts ≡ zeros_of (length hashes)
      → AreNexts (buckets_by nbucket hashes) (length hashes - 0) nexts
  begun_nexts nexts is =
      nexts_none buckets nbucket (low 0) nexts (omega (arith, buckets_long nbucket hashes))
      (is ∙ ap zeros_of (sym (buckets_long nbucket hashes)))

  -- one symbol more
  module _ (i : ℕ) (hash bucket : Option ℕ) (below : done < count) (at : i ≡ count - 1 - done)
      (hash_is : hash ≡ get_or hashes i None)
      (bucket_is : bucket ≡ option_map (λ h. h % nbucket) hash)
      (inside : IfSome bucket (λ b. b < nbucket)) where
    stands : bucket ≡ get_or (buckets_by nbucket hashes) i None
    stands =
        bucket_is ∙ ap (option_map (λ (h : ℕ). h % nbucket)) hash_is ∙ sym (bucket_at nbucket hashes i)

    step : suc i ≡ length hashes - done
    step = omega (arith, all, below, at)

    here : i ≡ length hashes - (done + 1)
    here = omega (arith, all, below, at)

    next_done : suc done ≡ done + 1
    next_done = omega arith

    pub more_firsts : (firsts firsts' : List ℕ) → firsts' ≡ first_set firsts bucket i
        → AreFirsts (buckets_by nbucket hashes) nbucket (length hashes - done) done firsts
        → AreFirsts (buckets_by nbucket hashes) nbucket (length hashes - (done + 1)) (done + 1)
        firsts'
    more_firsts firsts firsts' is are =
        subst (λ (k : ℕ). AreFirsts buckets nbucket k (done + 1) firsts') here
        (subst (λ (m : ℕ). AreFirsts buckets nbucket i m firsts') next_done
        (firsts_more buckets nbucket (low done) done i firsts firsts' bucket step stands inside is
        are))

    pub more_nexts : (firsts nexts nexts' : List ℕ) → nexts' ≡ next_set nexts firsts bucket i
        → AreFirsts (buckets_by nbucket hashes) nbucket (length hashes - done) done firsts
        → AreNexts (buckets_by nbucket hashes) (length hashes - done) nexts
        → AreNexts (buckets_by nbucket hashes) (length hashes - (done + 1)) nexts'
    more_nexts firsts nexts nexts' is are next =
        subst (λ (k : ℕ). AreNexts buckets k nexts') here
        (nexts_more buckets nbucket (low done) done i firsts nexts nexts' bucket step stands
        inside is are next)

  -- behind the last step
  module _ (past : count ≤ done) where
    ended : length hashes - done ≡ 0
    ended = omega (arith, all, past)

    pub all_firsts : (firsts : List ℕ)
        → AreFirsts (buckets_by nbucket hashes) nbucket (length hashes - done) done firsts
        → firsts ≡ map (first_in (buckets_by nbucket hashes)) (range_with_len 0 nbucket)
    all_firsts firsts are = firsts_all buckets nbucket (low done) done firsts ended are

    pub all_nexts : (nexts : List ℕ)
        → AreNexts (buckets_by nbucket hashes) (length hashes - done) nexts
        → nexts ≡ map (next_in (buckets_by nbucket hashes)) (range_with_len 0 (length hashes))
    all_nexts nexts are =
        nexts_all buckets nbucket (low done) nexts ended are
        ∙ ap (λ (n : ℕ). map (next_in buckets) (range_with_len 0 n)) (buckets_long nbucket hashes)

-- ---- The words

pub joined : (none one two three four buckets chains : List ℕ) (first second : ℕ) → none ≡ []
    → one ≡ none ++ first ∷ [] → two ≡ one ++ second ∷ [] → three ≡ two ++ buckets
    → four ≡ three ++ chains → first ≡ length buckets → second ≡ length chains
    → four ≡ sysv_words (record { buckets = buckets; chains = chains })
unfolding sysv_words
joined none one two three four buckets chains first second a b c d e f g =
    e ∙ ap (λ (l : List ℕ). l ++ chains)
    (d ∙ ap (λ (l : List ℕ). l ++ buckets)
    (c ∙ ap (λ (l : List ℕ). l ++ second ∷ [])
    (b ∙ ap (λ (l : List ℕ). l ++ first ∷ []) a)))
    ∙ ap (λ (n : ℕ). n ∷ second ∷ (buckets ++ chains)) f
    ∙ ap (λ (n : ℕ). length buckets ∷ n ∷ (buckets ++ chains)) g

pub counted : (f : ℕ → ℕ) (n : ℕ) (l : List ℕ) → l ≡ map f (range_with_len 0 n) → length l ≡ n
counted f n l is = ap (λ (m : List ℕ). length m) is ∙ length-map-range_with_len f 0 n

pub words_long : (nbucket : ℕ) (hashes : List (Option ℕ))
    → length (sysv_words (sysv_of nbucket hashes)) ≡ 2 + nbucket + length hashes
unfolding sysv_words sysv_of
words_long nbucket hashes =
    let all = buckets_by nbucket hashes in
    let firsts : List ℕ = map (first_in all) (range_with_len 0 nbucket) in
    let nexts : List ℕ = map (next_in all) (range_with_len 0 (length hashes)) in
    omega (
      arith,
      length-append firsts nexts,
      length-map-range_with_len (first_in all) 0 nbucket,
      length-map-range_with_len (next_in all) 0 (length hashes),
    )

-- ---- By the names

pub buckets_same : (hash : List ℕ → ℕ) (count : ℕ) (names : List (Option (List ℕ)))
    → buckets_by count (map (option_map hash) names) ≡ buckets_of hash count names
unfolding buckets_by buckets_of
buckets_same hash count [] = refl
buckets_same hash count (None ∷ names) =
    ap (λ (l : List (Option ℕ)). None ∷ l) (buckets_same hash count names)
buckets_same hash count (Some name ∷ names) =
    ap (λ (l : List (Option ℕ)). Some (hash name % count) ∷ l) (buckets_same hash count names)

abbrev pub made : ℕ → List (Option ℕ) → ℕ → SysvHash
made nbucket buckets n = record {
  buckets = map (first_in buckets) (range_with_len 0 nbucket);
  chains = map (next_in buckets) (range_with_len 0 n);
}

pub sysv_same : (o : Object) (s nbucket : ℕ)
    → sysv_of nbucket (listed_hashes Sysv o s) ≡ sysv_built nbucket (listed_names o s)
unfolding sysv_of sysv_built listed_hashes
sysv_same o s nbucket =
    let names = listed_names o s in
    ap (λ (b : List (Option ℕ)).
    made nbucket b (length (map (option_map (hash_with Sysv)) (listed_names o s))))
    (buckets_same (hash_with Sysv) nbucket names)
    ∙ ap (made nbucket (buckets_of (hash_with Sysv) nbucket names))
    (length-map names (option_map (hash_with Sysv)))

pub sysv_stated : (o : Object) (s nbucket : ℕ) → build_sysv_answer o s nbucket
    ≡ answered (hash_refusal o s) (sysv_words (sysv_built nbucket (listed_names o s)))
unfolding build_sysv_answer
sysv_stated o s nbucket = refl

pub linked_words : (hashes : List (Option ℕ)) (nbucket : ℕ) (r : Result (List ℕ) ElfError)
    (firsts nexts : List ℕ)
    → firsts ≡ map (first_in (buckets_by nbucket hashes)) (range_with_len 0 nbucket)
    → nexts ≡ map (next_in (buckets_by nbucket hashes)) (range_with_len 0 (length hashes))
    → IfOk r (λ words. words ≡ sysv_words (record { buckets = firsts; chains = nexts }))
    → IfOk r (λ words. words ≡ sysv_words (sysv_of nbucket hashes))
unfolding sysv_of
linked_words hashes nbucket (Err e) firsts nexts first next is = tt
linked_words hashes nbucket (Ok words) firsts nexts first next is =
    is ∙ ap (λ (l : List ℕ). sysv_words (record { buckets = l; chains = nexts })) first
    ∙ ap (λ (l : List ℕ). sysv_words (record {
      buckets = map (first_in (buckets_by nbucket hashes)) (range_with_len 0 nbucket);
      chains = l;
    })) next

pub words_told : (o : Object) (s nbucket : ℕ) (hashes : List (Option ℕ))
    (r : Result (List ℕ) ElfError) → hashes ≡ listed_hashes Sysv o s
    → IfOk r (λ words. words ≡ sysv_words (sysv_of nbucket hashes))
    → IfOk r (λ words. words ≡ sysv_words (sysv_built nbucket (listed_names o s)))
words_told o s nbucket hashes (Err e) are is = tt
words_told o s nbucket hashes (Ok words) are is =
    is ∙ ap (λ (l : List (Option ℕ)). sysv_words (sysv_of nbucket l)) are
    ∙ ap sysv_words (sysv_same o s nbucket)

pub words_counted : (nbucket count all : ℕ) (hashes : List (Option ℕ))
    (r : Result (List ℕ) ElfError) → length hashes ≡ count → count ≡ all
    → IfOk r (λ words. words ≡ sysv_words (sysv_of nbucket hashes))
    → IfOk r (λ words. length words ≡ 2 + nbucket + all)
words_counted nbucket count all hashes (Err e) long is_all is = tt
words_counted nbucket count all hashes (Ok words) long is_all is =
    ap (λ (l : List ℕ). length l) is ∙ words_long nbucket hashes
    ∙ ap (λ (n : ℕ). 2 + nbucket + n) (long ∙ is_all)
