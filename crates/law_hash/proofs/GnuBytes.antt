-- GNU's hash section is read back out of its bytes: each of its numbers stands at its place.
use Rattle.std.proofs.Common.{◌≡◌, ◌+◌, ◌-◌, ◌*◌, ◌/◌, ◌^◌, ◌<◌, ℕ, zero, suc, Bool, true, not, ◌==◌, List, [], ◌∷◌, ◌++◌, length, get_or, take, drop, Option, refl, sym, ap, ◌∙◌, append_assoc, append-nil, arith}
use Rattle.std.specs.List.{list_all}
use Rattle.std.proofs.Math.Nat.{mul-suc}
use Rattle.std.proofs.lemmas.Bool.{le-leb, ne_eqb, not_from_false}
use Rattle.std.proofs.lemmas.List.{length-append, take_at, drop_at, drop-drop}
use Rattle.std.proofs.lemmas.List.FromFn.{fill_by_all}
use Rattle.elf_types.specs.declared.records.Class.{Class}
use Rattle.elf_types.specs.declared.records.Order.{Order}
use Rattle.elf_xlate.specs.Numbers.{number_of, number_at, octets}
use Rattle.elf_xlate.proofs.Digits.{length_octets, number_of_octets}
use Rattle.rebuild_model.specs.hash_model.HashSections.{GnuHash, bloom_bytes, numbers_as, numbers_at, gnu_bytes, gnu_head, gnu_chains_at, gnu_in, gnu_chain_from, is_found_gnu, is_whole_gnu, ends, each_listed}
use Rattle.law_hash.proofs.NameLaws.{six}

-- ---- Numbers of a width in a row

drop_behind : (before others : List ℕ) (p k : ℕ) → length before ≡ p
    → drop (p + k) (before ++ others) ≡ drop k others
drop_behind before others p k is =
    sym (drop-drop k p (before ++ others)) ∙ ap (drop k) (drop_at before others p is)

times_more : (w i : ℕ) → w * suc i ≡ w + w * i
times_more w i = omega (arith, mul-suc w i)

module _ (order : Order) (w : ℕ) where
  abbrev row : List ℕ → List ℕ
  row l = numbers_as order w l

  row_long : (l : List ℕ) → length (row l) ≡ w * length l
  row_long [] = omega arith
  row_long (n ∷ l) =
      length-append (octets order w n) (row l)
      ∙ omega (arith, length_octets order w n, row_long l, times_more w (length l))

  -- the bytes of one of them
  in_row : (l after : List ℕ) (i : ℕ) → i < length l
      → take w (drop (w * i) (row l ++ after)) ≡ octets order w (get_or l i 0)
  in_row [] after i below = absurd (omega (arith, below))
  in_row (n ∷ l) after zero below =
      ap (λ (k : ℕ). take w (drop k ((octets order w n ++ row l) ++ after)))
      (let none : w * 0 ≡ 0 = omega arith in none)
      ∙ ap (take w) (append_assoc (octets order w n) (row l) after)
      ∙ take_at (octets order w n) (row l ++ after) w (length_octets order w n)
  in_row (n ∷ l) after (suc i) below =
      ap (λ (k : ℕ). take w (drop k ((octets order w n ++ row l) ++ after))) (times_more w i)
      ∙ ap (λ (b : List ℕ). take w (drop (w + w * i) b))
      (append_assoc (octets order w n) (row l) after)
      ∙ ap (take w)
      (drop_behind (octets order w n) (row l ++ after) w (w * i) (length_octets order w n))
      ∙ in_row l after i (omega (arith, below))

  -- all of them, where they stand behind other bytes
  numbers_again : (before l after : List ℕ) (at : ℕ) → length before ≡ at
      → ((i : ℕ) → i < length l → get_or l i 0 < 256 ^ w)
      → numbers_at order (before ++ (row l ++ after)) at w (length l) ≡ l
  unfolding number_at
  numbers_again before l after at is low =
      sym (fill_by_all
      (λ i. number_of order (take w (drop (at + w * i) (before ++ (row l ++ after)))))
      l (length l) 0 refl
      (λ k below. sym (ap (λ (b : List ℕ). number_of order (take w b))
      (drop_behind before (row l ++ after) at (w * k) is)
      ∙ ap (number_of order) (in_row l after k below)
      ∙ number_of_octets order w (get_or l k 0) (low k below))))

head_again : (order : Order) (head rest : List ℕ) (i : ℕ) → i < length head
    → get_or head i 0 < 256 ^ 4
    → gnu_head order (numbers_as order 4 head ++ rest) i ≡ get_or head i 0
unfolding gnu_head number_at
head_again order head rest i below low =
    ap (number_of order) (in_row order 4 head rest i below)
    ∙ number_of_octets order 4 (get_or head i 0) low

-- ---- A section whose numbers fit their widths

pub record Fits (class : Class) (h : GnuHash) : Type 0 where
  pub symoffset : h.symoffset < 256 ^ 4
  pub shift : h.shift < 256 ^ 4
  pub size : length h.bloom < 256 ^ 4
  pub nbuckets : length h.buckets < 256 ^ 4
  pub bloom : (i : ℕ) → i < length h.bloom → get_or h.bloom i 0 < 256 ^ bloom_bytes class
  pub buckets : (i : ℕ) → i < length h.buckets → get_or h.buckets i 0 < 256 ^ 4
  pub chains : (i : ℕ) → i < length h.chains → get_or h.chains i 0 < 256 ^ 4

module _ (class : Class) (order : Order) (h : GnuHash) (fits : Fits class h) where
  abbrev width : ℕ
  width = bloom_bytes class

  abbrev head : List ℕ
  head = length h.buckets ∷ h.symoffset ∷ length h.bloom ∷ h.shift ∷ []

  abbrev first : List ℕ
  first = numbers_as order 4 head

  abbrev second : List ℕ
  second = numbers_as order width h.bloom

  abbrev third : List ℕ
  third = numbers_as order 4 h.buckets

  abbrev fourth : List ℕ
  fourth = numbers_as order 4 h.chains

  abbrev bytes : List ℕ
  bytes = first ++ (second ++ (third ++ fourth))

  long : length bytes
      ≡ 16 + width * length h.bloom + 4 * length h.buckets + 4 * length h.chains
  long =
      omega (
        arith,
        length-append first (second ++ (third ++ fourth)),
        length-append second (third ++ fourth),
        length-append third fourth,
        row_long order 4 head,
        row_long order width h.bloom,
        row_long order 4 h.buckets,
        row_long order 4 h.chains,
      )

  nbuckets_is : gnu_head order bytes 0 ≡ length h.buckets
  nbuckets_is = head_again order head (second ++ (third ++ fourth)) 0 (omega arith) fits.nbuckets

  symoffset_is : gnu_head order bytes 1 ≡ h.symoffset
  symoffset_is =
      head_again order head (second ++ (third ++ fourth)) 1 (omega arith) fits.symoffset

  size_is : gnu_head order bytes 2 ≡ length h.bloom
  size_is = head_again order head (second ++ (third ++ fourth)) 2 (omega arith) fits.size

  shift_is : gnu_head order bytes 3 ≡ h.shift
  shift_is = head_again order head (second ++ (third ++ fourth)) 3 (omega arith) fits.shift

  abbrev behind : ℕ
  behind = 16 + width * length h.bloom + 4 * length h.buckets

  behind_is : gnu_chains_at class order bytes ≡ behind
  unfolding gnu_chains_at
  behind_is =
      ap (λ (k : ℕ). 16 + width * k + 4 * gnu_head order bytes 0) size_is
      ∙ ap (λ (k : ℕ). 16 + width * length h.bloom + 4 * k) nbuckets_is

  bloom_again : numbers_at order bytes 16 width (length h.bloom) ≡ h.bloom
  bloom_again =
      numbers_again order width first h.bloom (third ++ fourth) 16 (row_long order 4 head)
      fits.bloom

  buckets_again : numbers_at order bytes (16 + width * length h.bloom) 4 (length h.buckets)
      ≡ h.buckets
  buckets_again =
      ap (λ (b : List ℕ). numbers_at order b (16 + width * length h.bloom) 4 (length h.buckets))
      (sym (append_assoc first second (third ++ fourth)))
      ∙ numbers_again order 4 (first ++ second) h.buckets fourth
      (16 + width * length h.bloom)
      (omega (
        arith,
        length-append first second,
        row_long order 4 head,
        row_long order width h.bloom,
      ))
      fits.buckets

  regrouped : bytes ≡ ((first ++ second) ++ third) ++ (fourth ++ [])
  regrouped =
      sym (append_assoc first second (third ++ fourth))
      ∙ sym (append_assoc (first ++ second) third fourth)
      ∙ ap (λ (b : List ℕ). ((first ++ second) ++ third) ++ b) (sym (append-nil fourth))

  chains_again : numbers_at order bytes behind 4 (length h.chains) ≡ h.chains
  chains_again =
      ap (λ (b : List ℕ). numbers_at order b behind 4 (length h.chains)) regrouped
      ∙ numbers_again order 4 ((first ++ second) ++ third) h.chains [] behind
      (omega (
        arith,
        length-append (first ++ second) third,
        length-append first second,
        row_long order 4 head,
        row_long order width h.bloom,
        row_long order 4 h.buckets,
      ))
      fits.chains

  -- ---- Read back

  abbrev made : ℕ → ℕ → List ℕ → List ℕ → List ℕ → GnuHash
  made symoffset shift bloom buckets chains = record {
    symoffset = symoffset;
    shift = shift;
    bloom = bloom;
    buckets = buckets;
    chains = chains;
  }

  abbrev parts : ℕ → ℕ → ℕ → ℕ → ℕ → ℕ → GnuHash
  parts nbuckets symoffset size shift at count =
      made symoffset shift (numbers_at order bytes 16 width size)
      (numbers_at order bytes (16 + width * size) 4 nbuckets) (numbers_at order bytes at 4 count)

  count_is : (length bytes - behind) / 4 ≡ length h.chains
  count_is = omega (arith, long)

  abbrev number : ℕ → ℕ
  number i = gnu_head order bytes i

  abbrev end : ℕ
  end = gnu_chains_at class order bytes

  lists_again : parts (length h.buckets) h.symoffset (length h.bloom) h.shift behind
      (length h.chains) ≡ made h.symoffset h.shift h.bloom h.buckets h.chains
  lists_again =
      ap (λ (l : List ℕ). made h.symoffset h.shift l
      (numbers_at order bytes (16 + width * length h.bloom) 4 (length h.buckets))
      (numbers_at order bytes behind 4 (length h.chains))) bloom_again
      ∙ ap (λ (l : List ℕ). made h.symoffset h.shift h.bloom l
      (numbers_at order bytes behind 4 (length h.chains))) buckets_again
      ∙ ap (λ (l : List ℕ). made h.symoffset h.shift h.bloom h.buckets l) chains_again

  read_again : gnu_in class order bytes ≡ made h.symoffset h.shift h.bloom h.buckets h.chains
  unfolding gnu_in
  read_again =
      ap (λ (k : ℕ). parts k (number 1) (number 2) (number 3) end ((length bytes - end) / 4))
      nbuckets_is
      ∙ ap (λ (k : ℕ). parts (length h.buckets) k (number 2) (number 3) end
      ((length bytes - end) / 4)) symoffset_is
      ∙ ap (λ (k : ℕ). parts (length h.buckets) h.symoffset k (number 3) end
      ((length bytes - end) / 4)) size_is
      ∙ ap (λ (k : ℕ). parts (length h.buckets) h.symoffset (length h.bloom) k end
      ((length bytes - end) / 4)) shift_is
      ∙ ap (λ (k : ℕ). parts (length h.buckets) h.symoffset (length h.bloom) h.shift k
      ((length bytes - k) / 4)) behind_is
      ∙ ap (λ (k : ℕ). parts (length h.buckets) h.symoffset (length h.bloom) h.shift behind k)
      count_is
      ∙ lists_again

  -- ---- A section whose symbols are found

  abbrev all_end : ℕ → GnuHash → Bool
  all_end n g = list_all (λ (k : ℕ). ends (gnu_chain_from g n k)) g.buckets

  abbrev all_found : List (Option (List ℕ)) → GnuHash → Bool
  all_found names g = each_listed (is_found_gnu class g (length names)) names

  not_none : (l : List ℕ) → 0 < length l → not (length l == 0) ≡ true
  not_none l some =
      not_from_false (length l == 0)
      (ne_eqb (length l) 0 (λ none. absurd (omega (arith, none, some))))

  pub whole_bytes : (names : List (Option (List ℕ))) → 0 < length h.buckets → 0 < length h.bloom
      → all_end (length names) h ≡ true → all_found names h ≡ true
      → is_whole_gnu class order (gnu_bytes class order h) names ≡ true
  unfolding is_whole_gnu gnu_bytes
  whole_bytes names some bits end found =
      six _ _ _ _ _ _
      (le-leb 16 (length bytes) (omega (arith, long)))
      (ap (λ (g : GnuHash). not (length g.buckets == 0)) read_again ∙ not_none h.buckets some)
      (ap (λ (g : GnuHash). not (length g.bloom == 0)) read_again ∙ not_none h.bloom bits)
      (le-leb (gnu_chains_at class order bytes) (length bytes) (omega (arith, long, behind_is)))
      (ap (all_end (length names)) read_again ∙ end)
      (ap (all_found names) read_again ∙ found)
