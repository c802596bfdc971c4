-- The bloom of GNU's hash section: bits that are set one by one, and the words that have just these.
use Rattle.std.proofs.Common.{◌≡◌, ◌==◌, ◌||◌, ◌&&◌, ◌+◌, ◌-◌, ◌*◌, ◌/◌, ◌%◌, ◌^◌, ◌<◌, ◌≤◌, ◌⊎◌, ℕ, zero, suc, Bool, true, false, not, cond, List, length, get_or, take, set, map, Option, Some, None, refl, sym, ap, ◌∙◌, inl, inr, arith, mod-lt, pow-suc, pow_pos}
use Rattle.std.specs.Prelude.{nat_lt}
use Rattle.std.specs.Int.{bit_at}
use Rattle.std.specs.List.{range_with_len, list_any, position, sum}
use Rattle.std.proofs.lemmas.Bool.{cases_eq, cases_lt, eq-eqb, ne_eqb, lt-ltb, le-ltb, and_right, or_from}
use Rattle.std.proofs.lemmas.List.{length-set, length-replicate, get_or-replicate, get_or-set_same, get_or-set_other, take_all}
use Rattle.std.proofs.lemmas.List.Folds.{list_any_more, list_any_none}
use Rattle.std.proofs.lemmas.List.FromFn.{sum_by-map-range_with_len_more, fill_by_all}
use Rattle.std.proofs.lemmas.List.Sums.{position_or_len_is}
use Rattle.std.proofs.lemmas.Nat.Bits.{bit_at-zero, bit_at_cat_low, bit_at_cat_high, bit_at_above, same_from_bits}
use Rattle.elf_types.specs.declared.records.Class.{Class}
use Rattle.elf_types.specs.declared.records.Class.TheVariants.{C32, C64}
use Rattle.elf_xlate.specs.declared.content.Items.TheVariants.{Addr}
use Rattle.elf_xlate.specs.Fields.{fits}
use Rattle.elf_xlate.specs.Translation.{first_unfit}
use Rattle.elf_xlate.proofs.Broad.{none_unfit}
use Rattle.symbol_lookup.specs.hash_model.HashSections.{bloom_bits}
use Rattle.symbol_lookup.specs.hash_model.BuiltHashes.{bloom_word, sets_bit}
use Rattle.hash_build.specs.declared.shape.GnuShape.{GnuShape}
use Rattle.hash_build.specs.Calls.{stated}
use Rattle.hash_build.specs.Hashed.{zeros_of}
use Rattle.hash_build.specs.Gnu.{HasBitMore, HasHashMore, HasHashes, bloom_of}

-- ---- A number by its bits

module _ (q : ℕ → Bool) where
  abbrev part : ℕ → ℕ
  part bit = cond (q bit) (2 ^ bit) 0

  -- the number with the bits below one that pass
  abbrev pub bits_to : ℕ → ℕ
  bits_to n = sum (map (λ bit. cond (q bit) (2 ^ bit) 0) (range_with_len 0 n))

  bits_more : (n : ℕ) → bits_to (suc n) ≡ cond (q n) 1 0 * 2 ^ n + bits_to n
  bits_more n =
      ap (λ (m : ℕ). bits_to m) (let more : suc n ≡ n + 1 = omega arith in more)
      ∙ sum_by-map-range_with_len_more (λ x. x) part 0 n n (omega arith)
      ∙ by (q n)
    where
      by : (b : Bool) → bits_to n + cond b (2 ^ n) 0 ≡ cond b 1 0 * 2 ^ n + bits_to n
      by true = omega arith
      by false = omega arith

  pub bits_low : (n : ℕ) → bits_to n < 2 ^ n
  bits_low zero = pow_pos 0
  bits_low (suc n) = by (q n) (bits_more n) (bits_low n)
    where
      by : (b : Bool) → bits_to (suc n) ≡ cond b 1 0 * 2 ^ n + bits_to n → bits_to n < 2 ^ n
          → bits_to (suc n) < 2 ^ suc n
      by true is low = omega (arith, is, low, pow-suc 2 n)
      by false is low = omega (arith, is, low, pow-suc 2 n)

  lowest : (b : Bool) → bit_at (cond b 1 0) 0 ≡ cond b 1 0
  lowest true = refl
  lowest false = refl

  pub bit_in : (n i : ℕ) → i < n → bit_at (bits_to n) i ≡ cond (q i) 1 0
  bit_in zero i below = absurd (omega arith)
  bit_in (suc n) i below =
      ap (λ (x : ℕ). bit_at x i) (bits_more n) ∙ by (bit_in n i) (cases_lt i n)
    where
      by : (i < n → bit_at (bits_to n) i ≡ cond (q i) 1 0) → (i < n) ⊎ (n ≤ i)
          → bit_at (cond (q n) 1 0 * 2 ^ n + bits_to n) i ≡ cond (q i) 1 0
      by before (inl low) =
          bit_at_cat_low (cond (q n) 1 0) n (bits_to n) i low ∙ before low
      by before (inr high) =
          let same : n ≡ i = omega (arith, high, below) in
          bit_at_cat_high (cond (q n) 1 0) n (bits_to n) i (bits_low n) high
          ∙ ap (λ (k : ℕ). bit_at (cond (q n) 1 0) k)
          (let none : i - n ≡ 0 = omega (arith, same) in none)
          ∙ lowest (q n) ∙ ap (λ (k : ℕ). cond (q k) 1 0) same

-- ---- Two bits more

twice_bit : (word once twice b c i : ℕ) → HasBitMore word once b → HasBitMore once twice c
    → bit_at twice i ≡ cond (b == i || c == i) 1 (bit_at word i)
twice_bit word once twice b c i first second = by (cases_eq i b) (cases_eq i c)
  where
    at : (s t : Bool) → (b == i) ≡ s → (c == i) ≡ t
        → cond (b == i || c == i) 1 (bit_at word i) ≡ cond (s || t) 1 (bit_at word i)
    at s t left right =
        ap (λ (x : Bool). cond (x || c == i) 1 (bit_at word i)) left
        ∙ ap (λ (x : Bool). cond (s || x) 1 (bit_at word i)) right

    by : (i ≡ b) ⊎ (i ≡ b → ⊥) → (i ≡ c) ⊎ (i ≡ c → ⊥)
        → bit_at twice i ≡ cond (b == i || c == i) 1 (bit_at word i)
    by (inl one) (inl two) =
        ap (λ (k : ℕ). bit_at twice k) two ∙ second.same
        ∙ sym (at true true (eq-eqb b i (sym one)) (eq-eqb c i (sym two)))
    by (inl one) (inr other) =
        second.others i other ∙ ap (λ (k : ℕ). bit_at once k) one ∙ first.same
        ∙ sym (at true false (eq-eqb b i (sym one)) (ne_eqb c i (λ e. other (sym e))))
    by (inr another) (inl two) =
        ap (λ (k : ℕ). bit_at twice k) two ∙ second.same
        ∙ sym (at false true (ne_eqb b i (λ e. another (sym e))) (eq-eqb c i (sym two)))
    by (inr another) (inr other) =
        second.others i other ∙ first.others i another
        ∙ sym (at false false (ne_eqb b i (λ e. another (sym e)))
        (ne_eqb c i (λ e. other (sym e))))

pub bits_some : (class : Class) → 0 < bloom_bits class
bits_some C32 = omega arith
bits_some C64 = omega arith

module _ (class : Class) (shape : GnuShape) where
  -- ---- One hash more

  pub hash_more : (old new : List ℕ) (hash bits at word once twice moved : ℕ)
      → 0 < shape.bloom → length old ≡ shape.bloom → bits ≡ bloom_bits class
      → at ≡ hash / bits % shape.bloom → word ≡ get_or old at 0
      → HasBitMore word once (hash % bits) → moved ≡ hash / 2 ^ shape.shift
      → HasBitMore once twice (moved % bits) → new ≡ set old at twice
      → HasHashMore class shape old new (Some hash)
  hash_more old new hash bits at word once twice moved some long bits_is at_is word_is first
      moved_is second is = record {
        long = ap (λ (l : List ℕ). length l) is ∙ length-set old at twice;
        bits = λ w bit below. ap (λ (l : List ℕ). bit_at (get_or l w 0) bit) is
            ∙ by w bit below (cases_eq w at);
      }
    where
      -- the bits of the hash in its word
      both : (bit : ℕ) → (hash % bits == bit || moved % bits == bit)
          ≡ (hash % bloom_bits class == bit
          || hash / 2 ^ shape.shift % bloom_bits class == bit)
      both bit =
          ap (λ (n : ℕ). hash % n == bit || moved % n == bit) bits_is
          ∙ ap (λ (n : ℕ). hash % bloom_bits class == bit || n % bloom_bits class == bit) moved_is

      where_at : at ≡ hash / bloom_bits class % shape.bloom
      where_at = at_is ∙ ap (λ (n : ℕ). hash / n % shape.bloom) bits_is

      -- the same in a word
      in_word : (w bit : ℕ) (b : Bool) → (hash / bloom_bits class % shape.bloom == w) ≡ b
          → sets_bit class (stated shape) w bit (Some hash)
          ≡ (b && (hash % bloom_bits class == bit
          || hash / 2 ^ shape.shift % bloom_bits class == bit))
      in_word w bit b known =
          ap (λ (t : Bool). t && (hash % bloom_bits class == bit
          || hash / 2 ^ shape.shift % bloom_bits class == bit)) known

      by : (w bit : ℕ) → w < shape.bloom → (w ≡ at) ⊎ (w ≡ at → ⊥)
          → bit_at (get_or (set old at twice) w 0) bit
          ≡ cond (sets_bit class (stated shape) w bit (Some hash)) 1
          (bit_at (get_or old w 0) bit)
      by w bit below (inl same) =
          ap (λ (k : ℕ). bit_at (get_or (set old at twice) k 0) bit) same
          ∙ ap (λ (x : ℕ). bit_at x bit)
          (get_or-set_same old at twice 0 (omega (arith, same, below, long)))
          ∙ twice_bit word once twice (hash % bits) (moved % bits) bit first second
          ∙ ap (λ (b : Bool). cond b 1 (bit_at word bit)) (both bit)
          ∙ ap (λ (b : Bool). cond b 1 (bit_at word bit))
          (sym (in_word w bit true (eq-eqb _ w (sym where_at ∙ sym same))))
          ∙ ap (λ (x : ℕ). cond (sets_bit class (stated shape) w bit (Some hash)) 1
          (bit_at x bit)) (word_is ∙ ap (λ (k : ℕ). get_or old k 0) (sym same))
      by w bit below (inr other) =
          ap (λ (x : ℕ). bit_at x bit) (get_or-set_other old at w twice 0 other)
          ∙ ap (λ (b : Bool). cond b 1 (bit_at (get_or old w 0) bit))
          (sym (in_word w bit false (ne_eqb _ w (λ e. other (sym e ∙ sym where_at)))))

  pub nothing_more : (words : List ℕ) → HasHashMore class shape words words None
  nothing_more words = record { long = refl; bits = λ w bit below. refl }

  -- ---- All the hashes

  pub begun_hashes : (words : List ℕ) (hashes : List (Option ℕ)) → words ≡ zeros_of shape.bloom
      → HasHashes class shape words (take 0 hashes)
  begun_hashes words hashes is = record {
    long = ap (λ (l : List ℕ). length l) is ∙ length-replicate shape.bloom 0;
    bits = λ w bit below. ap (λ (l : List ℕ). bit_at (get_or l w 0) bit) is
        ∙ ap (λ (x : ℕ). bit_at x bit) (get_or-replicate shape.bloom w 0 0 below)
        ∙ bit_at-zero bit;
  }

  either_more : (a b : Bool)
      → ◌≡◌ {A = ℕ} (cond b 1 (cond a 1 0)) (cond (a || b) 1 0)
  either_more true true = refl
  either_more true false = refl
  either_more false true = refl
  either_more false false = refl

  pub more_hashes : (old new : List ℕ) (hashes : List (Option ℕ)) (hash : Option ℕ) (i : ℕ)
      → i < length hashes → hash ≡ get_or hashes i None → HasHashMore class shape old new hash
      → HasHashes class shape old (take i hashes)
      → HasHashes class shape new (take (i + 1) hashes)
  more_hashes old new hashes hash i below is one has = record {
    long = one.long ∙ has.long;
    bits = λ w bit within.
        let test = sets_bit class (stated shape) w bit in
        one.bits w bit within
        ∙ ap (λ (x : ℕ). cond (sets_bit class (stated shape) w bit hash) 1 x)
        (has.bits w bit within)
        ∙ either_more (list_any (sets_bit class (stated shape) w bit) (take i hashes))
        (sets_bit class (stated shape) w bit hash)
        ∙ ap (λ (h : Option ℕ). cond
        (list_any (sets_bit class (stated shape) w bit) (take i hashes)
        || sets_bit class (stated shape) w bit h) 1 0) is
        ∙ ap (λ (b : Bool). cond b 1 0) (sym (list_any_more test hashes i None below));
  }

  pub all_hashes : (words : List ℕ) (hashes : List (Option ℕ)) (i count : ℕ) → count ≤ i
      → count ≡ length hashes → HasHashes class shape words (take i hashes)
      → HasHashes class shape words hashes
  all_hashes words hashes i count past is has = record {
    long = has.long;
    bits = λ w bit within. has.bits w bit within
        ∙ ap (λ (l : List (Option ℕ)).
        cond (list_any (sets_bit class (stated shape) w bit) l) 1 0)
        (take_all i hashes (omega (arith, past, is)));
  }

  -- ---- The words

  unset_above : (w bit : ℕ) → bloom_bits class ≤ bit → (hash : Option ℕ)
      → sets_bit class (stated shape) w bit hash ≡ false
  unset_above w bit above None = refl
  unset_above w bit above (Some hash) =
      let first : hash % bloom_bits class < bloom_bits class = mod-lt hash (bits_some class) in
      let second : hash / 2 ^ shape.shift % bloom_bits class < bloom_bits class =
      mod-lt (hash / 2 ^ shape.shift) (bits_some class) in
      and_right (hash / bloom_bits class % shape.bloom == w) _
      (or_from _ _
      (ne_eqb (hash % bloom_bits class) bit (λ same. absurd (omega (arith, same, first, above))))
      (ne_eqb (hash / 2 ^ shape.shift % bloom_bits class) bit
      (λ same. absurd (omega (arith, same, second, above)))))

  module _ (hashes : List (Option ℕ)) where
    abbrev passes : ℕ → ℕ → Bool
    passes w bit = list_any (sets_bit class (stated shape) w bit) hashes

    word_bit : (w bit : ℕ) → (bit < bloom_bits class) ⊎ (bloom_bits class ≤ bit)
        → bit_at (bits_to (passes w) (bloom_bits class)) bit ≡ cond (passes w bit) 1 0
    word_bit w bit (inl low) = bit_in (passes w) (bloom_bits class) bit low
    word_bit w bit (inr high) =
        bit_at_above (bits_to (passes w) (bloom_bits class)) (bloom_bits class) bit
        (bits_low (passes w) (bloom_bits class)) high
        ∙ sym (ap (λ (b : Bool). cond b 1 0)
        (list_any_none (sets_bit class (stated shape) w bit) hashes
        (λ k d within. unset_above w bit high (get_or hashes k d))))

    word_same : (words : List ℕ) → HasHashes class shape words hashes → (w : ℕ) → w < shape.bloom
        → get_or words w 0 ≡ bits_to (passes w) (bloom_bits class)
    word_same words has w within =
        same_from_bits (get_or words w 0) (bits_to (passes w) (bloom_bits class))
        (λ bit. has.bits w bit within ∙ sym (word_bit w bit (cases_lt bit (bloom_bits class))))

    word_is : (words : List ℕ) → HasHashes class shape words hashes → (w : ℕ) → w < shape.bloom
        → get_or words w 0 ≡ bloom_word class (stated shape) hashes w
    unfolding bloom_word
    word_is words has w within = word_same words has w within

    pub words_are : (words : List ℕ) → HasHashes class shape words hashes
        → words ≡ bloom_of class shape hashes
    unfolding bloom_of
    words_are words has =
        fill_by_all (bloom_word class (stated shape) hashes) words shape.bloom 0 has.long
        (word_is words has)

    word_low : (words : List ℕ) → HasHashes class shape words hashes → (w : ℕ) → w < shape.bloom
        → get_or words w 0 < 2 ^ bloom_bits class
    word_low words has w within =
        omega (arith, word_same words has w within, bits_low (passes w) (bloom_bits class))

-- ---- They fit

position_none : {X : Type 0} (p : X → Bool) (l : List X) (d : X)
    → ((k : ℕ) → k < length l → p (get_or l k d) ≡ false) → position p l ≡ None
position_none p l d fails =
    ap (λ (n : ℕ). cond (nat_lt n (length l)) (Some n) None)
    (position_or_len_is p l (length l) d (omega arith) fails (λ past. absurd (omega arith)))
    ∙ ap (λ (b : Bool). cond b (Some (length l)) None) (le-ltb (length l) (length l) (omega arith))

all_low : (words : List ℕ) → ((w : ℕ) → w < length words → get_or words w 0 < 2 ^ 32)
    → first_unfit C32 (Addr words) ≡ None
unfolding first_unfit
all_low words low =
    position_none (λ n. not (fits C32 n)) words 0
    (λ w within. ap (λ (b : Bool). not b) (lt-ltb (get_or words w 0) (2 ^ 32) (low w within)))

pub words_fit : (class : Class) (shape : GnuShape) (words : List ℕ) (hashes : List (Option ℕ))
    → HasHashes class shape words hashes → first_unfit class (Addr words) ≡ None
words_fit C32 shape words hashes has =
    all_low words (λ w within. word_low C32 shape hashes words has w
    (omega (arith, within, has.long)))
words_fit C64 shape words hashes has = none_unfit (Addr words)
