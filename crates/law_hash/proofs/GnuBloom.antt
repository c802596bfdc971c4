-- The bloom that is built for a GNU hash section: each listed symbol passes it.
use Rattle.std.proofs.Common.{◌≡◌, ◌/◌, ◌%◌, ◌^◌, ◌<◌, ℕ, Bool, true, cond, List, length, get_or, map, Option, Some, None, refl, sym, ap, ◌∙◌, subst, mod-lt, arith}
use Rattle.std.specs.Int.{bit_at}
use Rattle.std.specs.List.{range_with_len, list_any}
use Rattle.std.proofs.lemmas.Bool.{and_from, or_left, or_right, eq-eqb}
use Rattle.std.proofs.lemmas.List.Folds.{list_any_at}
use Rattle.std.proofs.lemmas.List.FromFn.{length-map-range_with_len, get_or-map-range_with_len}
use Rattle.elf_types.specs.declared.records.Class.{Class}
use Rattle.elf_types.specs.declared.records.Class.TheVariants.{C32, C64}
use Rattle.rebuild_model.specs.hash_model.HashSections.{bloom_bits, bloom_bytes, has_bit, passes}
use Rattle.rebuild_model.specs.hash_model.BuiltHashes.{GnuShape, bloom_word, sets_bit}
use Rattle.hash_build.proofs.BloomLaws.{bits_to, bits_low, bit_in, bits_some}

word_width : (class : Class) → 2 ^ bloom_bits class ≡ 256 ^ bloom_bytes class
word_width C32 = omega arith
word_width C64 = omega arith

module _ (class : Class) (shape : GnuShape) (hashes : List (Option ℕ)) where
  abbrev words : List ℕ
  words = map (bloom_word class shape hashes) (range_with_len 0 shape.bloom)

  -- the bits of a word
  abbrev bits : ℕ → ℕ → Bool
  bits w bit = list_any (sets_bit class shape w bit) hashes

  pub words_long : length (map (bloom_word class shape hashes) (range_with_len 0 shape.bloom))
      ≡ shape.bloom
  words_long = length-map-range_with_len (bloom_word class shape hashes) 0 shape.bloom

  word_low : (w : ℕ) → bloom_word class shape hashes w < 256 ^ bloom_bytes class
  unfolding bloom_word
  word_low w =
      subst (λ (k : ℕ). bits_to (bits w) (bloom_bits class) < k) (word_width class)
      (bits_low (bits w) (bloom_bits class))

  word_at : (w : ℕ) → w < shape.bloom → get_or words w 0 ≡ bloom_word class shape hashes w
  word_at w below =
      get_or-map-range_with_len (bloom_word class shape hashes) 0 shape.bloom w w 0 below
      (omega arith)

  pub words_low : (w : ℕ)
      → w < length (map (bloom_word class shape hashes) (range_with_len 0 shape.bloom))
      → get_or (map (bloom_word class shape hashes) (range_with_len 0 shape.bloom)) w 0
      < 256 ^ bloom_bytes class
  words_low w below =
      subst (λ (n : ℕ). n < 256 ^ bloom_bytes class)
      (sym (word_at w (omega (arith, below, words_long)))) (word_low w)

  -- a bit that some hash sets
  bit_there : (w bit : ℕ) → bit < bloom_bits class → bits w bit ≡ true
      → has_bit (bloom_word class shape hashes w) bit ≡ true
  unfolding bloom_word
  bit_there w bit below any =
      eq-eqb (bit_at (bits_to (bits w) (bloom_bits class)) bit) 1
      (bit_in (bits w) (bloom_bits class) bit below ∙ ap (λ (b : Bool). cond b 1 0) any)

  module _ (k hash : ℕ) (below : k < length hashes) (at : get_or hashes k None ≡ Some hash)
      (some : 0 < shape.bloom) where
    abbrev w : ℕ
    w = hash / bloom_bits class % shape.bloom

    abbrev one : ℕ
    one = hash % bloom_bits class

    abbrev other : ℕ
    other = hash / 2 ^ shape.shift % bloom_bits class

    set_by : (bit : ℕ) → sets_bit class shape w bit (Some hash) ≡ true → bits w bit ≡ true
    set_by bit sets =
        list_any_at (sets_bit class shape w bit) hashes k None below
        (ap (sets_bit class shape w bit) at ∙ sets)

    one_set : bits w one ≡ true
    one_set =
        set_by one (and_from _ _ (eq-eqb w w refl) (or_left _ _ (eq-eqb one one refl)))

    other_set : bits w other ≡ true
    other_set =
        set_by other (and_from _ _ (eq-eqb w w refl) (or_right _ _ (eq-eqb other other refl)))

    -- in any section with this bloom
    pub hash_passes : (symoffset : ℕ) (buckets chains : List ℕ)
        → passes class (record {
          symoffset = symoffset;
          shift = shape.shift;
          bloom = map (bloom_word class shape hashes) (range_with_len 0 shape.bloom);
          buckets = buckets;
          chains = chains;
        }) hash ≡ true
    unfolding passes
    hash_passes symoffset buckets chains =
        let place : hash / bloom_bits class % length words ≡ w =
        ap (λ (m : ℕ). hash / bloom_bits class % m) words_long in
        let word : get_or words (hash / bloom_bits class % length words) 0
        ≡ bloom_word class shape hashes w =
        ap (λ (i : ℕ). get_or words i 0) place
        ∙ word_at w (mod-lt (hash / bloom_bits class) some) in
        and_from _ _
        (ap (λ (x : ℕ). has_bit x one) word
        ∙ bit_there w one (mod-lt hash (bits_some class)) one_set)
        (ap (λ (x : ℕ). has_bit x other) word
        ∙ bit_there w other (mod-lt (hash / 2 ^ shape.shift) (bits_some class)) other_set)
