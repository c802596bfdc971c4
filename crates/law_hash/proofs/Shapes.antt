-- The shapes that rehash builds hash sections in: each can be one of a section.
use Rattle.std.proofs.Common.{◌≡◌, ◌<◌, ◌^◌, ◌&&◌, ℕ, Bool, true, false, List, length, get_or, refl, arith}
use Rattle.std.specs.Prelude.{nat_le, nat_lt}
use Rattle.std.proofs.lemmas.Bool.{and_parts, cond_both, leb-true, ltb-true}
use Rattle.elf_types.specs.declared.records.Class.{Class}
use Rattle.elf_types.specs.declared.records.Class.TheVariants.{C32, C64}
use Rattle.elf_types.specs.declared.records.Order.{Order}
use Rattle.rebuild_model.specs.hash_model.BuiltHashes.{GnuShape}
use Rattle.rebuild_model.specs.Laws.{IsShape}
use Rattle.rebuild_model.specs.Rehashed.{is_moderate, smallest_shape, shape_at, is_usable, shape_of, nbucket_of}

three_of : (a b c : Bool) → (a && b && c) ≡ true → (a ≡ true) × (b ≡ true) × (c ≡ true)
three_of true true true is = (refl, refl, refl)
three_of true true false is = cc
three_of true false c is = cc
three_of false b c is = cc

moderate : (n : ℕ) → is_moderate n ≡ true → (0 < n) × (n < 2 ^ 32)
moderate n is =
    let tests = and_parts (nat_le 1 n) (nat_le n (2 ^ 20)) is in (
      omega (arith, leb-true 1 n tests.0),
      omega (arith, leb-true n (2 ^ 20) tests.1),
    )

usable_shape : (shape : GnuShape) → is_usable shape ≡ true → IsShape shape
usable_shape shape is =
    let tests = three_of (is_moderate shape.nbuckets) (is_moderate shape.bloom)
    (nat_lt shape.shift 32) is in
    let buckets = moderate shape.nbuckets tests.0 in
    let bloom = moderate shape.bloom tests.1 in
    record {
      some_buckets = buckets.0;
      nbuckets = buckets.1;
      some_bloom = bloom.0;
      bloom = bloom.1;
      shift = ltb-true shape.shift 32 tests.2;
    }

small_shape : (class : Class) → IsShape (smallest_shape class)
small_shape C32 = record {
  some_buckets = omega arith;
  nbuckets = omega arith;
  some_bloom = omega arith;
  bloom = omega arith;
  shift = omega arith;
}
small_shape C64 = record {
  some_buckets = omega arith;
  nbuckets = omega arith;
  some_bloom = omega arith;
  bloom = omega arith;
  shift = omega arith;
}

pub shape_usable : (class : Class) (order : Order) (bytes : List ℕ)
    → IsShape (shape_of class order bytes)
unfolding shape_of
shape_usable class order bytes =
    cond_both (nat_le 16 (length bytes) && is_usable (shape_at order bytes))
    (shape_at order bytes) (smallest_shape class) IsShape
    (λ is. usable_shape (shape_at order bytes) (and_parts _ _ is).1)
    (λ _. small_shape class)

-- so is its number of buckets in a section of words
pub nbucket_fits : (words : List ℕ) → (0 < nbucket_of words) × (nbucket_of words < 2 ^ 32)
unfolding nbucket_of
nbucket_fits words =
    cond_both (is_moderate (get_or words 0 0)) (get_or words 0 0) 1
    (λ n. (0 < n) × (n < 2 ^ 32)) (moderate (get_or words 0 0)) (λ _. (omega arith, omega arith))
