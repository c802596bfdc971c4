-- Signed numbers.
use Rattle.std.proofs.Common.{◌≡◌, ℕ, suc, ◌-◌, ◌^◌, ◌<◌, ℤ, Bool, false, FitsSigned, to_z, of_z, refl, ap, ◌∙◌, arith, inl, inr}
use Rattle.std.specs.Prelude.{true, pos, negsuc, ◌-ℤ◌}
use Rattle.std.specs.Int.{Width, w32, w64}
use Rattle.std.proofs.Math.Facts.{sfits_to_z}
use Rattle.std.proofs.lemmas.Int.{to_z-of_z, of_z-to_z, ints}
use Rattle.std.proofs.lemmas.Bool.{cases_lt, ltb-true, lt-ltb, le-ltb}
use Rattle.elf_types.specs.declared.records.Class.{Class}
use Rattle.elf_types.specs.declared.records.Class.TheVariants.{C32, C64}
use Rattle.elf_xlate.specs.Numbers.{signed_of, unsigned_of}
use Rattle.elf_xlate.specs.Fields.{class_of, fits, fits_signed, IsSigned}
use Rattle.elf_xlate.specs.Items.{signed_width}

-- a signed number that is passed on
pub passed_on : (w : Width) (z : ℤ) → FitsSigned w z → to_z w (of_z w z) ≡ z
passed_on w z fits = to_z-of_z w z fits

-- the number that stands for a signed one stands for it again
pub unsigned_signed : (class : Class) (n : ℕ) → n < 256 ^ signed_width class → unsigned_of (signed_width class) (signed_of (signed_width class) n) ≡ n
unfolding unsigned_of signed_of
unsigned_signed C32 n h =
    elim (cases_lt n (2 ^ 31)) [
      | inl low ↦ rw (lt-ltb n (2 ^ 31) low) refl
      | inr high ↦
          let less : pos n -ℤ pos (2 ^ 32) ≡ negsuc (2 ^ 32 - suc n) = omega (arith, ints) in
          rw (le-ltb n (2 ^ 31) high, less) (omega arith)
    ]
unsigned_signed C64 n h =
    elim (cases_lt n (2 ^ 63)) [
      | inl low ↦ rw (lt-ltb n (2 ^ 63) low) refl
      | inr high ↦
          let less : pos n -ℤ pos (2 ^ 64) ≡ negsuc (2 ^ 64 - suc n) = omega (arith, ints) in
          rw (le-ltb n (2 ^ 63) high, less) (omega arith)
    ]

-- a signed number that fits is read of the number that stands for it
pub signed_unsigned : (class : Class) (z : ℤ) → IsSigned z → fits_signed class z ≡ true → signed_of (signed_width class) (unsigned_of (signed_width class) z) ≡ z
unfolding unsigned_of signed_of
signed_unsigned C32 (pos m) is small = rw small refl
signed_unsigned C32 (negsuc m) is small =
    let low : m < 2 ^ 31 = ltb-true m (2 ^ 31) small in
    rw (le-ltb (2 ^ 32 - suc m) (2 ^ 31) (omega arith)) (omega (arith, ints))
signed_unsigned C64 (pos m) is small = rw (lt-ltb m (2 ^ 63) is) refl
signed_unsigned C64 (negsuc m) is small = rw (le-ltb (2 ^ 64 - suc m) (2 ^ 63) (omega arith)) (omega (arith, ints))

-- it is below that power of 256
pub unsigned_below : (class : Class) (z : ℤ) → IsSigned z → fits_signed class z ≡ true → unsigned_of (signed_width class) z < 256 ^ signed_width class
unfolding unsigned_of
unsigned_below C32 (pos m) is small = let low : m < 2 ^ 31 = ltb-true m (2 ^ 31) small in omega arith
unsigned_below C32 (negsuc m) is small = omega arith
unsigned_below C64 (pos m) is small = omega arith
unsigned_below C64 (negsuc m) is small = omega arith

-- ---- What the processor reads as signed

-- a number of four bytes
pub four_signed : (n : ℕ) → n < 2 ^ 32 → to_z w32 n ≡ signed_of 4 n
unfolding signed_of
four_signed n h =
    elim (cases_lt n (2 ^ 31)) [
      | inl low ↦ rw (lt-ltb n (2 ^ 31) low) refl
      | inr high ↦
          let less : pos n -ℤ pos (2 ^ 32) ≡ negsuc (2 ^ 32 - suc n) = omega (arith, ints) in
          rw (le-ltb n (2 ^ 31) high, less) refl
    ]

-- and one of eight
pub eight_signed : (n : ℕ) → n < 2 ^ 64 → to_z w64 n ≡ signed_of 8 n
unfolding signed_of
eight_signed n h =
    elim (cases_lt n (2 ^ 63)) [
      | inl low ↦ rw (lt-ltb n (2 ^ 63) low) refl
      | inr high ↦
          let less : pos n -ℤ pos (2 ^ 64) ≡ negsuc (2 ^ 64 - suc n) = omega (arith, ints) in
          rw (le-ltb n (2 ^ 63) high, less) refl
    ]

-- the first fits class 32
pub signed_narrow : (n : ℕ) → n < 2 ^ 32 → fits_signed C32 (signed_of 4 n) ≡ true
unfolding signed_of
signed_narrow n h =
    elim (cases_lt n (2 ^ 31)) [
      | inl low ↦ rw (lt-ltb n (2 ^ 31) low) (lt-ltb n (2 ^ 31) low)
      | inr high ↦
          let less : pos n -ℤ pos (2 ^ 32) ≡ negsuc (2 ^ 32 - suc n) = omega (arith, ints) in
          rw (le-ltb n (2 ^ 31) high, less) (lt-ltb (2 ^ 32 - suc n) (2 ^ 31) (omega arith))
    ]

-- in class 64
pub broad_value : (wide : Bool) (n : ℕ) (z : ℤ) → wide ≡ true → n < 2 ^ 64 → z ≡ to_z w64 n
    → to_z w64 (of_z w64 z) ≡ signed_of (signed_width (class_of wide)) n
broad_value true n z e h is =
    ap (λ (y : ℤ). to_z w64 (of_z w64 y)) is
    ∙ ap (λ (m : ℕ). to_z w64 m) (of_z-to_z w64 n h) ∙ eight_signed n h
broad_value false n z e h is = cc

pub broad_fits : (wide : Bool) (z : ℤ) → wide ≡ true → fits_signed (class_of wide) z ≡ true
broad_fits true z e = refl
broad_fits false z e = cc

-- and in class 32
pub narrow_below : (wide : Bool) (n : ℕ) → wide ≡ false → fits (class_of wide) n ≡ true
    → n < 2 ^ 32
narrow_below false n e h = ltb-true n (2 ^ 32) h
narrow_below true n e h = cc

-- what is read of four bytes is passed on as eight
widened : (n : ℕ) (z y : ℤ) → n < 2 ^ 32 → z ≡ to_z w32 n → y ≡ to_z w32 (of_z w32 z)
    → to_z w64 (of_z w64 y) ≡ to_z w32 n
widened n z y h read same =
    let small : FitsSigned w32 (to_z w32 n) = sfits_to_z {w = w32} {n = n} (record { fits = h }) in
    let value : y ≡ to_z w32 n =
    same ∙ ap (λ (x : ℤ). to_z w32 (of_z w32 x)) read
    ∙ ap (λ (m : ℕ). to_z w32 m) (of_z-to_z w32 n h) in
    ap (λ (x : ℤ). to_z w64 (of_z w64 x)) value
    ∙ passed_on w64 (to_z w32 n) (record { sfits = omega (arith, small.sfits) })

pub narrow_value : (wide : Bool) (n : ℕ) (z y : ℤ) → wide ≡ false → n < 2 ^ 32 → z ≡ to_z w32 n
    → y ≡ to_z w32 (of_z w32 z)
    → to_z w64 (of_z w64 y) ≡ signed_of (signed_width (class_of wide)) n
narrow_value false n z y e h read same = widened n z y h read same ∙ four_signed n h
narrow_value true n z y e h read same = cc

pub narrow_fits : (wide : Bool) (n : ℕ) (z y : ℤ) → wide ≡ false → n < 2 ^ 32 → z ≡ to_z w32 n
    → y ≡ to_z w32 (of_z w32 z)
    → fits_signed (class_of wide) (to_z w64 (of_z w64 y)) ≡ true
narrow_fits false n z y e h read same =
    ap (fits_signed C32) (widened n z y h read same ∙ four_signed n h) ∙ signed_narrow n h
narrow_fits true n z y e h read same = cc
