-- Items that are read of bytes fit their class, and each of their fields is in the range of its
-- type.
use Rattle.std.proofs.Common.{◌≡◌, ℕ, zero, suc, ◌+◌, ◌-◌, ◌*◌, ◌/◌, ◌%◌, ◌^◌, ◌<◌, ◌≤◌, List, [], ◌∷◌, ◌++◌, length, take, drop, refl, sym, ap, ◌∙◌, subst, inl, inr, arith, add-one}
use Rattle.std.specs.Prelude.{Some, None, true, pos, negsuc, ◌-ℤ◌}
use Rattle.std.specs.Option.{option_map}
use Rattle.std.specs.List.{All}
use Rattle.std.proofs.lemmas.Bool.{and_from, cases_lt, lt-ltb, le-ltb, leb-true}
use Rattle.std.proofs.lemmas.Int.{ints}
use Rattle.std.proofs.lemmas.List.{length-take-le, length-drop}
use Rattle.std.proofs.lemmas.List.Elements.{All-nil}
use Rattle.std.proofs.Math.Nat.{div-add-mod, mul_comm, suc-mul}
use Rattle.elf_types.specs.declared.records.Class.{Class}
use Rattle.elf_types.specs.declared.records.Class.TheVariants.{C32, C64}
use Rattle.elf_types.specs.declared.records.Order.{Order}
use Rattle.elf_types.specs.declared.records.Kind.{Kind}
use Rattle.elf_types.specs.declared.records.Kind.TheVariants as kinds
use Rattle.elf_xlate.specs.declared.content.Items.{Items}
use Rattle.elf_xlate.specs.declared.content.Items.TheVariants.{Empty, Bytes, Half, Word, Addr, Sym, Rel, Rela, Dyn}
use Rattle.elf_xlate.specs.Numbers.{number_at, signed_of}
use Rattle.elf_xlate.specs.Fields.{field, number_in, fits, IsSigned}
use Rattle.elf_xlate.specs.Items.{item_size, half_of, word_of, addr_of, sym_of, sym_fits, IsSym, type_range, info_fits, signed_width, rel_of, rel_fits, IsRel, rela_of, rela_fits, IsRela, dyn_of, dyn_fits, IsDyn}
use Rattle.elf_xlate.specs.Translation.{items_of, listed, decoded, first_unfit, AreItems}
use Rattle.elf_xlate.proofs.Broad.{none_unfit}
use Rattle.elf_xlate.proofs.Decoded.{listed_is}
use Rattle.elf_xlate.proofs.Digits.{AreBytes, are_bytes, part_bytes}
use Rattle.elf_xlate.proofs.EachItem.{below, read_native}
use Rattle.elf_xlate.proofs.Laid.{lies_in}
use Rattle.elf_xlate.proofs.Pieces.{all_and_one, all_pass, items_of_more, items_of_none}
use Rattle.elf_xlate.proofs.Signed.{signed_narrow}

-- ---- Lists of items

-- what holds of an item of any bytes of its size
abbrev IsOfEach : {X : Type 0} → (X → Type 0) → (List ℕ → X) → ℕ → Type 0
IsOfEach P item size = (piece : List ℕ) → AreBytes piece → length piece ≡ size → P (item piece)

-- it holds of each of so many items
of_items : {X : Type 0} (P : X → Type 0) (item : List ℕ → X) (size n : ℕ) (bytes : List ℕ)
    → IsOfEach P item size → AreBytes bytes → n * size ≤ length bytes
    → All P (items_of item size n bytes)
of_items {X} P item size zero bytes each bs room =
    subst (λ (l : List X). All P l) (sym (items_of_none item size bytes)) (All-nil P)
of_items {X} P item size (suc n) bytes each bs room =
    let end : n * size + size ≡ suc n * size = sym (suc-mul n size) in
    let piece : List ℕ = take size (drop (n * size) bytes) in
    let len : length (take size (drop (n * size) bytes)) ≡ size =
    length-take-le size (drop (n * size) bytes) (omega (arith, length-drop (n * size) bytes)) in
    let front = of_items P item size n bytes each bs (omega arith) in
    let more : items_of item size (suc n) bytes ≡ items_of item size n bytes ++ item piece ∷ [] =
    ap (λ (k : ℕ). items_of item size k bytes) (sym (add-one n)) ∙ items_of_more item size n bytes
    in
    subst (λ (l : List X). All P l) (sym more)
    (all_and_one P (items_of item size n bytes) (item piece) front
    (each piece (part_bytes (n * size) size bytes bs) len))

-- and so of the items that bytes hold
of_listed : {X : Type 0} (Q : Items → Type 0) (P : X → Type 0) (variant : List X → Items)
    (item : List ℕ → X) (size : ℕ) (bytes : List ℕ) (items : Items)
    → ((l : List X) → All P l → Q (variant l)) → IsOfEach P item size → AreBytes bytes
    → option_map variant (listed item size bytes) ≡ Some items → Q items
of_listed Q P variant item size bytes items then each bs given =
    let is = listed_is variant item size bytes items given in
    let n : ℕ = length bytes / size in
    let all : length bytes / size * size ≡ length bytes =
    omega (arith, div-add-mod (length bytes) size, mul_comm size (length bytes / size), is.0) in
    subst Q (sym is.1)
    (then (items_of item size n bytes) (of_items P item size n bytes each bs (omega arith)))

-- ---- Class 32

-- a number of a field of four bytes, eight in class 64
fits_narrow : (order : Order) (p q size : ℕ) (bytes : List ℕ) → AreBytes bytes
    → length bytes ≡ size → lies_in C32 size (field (p, 4) (q, 8)) ≡ true
    → fits C32 (number_in C32 order bytes (field (p, 4) (q, 8))) ≡ true
fits_narrow order p q size bytes bs len inside =
    lt-ltb (number_in C32 order bytes (field (p, 4) (q, 8))) (2 ^ 32)
    (read_native C32 order p q size bytes bs len inside)

-- the two parts of r_info
info_narrow : (n : ℕ) → n < 2 ^ 32 → info_fits C32 (n / 2 ^ 8) (n % 2 ^ 8) ≡ true
info_narrow n h =
    and_from _ _ (lt-ltb (n / 2 ^ 8) (2 ^ 24) (omega arith))
    (lt-ltb (n % 2 ^ 8) (2 ^ 8) (omega arith))

addr_narrow : (order : Order) → IsOfEach (λ n. fits C32 n ≡ true) (addr_of C32 order) 4
unfolding addr_of
addr_narrow order bytes bs len = fits_narrow order 0 0 4 bytes bs len refl

sym_narrow : (order : Order) → IsOfEach (λ s. sym_fits C32 s ≡ true) (sym_of C32 order) 16
unfolding sym_of sym_fits
sym_narrow order bytes bs len =
    and_from _ _ (fits_narrow order 4 8 16 bytes bs len refl)
    (fits_narrow order 8 16 16 bytes bs len refl)

rel_narrow : (order : Order) → IsOfEach (λ r. rel_fits C32 r ≡ true) (rel_of C32 order) 8
unfolding rel_of rel_fits
rel_narrow order bytes bs len =
    and_from _ _ (fits_narrow order 0 0 8 bytes bs len refl)
    (info_narrow _ (read_native C32 order 4 8 8 bytes bs len refl))

rela_narrow : (order : Order) → IsOfEach (λ r. rela_fits C32 r ≡ true) (rela_of C32 order) 12
unfolding rela_of rela_fits
rela_narrow order bytes bs len =
    and_from _ _
    (
    and_from _ _ (fits_narrow order 0 0 12 bytes bs len refl)
    (info_narrow _ (read_native C32 order 4 8 12 bytes bs len refl))
    )
    (signed_narrow _ (read_native C32 order 8 16 12 bytes bs len refl))

dyn_narrow : (order : Order) → IsOfEach (λ d. dyn_fits C32 d ≡ true) (dyn_of C32 order) 8
unfolding dyn_of dyn_fits
dyn_narrow order bytes bs len =
    and_from _ _ (signed_narrow _ (read_native C32 order 0 0 8 bytes bs len refl))
    (fits_narrow order 4 8 8 bytes bs len refl)

pub decoded_narrow : (kind : Kind) (order : Order) (bytes : List ℕ) (items : Items)
    → All (λ b. b < 2 ^ 8) bytes → decoded kind C32 order bytes ≡ Some items
    → first_unfit C32 items ≡ None
unfolding decoded first_unfit
decoded_narrow kinds.Empty order bytes items bs given =
    let same : Empty ≡ items = cc in ap (first_unfit C32) (sym same)
decoded_narrow kinds.Bytes order bytes items bs given =
    let same : Bytes bytes ≡ items = cc in ap (first_unfit C32) (sym same)
decoded_narrow kinds.Half order bytes items bs given =
    of_listed (λ l. first_unfit C32 l ≡ None) (λ n. Unit {0}) Half (half_of C32 order) 2 bytes items
    (λ l all. refl) (λ piece are len. tt) (are_bytes bytes bs) given
decoded_narrow kinds.Word order bytes items bs given =
    of_listed (λ l. first_unfit C32 l ≡ None) (λ n. Unit {0}) Word (word_of C32 order) 4 bytes items
    (λ l all. refl) (λ piece are len. tt) (are_bytes bytes bs) given
decoded_narrow kinds.Addr order bytes items bs given =
    of_listed (λ l. first_unfit C32 l ≡ None) (λ n. fits C32 n ≡ true) Addr (addr_of C32 order) 4
    bytes items (λ l all. all_pass (fits C32) l all) (addr_narrow order) (are_bytes bytes bs) given
decoded_narrow kinds.Sym order bytes items bs given =
    of_listed (λ l. first_unfit C32 l ≡ None) (λ s. sym_fits C32 s ≡ true) Sym (sym_of C32 order) 16
    bytes items (λ l all. all_pass (sym_fits C32) l all) (sym_narrow order) (are_bytes bytes bs)
    given
decoded_narrow kinds.Rel order bytes items bs given =
    of_listed (λ l. first_unfit C32 l ≡ None) (λ r. rel_fits C32 r ≡ true) Rel (rel_of C32 order) 8
    bytes items (λ l all. all_pass (rel_fits C32) l all) (rel_narrow order) (are_bytes bytes bs)
    given
decoded_narrow kinds.Rela order bytes items bs given =
    of_listed (λ l. first_unfit C32 l ≡ None) (λ r. rela_fits C32 r ≡ true) Rela
    (rela_of C32 order) 12 bytes items (λ l all. all_pass (rela_fits C32) l all) (rela_narrow order)
    (are_bytes bytes bs) given
decoded_narrow kinds.Dyn order bytes items bs given =
    of_listed (λ l. first_unfit C32 l ≡ None) (λ d. dyn_fits C32 d ≡ true) Dyn (dyn_of C32 order) 8
    bytes items (λ l all. all_pass (dyn_fits C32) l all) (dyn_narrow order) (are_bytes bytes bs)
    given

-- ---- Both classes

-- Items that bytes hold fit the class in which they are read.
pub decoded_fits : (kind : Kind) (class : Class) (order : Order) (bytes : List ℕ) (items : Items)
    → All (λ b. b < 2 ^ 8) bytes → decoded kind class order bytes ≡ Some items
    → first_unfit class items ≡ None
decoded_fits kind C32 order bytes items bs given = decoded_narrow kind order bytes items bs given
decoded_fits kind C64 order bytes items bs given = none_unfit items

-- a number of a field of one width
fixed_ranged : (class : Class) (order : Order) (p q w size : ℕ) (bytes : List ℕ) → AreBytes bytes
    → length bytes ≡ size → lies_in class size (field (p, w) (q, w)) ≡ true
    → number_in class order bytes (field (p, w) (q, w)) < 256 ^ w
unfolding number_in number_at
fixed_ranged C32 order p q w size bytes bs len inside =
    below order p w bytes bs (omega (arith, len, leb-true (p + w) size inside))
fixed_ranged C64 order p q w size bytes bs len inside =
    below order q w bytes bs (omega (arith, len, leb-true (q + w) size inside))

-- one of a field of four bytes or of eight
native_ranged : (class : Class) (n : ℕ) → n < 256 ^ signed_width class → n < 2 ^ 64
native_ranged C32 n h = omega arith
native_ranged C64 n h = h

info_ranged : (class : Class) (n : ℕ) → n < 256 ^ signed_width class
    → (n / type_range class < 2 ^ 32) × (n % type_range class < 2 ^ 32)
info_ranged C32 n h = (omega arith, omega arith)
info_ranged C64 n h = (omega arith, omega arith)

signed_ranged : (class : Class) (n : ℕ) → n < 256 ^ signed_width class
    → IsSigned (signed_of (signed_width class) n)
unfolding signed_of
signed_ranged C32 n h =
    elim (cases_lt n (2 ^ 31)) [
      | inl low ↦ rw (lt-ltb n (2 ^ 31) low) (omega arith)
      | inr high ↦
          let less : pos n -ℤ pos (2 ^ 32) ≡ negsuc (2 ^ 32 - suc n) = omega (arith, ints) in
          rw (le-ltb n (2 ^ 31) high, less) (omega arith)
    ]
signed_ranged C64 n h =
    elim (cases_lt n (2 ^ 63)) [
      | inl low ↦ rw (lt-ltb n (2 ^ 63) low) low
      | inr high ↦
          let less : pos n -ℤ pos (2 ^ 64) ≡ negsuc (2 ^ 64 - suc n) = omega (arith, ints) in
          rw (le-ltb n (2 ^ 63) high, less) (omega arith)
    ]

-- the fields of four bytes or of eight lie in their items
addr_in : (class : Class) → lies_in class (item_size kinds.Addr class) (field (0, 4) (0, 8)) ≡ true
addr_in C32 = refl
addr_in C64 = refl

addr_ranged : (class : Class) (order : Order)
    → IsOfEach (λ n. n < 2 ^ 64) (addr_of class order) (item_size kinds.Addr class)
unfolding addr_of
addr_ranged class order bytes bs len =
    native_ranged class _ (read_native class order 0 0 _ bytes bs len (addr_in class))

sym_ranged : (class : Class) (order : Order)
    → IsOfEach IsSym (sym_of class order) (item_size kinds.Sym class)
unfolding sym_of
sym_ranged C32 order bytes bs len = record {
  name = fixed_ranged C32 order 0 0 4 16 bytes bs len refl;
  info = fixed_ranged C32 order 12 4 1 16 bytes bs len refl;
  other = fixed_ranged C32 order 13 5 1 16 bytes bs len refl;
  shndx = fixed_ranged C32 order 14 6 2 16 bytes bs len refl;
  value = native_ranged C32 _ (read_native C32 order 4 8 16 bytes bs len refl);
  size = native_ranged C32 _ (read_native C32 order 8 16 16 bytes bs len refl);
}
sym_ranged C64 order bytes bs len = record {
  name = fixed_ranged C64 order 0 0 4 24 bytes bs len refl;
  info = fixed_ranged C64 order 12 4 1 24 bytes bs len refl;
  other = fixed_ranged C64 order 13 5 1 24 bytes bs len refl;
  shndx = fixed_ranged C64 order 14 6 2 24 bytes bs len refl;
  value = native_ranged C64 _ (read_native C64 order 4 8 24 bytes bs len refl);
  size = native_ranged C64 _ (read_native C64 order 8 16 24 bytes bs len refl);
}

-- r_offset, r_info and r_addend
relocation_in : (class : Class)
    → (lies_in class (item_size kinds.Rel class) (field (0, 4) (0, 8)) ≡ true)
    × (lies_in class (item_size kinds.Rel class) (field (4, 4) (8, 8)) ≡ true)
relocation_in C32 = (refl, refl)
relocation_in C64 = (refl, refl)

with_addend_in : (class : Class)
    → (lies_in class (item_size kinds.Rela class) (field (0, 4) (0, 8)) ≡ true)
    × (lies_in class (item_size kinds.Rela class) (field (4, 4) (8, 8)) ≡ true)
    × (lies_in class (item_size kinds.Rela class) (field (8, 4) (16, 8)) ≡ true)
with_addend_in C32 = (refl, refl, refl)
with_addend_in C64 = (refl, refl, refl)

rel_ranged : (class : Class) (order : Order)
    → IsOfEach IsRel (rel_of class order) (item_size kinds.Rel class)
unfolding rel_of
rel_ranged class order bytes bs len =
    let inside = relocation_in class in
    let info = info_ranged class _ (read_native class order 4 8 _ bytes bs len inside.1) in
    record {
      offset = native_ranged class _ (read_native class order 0 0 _ bytes bs len inside.0);
      sym = info.0;
      rtype = info.1;
    }

rela_ranged : (class : Class) (order : Order)
    → IsOfEach IsRela (rela_of class order) (item_size kinds.Rela class)
unfolding rela_of
rela_ranged class order bytes bs len =
    let inside = with_addend_in class in
    let info = info_ranged class _ (read_native class order 4 8 _ bytes bs len inside.1) in
    record {
      offset = native_ranged class _ (read_native class order 0 0 _ bytes bs len inside.0);
      sym = info.0;
      rtype = info.1;
      addend = signed_ranged class _ (read_native class order 8 16 _ bytes bs len inside.2);
    }

-- d_tag and d_val
dyn_in : (class : Class)
    → (lies_in class (item_size kinds.Dyn class) (field (0, 4) (0, 8)) ≡ true)
    × (lies_in class (item_size kinds.Dyn class) (field (4, 4) (8, 8)) ≡ true)
dyn_in C32 = (refl, refl)
dyn_in C64 = (refl, refl)

dyn_ranged : (class : Class) (order : Order)
    → IsOfEach IsDyn (dyn_of class order) (item_size kinds.Dyn class)
unfolding dyn_of
dyn_ranged class order bytes bs len =
    let inside = dyn_in class in
    record {
      tag = signed_ranged class _ (read_native class order 0 0 _ bytes bs len inside.0);
      val = native_ranged class _ (read_native class order 4 8 _ bytes bs len inside.1);
    }

half_in : (class : Class) → lies_in class 2 (field (0, 2) (0, 2)) ≡ true
half_in C32 = refl
half_in C64 = refl

word_in : (class : Class) → lies_in class 4 (field (0, 4) (0, 4)) ≡ true
word_in C32 = refl
word_in C64 = refl

half_ranged : (class : Class) (order : Order) → IsOfEach (λ n. n < 2 ^ 16) (half_of class order) 2
unfolding half_of
half_ranged class order bytes bs len = fixed_ranged class order 0 0 2 2 bytes bs len (half_in class)

word_ranged : (class : Class) (order : Order) → IsOfEach (λ n. n < 2 ^ 32) (word_of class order) 4
unfolding word_of
word_ranged class order bytes bs len = fixed_ranged class order 0 0 4 4 bytes bs len (word_in class)

-- Each field of items that bytes hold is in the range of its type.
pub decoded_ranged : (kind : Kind) (class : Class) (order : Order) (bytes : List ℕ) (items : Items)
    → All (λ b. b < 2 ^ 8) bytes → decoded kind class order bytes ≡ Some items → AreItems items
unfolding decoded
decoded_ranged kinds.Empty class order bytes items bs given =
    let same : Empty ≡ items = cc in subst AreItems same tt
decoded_ranged kinds.Bytes class order bytes items bs given =
    let same : Bytes bytes ≡ items = cc in subst AreItems same bs
decoded_ranged kinds.Half class order bytes items bs given =
    of_listed AreItems (λ n. n < 2 ^ 16) Half (half_of class order) 2 bytes items (λ l all. all)
    (half_ranged class order) (are_bytes bytes bs) given
decoded_ranged kinds.Word class order bytes items bs given =
    of_listed AreItems (λ n. n < 2 ^ 32) Word (word_of class order) 4 bytes items (λ l all. all)
    (word_ranged class order) (are_bytes bytes bs) given
decoded_ranged kinds.Addr class order bytes items bs given =
    of_listed AreItems (λ n. n < 2 ^ 64) Addr (addr_of class order) (item_size kinds.Addr class)
    bytes items (λ l all. all) (addr_ranged class order) (are_bytes bytes bs) given
decoded_ranged kinds.Sym class order bytes items bs given =
    of_listed AreItems IsSym Sym (sym_of class order) (item_size kinds.Sym class) bytes items
    (λ l all. all) (sym_ranged class order) (are_bytes bytes bs) given
decoded_ranged kinds.Rel class order bytes items bs given =
    of_listed AreItems IsRel Rel (rel_of class order) (item_size kinds.Rel class) bytes items
    (λ l all. all) (rel_ranged class order) (are_bytes bytes bs) given
decoded_ranged kinds.Rela class order bytes items bs given =
    of_listed AreItems IsRela Rela (rela_of class order) (item_size kinds.Rela class) bytes items
    (λ l all. all) (rela_ranged class order) (are_bytes bytes bs) given
decoded_ranged kinds.Dyn class order bytes items bs given =
    of_listed AreItems IsDyn Dyn (dyn_of class order) (item_size kinds.Dyn class) bytes items
    (λ l all. all) (dyn_ranged class order) (are_bytes bytes bs) given
