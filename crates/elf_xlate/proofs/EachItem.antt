-- Each record, read and written: both ways round, by its table.
use Rattle.std.proofs.Common.{◌≡◌, ℕ, ◌+◌, ◌-◌, ◌*◌, ◌/◌, ◌%◌, ◌^◌, ◌<◌, ◌≤◌, List, [], ◌∷◌, length, take, drop, slice_index, refl, sym, ap, ◌∙◌, arith}
use Rattle.std.specs.Prelude.{true, nat_lt, ◌&&◌, ℤ}
use Rattle.std.proofs.Math.ListN.{replicate}
use Rattle.std.proofs.lemmas.List.{length-replicate, length-map, length-take-le, length-drop}
use Rattle.std.proofs.lemmas.Bool.{and_parts, ltb-true, leb-true}
use Rattle.std.proofs.lemmas.Nat.{div-mul-add, div-add-mod'}
use Rattle.std.proofs.Math.Nat.{mul-add-mod_self_right, mod-eq_of_lt}
use Rattle.elf_types.specs.declared.records.Class.{Class}
use Rattle.elf_types.specs.declared.records.Class.TheVariants.{C32, C64}
use Rattle.elf_types.specs.declared.records.Order.{Order}
use Rattle.elf_types.specs.declared.records.Kind.TheVariants as kinds
use Rattle.elf_types.specs.declared.records.Sym.{Sym}
use Rattle.elf_types.specs.declared.records.Rel.{Rel}
use Rattle.elf_types.specs.declared.records.Rela.{Rela}
use Rattle.elf_types.specs.declared.records.Dyn.{Dyn}
use Rattle.elf_xlate.specs.Numbers.{number_of, number_at, signed_of, unsigned_of}
use Rattle.elf_xlate.specs.Fields.{Field, field, place_in, number_in, numbers_in, record_bytes, fits, fits_signed, IsSigned}
use Rattle.elf_xlate.specs.Items.{item_size, half_fields, half_of, half_bytes, word_fields, word_of, word_bytes, addr_fields, addr_of, addr_bytes, sym_fields, sym_numbers, sym_of, sym_bytes, sym_fits, IsSym, type_range, info_fits, signed_width, rel_fields, rel_numbers, rel_of, rel_bytes, rel_fits, IsRel, rela_fields, rela_numbers, rela_of, rela_bytes, rela_fits, IsRela, dyn_fields, dyn_numbers, dyn_of, dyn_bytes, dyn_fits, IsDyn}
use Rattle.elf_xlate.proofs.Rows.{sym_from, rel_from, rela_from, dyn_from}
use Rattle.elf_xlate.proofs.Digits.{AreBytes, number_below, part_bytes}
use Rattle.elf_xlate.proofs.Signed.{unsigned_signed, signed_unsigned, unsigned_below}
use Rattle.elf_xlate.proofs.Laid.{IsTable, Suit, read_laid, laid_back, laid_is_record, length_laid, cover, lies_in}
use Rattle.elf_xlate.proofs.Tables.{half_table, half_covers, word_table, word_covers, addr_table, addr_covers, sym_table, sym_covers, rel_table, rel_covers, rela_table, rela_covers, dyn_table, dyn_covers}

-- ---- The two ways round of a table

-- what was laid is read
pub record_read : (class : Class) (order : Order) (size : ℕ) (fields : List Field) (ns : List ℕ) → IsTable class size fields → Suit class fields ns
    → numbers_in class order (record_bytes class order size fields ns) fields ≡ ns
unfolding record_bytes
record_read class order size fields ns table suit =
    read_laid class order size fields ns (replicate size 0) (length-replicate size 0) table suit

pub length_record : (class : Class) (order : Order) (size : ℕ) (fields : List Field) (ns : List ℕ) → IsTable class size fields
    → length (record_bytes class order size fields ns) ≡ size
unfolding record_bytes
length_record class order size fields ns table =
    length_laid class order size fields ns (replicate size 0) (length-replicate size 0) table.within

-- what was read is written
pub record_written : (class : Class) (order : Order) (size : ℕ) (fields : List Field) (bytes : List ℕ) → AreBytes bytes → length bytes ≡ size
    → IsTable class size fields → cover class fields 0 (size - 0) ≡ true
    → record_bytes class order size fields (numbers_in class order bytes fields) ≡ bytes
record_written class order size fields bytes bs len table covers =
    sym (laid_is_record class order size fields (numbers_in class order bytes fields) bytes len (length-map fields (number_in class order bytes)) table.within covers)
    ∙ laid_back class order size fields bytes bs len table.within

-- ---- Numbers in their widths

-- in a field of one width
pub fixed : (class : Class) (p q w n : ℕ) → n < 256 ^ w → n < 256 ^ (place_in class (field (p, w) (q, w))).1
fixed C32 p q w n h = h
fixed C64 p q w n h = h

-- in a field of four bytes or of eight
pub native : (class : Class) (p q n : ℕ) → n < 2 ^ 64 → fits class n ≡ true → n < 256 ^ (place_in class (field (p, 4) (q, 8))).1
native C32 p q n h small = ltb-true n (2 ^ 32) small
native C64 p q n h small = h

pub below : (order : Order) (place width : ℕ) (bytes : List ℕ) → AreBytes bytes → place + width ≤ length bytes → number_of order (take width (drop place bytes)) < 256 ^ width
below order place width bytes bs room =
    let len : length (take width (drop place bytes)) ≡ width = length-take-le width (drop place bytes) (omega (arith, length-drop place bytes)) in
    let small = number_below order (take width (drop place bytes)) (part_bytes place width bytes bs) in
    rw len at small

-- the number of a field of four bytes or of eight is below that power of 256
pub read_native : (class : Class) (order : Order) (p q size : ℕ) (bytes : List ℕ) → AreBytes bytes → length bytes ≡ size → lies_in class size (field (p, 4) (q, 8)) ≡ true
    → number_in class order bytes (field (p, 4) (q, 8)) < 256 ^ signed_width class
unfolding number_in number_at
read_native C32 order p q size bytes bs len h = below order p 4 bytes bs (omega (arith, len, leb-true (p + 4) size h))
read_native C64 order p q size bytes bs len h = below order q 8 bytes bs (omega (arith, len, leb-true (q + 8) size h))

-- the number that stands for a signed one fits such a field
signed_width_is : (class : Class) (p q : ℕ) (z : ℤ) → IsSigned z → fits_signed class z ≡ true
    → unsigned_of (signed_width class) z < 256 ^ (place_in class (field (p, 4) (q, 8))).1
signed_width_is C32 p q z is small = unsigned_below C32 z is small
signed_width_is C64 p q z is small = unsigned_below C64 z is small

-- ---- Half, Word and Addr

pub half_read : (class : Class) (order : Order) (n : ℕ) → n < 2 ^ 16 → half_of class order (half_bytes class order n) ≡ n
unfolding half_of half_bytes half_fields
half_read class order n h =
    let suit : Suit class half_fields (n ∷ []) = unfold Suit in (fixed class 0 0 2 n h, tt) in
    ap (λ (ns : List ℕ). slice_index ns 0) (record_read class order (item_size kinds.Half class) half_fields (n ∷ []) (half_table class) suit)

pub half_written : (class : Class) (order : Order) (bytes : List ℕ) → AreBytes bytes → length bytes ≡ item_size kinds.Half class
    → half_bytes class order (half_of class order bytes) ≡ bytes
unfolding half_of half_bytes half_fields
half_written class order bytes bs len = record_written class order (item_size kinds.Half class) half_fields bytes bs len (half_table class) (half_covers class)

pub word_read : (class : Class) (order : Order) (n : ℕ) → n < 2 ^ 32 → word_of class order (word_bytes class order n) ≡ n
unfolding word_of word_bytes word_fields
word_read class order n h =
    let suit : Suit class word_fields (n ∷ []) = unfold Suit in (fixed class 0 0 4 n h, tt) in
    ap (λ (ns : List ℕ). slice_index ns 0) (record_read class order (item_size kinds.Word class) word_fields (n ∷ []) (word_table class) suit)

pub word_written : (class : Class) (order : Order) (bytes : List ℕ) → AreBytes bytes → length bytes ≡ item_size kinds.Word class
    → word_bytes class order (word_of class order bytes) ≡ bytes
unfolding word_of word_bytes word_fields
word_written class order bytes bs len = record_written class order (item_size kinds.Word class) word_fields bytes bs len (word_table class) (word_covers class)

pub addr_read : (class : Class) (order : Order) (n : ℕ) → n < 2 ^ 64 → fits class n ≡ true → addr_of class order (addr_bytes class order n) ≡ n
unfolding addr_of addr_bytes addr_fields
addr_read class order n h small =
    let suit : Suit class addr_fields (n ∷ []) = unfold Suit in (native class 0 0 n h small, tt) in
    ap (λ (ns : List ℕ). slice_index ns 0) (record_read class order (item_size kinds.Addr class) addr_fields (n ∷ []) (addr_table class) suit)

pub addr_written : (class : Class) (order : Order) (bytes : List ℕ) → AreBytes bytes → length bytes ≡ item_size kinds.Addr class
    → addr_bytes class order (addr_of class order bytes) ≡ bytes
unfolding addr_of addr_bytes addr_fields
addr_written class order bytes bs len = record_written class order (item_size kinds.Addr class) addr_fields bytes bs len (addr_table class) (addr_covers class)

-- ---- Symbols

pub sym_read : (class : Class) (order : Order) (s : Sym) → IsSym s → sym_fits class s ≡ true → sym_of class order (sym_bytes class order s) ≡ s
unfolding sym_of sym_bytes sym_fields sym_fits
sym_read class order s is fit =
    let parts = and_parts (fits class s.value) (fits class s.size) fit in
    let suit : Suit class sym_fields (sym_numbers s) = unfold Suit in (
      fixed class 0 0 4 s.name is.name,
      (
        fixed class 12 4 1 s.info is.info,
        (
          fixed class 13 5 1 s.other is.other,
          (
            fixed class 14 6 2 s.shndx is.shndx,
            (native class 4 8 s.value is.value parts.0, (native class 8 16 s.size is.size parts.1, tt)),
          ),
        ),
      ),
    ) in
    ap sym_from (record_read class order (item_size kinds.Sym class) sym_fields (sym_numbers s) (sym_table class) suit)

pub sym_written : (class : Class) (order : Order) (bytes : List ℕ) → AreBytes bytes → length bytes ≡ item_size kinds.Sym class
    → sym_bytes class order (sym_of class order bytes) ≡ bytes
unfolding sym_of sym_bytes sym_fields
sym_written class order bytes bs len = record_written class order (item_size kinds.Sym class) sym_fields bytes bs len (sym_table class) (sym_covers class)

-- ---- Relocations

-- the type is below the number of types
type_below : (class : Class) (sym rtype : ℕ) → rtype < 2 ^ 32 → info_fits class sym rtype ≡ true → rtype < type_range class
type_below C32 sym rtype h fit = ltb-true rtype (2 ^ 8) (and_parts (nat_lt sym (2 ^ 24)) (nat_lt rtype (2 ^ 8)) fit).1
type_below C64 sym rtype h fit = h

-- r_info fits its field
info_below : (class : Class) (p q sym rtype : ℕ) → sym < 2 ^ 32 → rtype < 2 ^ 32 → info_fits class sym rtype ≡ true
    → sym * type_range class + rtype < 256 ^ (place_in class (field (p, 4) (q, 8))).1
info_below C32 p q sym rtype hs ht fit =
    let parts = and_parts (nat_lt sym (2 ^ 24)) (nat_lt rtype (2 ^ 8)) fit in
    let s : sym < 2 ^ 24 = ltb-true sym (2 ^ 24) parts.0 in
    let t : rtype < 2 ^ 8 = ltb-true rtype (2 ^ 8) parts.1 in
    omega arith
info_below C64 p q sym rtype hs ht fit = omega arith

-- r_info is split again
sym_again : (class : Class) (sym rtype : ℕ) → rtype < type_range class → (sym * type_range class + rtype) / type_range class ≡ sym
sym_again class sym rtype h = div-mul-add sym (type_range class) rtype h

type_again : (class : Class) (sym rtype : ℕ) → rtype < type_range class → (sym * type_range class + rtype) % type_range class ≡ rtype
type_again class sym rtype h = mul-add-mod_self_right sym (type_range class) rtype ∙ mod-eq_of_lt h

pub rel_read : (class : Class) (order : Order) (r : Rel) → IsRel r → rel_fits class r ≡ true → rel_of class order (rel_bytes class order r) ≡ r
unfolding rel_of rel_bytes rel_fields rel_fits
rel_read class order r is fit =
    let parts = and_parts (fits class r.offset) (info_fits class r.sym r.rtype) fit in
    let low = type_below class r.sym r.rtype is.rtype parts.1 in
    let suit : Suit class rel_fields (rel_numbers class r) = unfold Suit in
    (native class 0 0 r.offset is.offset parts.0, (info_below class 4 8 r.sym r.rtype is.sym is.rtype parts.1, tt)) in
    ap (rel_from class) (record_read class order (item_size kinds.Rel class) rel_fields (rel_numbers class r) (rel_table class) suit)
    ∙ rw (sym_again class r.sym r.rtype low, type_again class r.sym r.rtype low) refl

pub rel_written : (class : Class) (order : Order) (bytes : List ℕ) → AreBytes bytes → length bytes ≡ item_size kinds.Rel class
    → rel_bytes class order (rel_of class order bytes) ≡ bytes
unfolding rel_of rel_bytes rel_fields
rel_written class order bytes bs len =
    let offset : ℕ = number_in class order bytes (field (0, 4) (0, 8)) in
    let info : ℕ = number_in class order bytes (field (4, 4) (8, 8)) in
    ap (λ (n : ℕ). record_bytes class order (item_size kinds.Rel class) rel_fields (offset ∷ n ∷ [])) (div-add-mod' info (type_range class))
    ∙ record_written class order (item_size kinds.Rel class) rel_fields bytes bs len (rel_table class) (rel_covers class)

pub rela_read : (class : Class) (order : Order) (r : Rela) → IsRela r → rela_fits class r ≡ true → rela_of class order (rela_bytes class order r) ≡ r
unfolding rela_of rela_bytes rela_fields rela_fits
rela_read class order r is fit =
    let both = and_parts (fits class r.offset && info_fits class r.sym r.rtype) (fits_signed class r.addend) fit in
    let parts = and_parts (fits class r.offset) (info_fits class r.sym r.rtype) both.0 in
    let low = type_below class r.sym r.rtype is.rtype parts.1 in
    let suit : Suit class rela_fields (rela_numbers class r) = unfold Suit in
    (native class 0 0 r.offset is.offset parts.0, (info_below class 4 8 r.sym r.rtype is.sym is.rtype parts.1, (signed_width_is class 8 16 r.addend is.addend both.1, tt))) in
    ap (rela_from class) (record_read class order (item_size kinds.Rela class) rela_fields (rela_numbers class r) (rela_table class) suit)
    ∙ rw (sym_again class r.sym r.rtype low, type_again class r.sym r.rtype low, signed_unsigned class r.addend is.addend both.1) refl

rela_addend_in : (class : Class) → lies_in class (item_size kinds.Rela class) (field (8, 4) (16, 8)) ≡ true
rela_addend_in C32 = refl
rela_addend_in C64 = refl

pub rela_written : (class : Class) (order : Order) (bytes : List ℕ) → AreBytes bytes → length bytes ≡ item_size kinds.Rela class
    → rela_bytes class order (rela_of class order bytes) ≡ bytes
unfolding rela_of rela_bytes rela_fields
rela_written class order bytes bs len =
    let offset : ℕ = number_in class order bytes (field (0, 4) (0, 8)) in
    let info : ℕ = number_in class order bytes (field (4, 4) (8, 8)) in
    let addend : ℕ = number_in class order bytes (field (8, 4) (16, 8)) in
    let small : number_in class order bytes (field (8, 4) (16, 8)) < 256 ^ signed_width class = read_native class order 8 16 (item_size kinds.Rela class) bytes bs len (rela_addend_in class) in
    ap (λ (n : ℕ). record_bytes class order (item_size kinds.Rela class) rela_fields (offset ∷ n ∷ unsigned_of (signed_width class) (signed_of (signed_width class) addend) ∷ [])) (div-add-mod' info (type_range class))
    ∙ ap (λ (n : ℕ). record_bytes class order (item_size kinds.Rela class) rela_fields (offset ∷ info ∷ n ∷ [])) (unsigned_signed class addend small)
    ∙ record_written class order (item_size kinds.Rela class) rela_fields bytes bs len (rela_table class) (rela_covers class)

-- ---- Entries of the dynamic section

pub dyn_read : (class : Class) (order : Order) (d : Dyn) → IsDyn d → dyn_fits class d ≡ true → dyn_of class order (dyn_bytes class order d) ≡ d
unfolding dyn_of dyn_bytes dyn_fields dyn_fits
dyn_read class order d is fit =
    let parts = and_parts (fits_signed class d.tag) (fits class d.val) fit in
    let suit : Suit class dyn_fields (dyn_numbers class d) = unfold Suit in
    (signed_width_is class 0 0 d.tag is.tag parts.0, (native class 4 8 d.val is.val parts.1, tt)) in
    ap (dyn_from class) (record_read class order (item_size kinds.Dyn class) dyn_fields (dyn_numbers class d) (dyn_table class) suit)
    ∙ rw (signed_unsigned class d.tag is.tag parts.0) refl

dyn_tag_in : (class : Class) → lies_in class (item_size kinds.Dyn class) (field (0, 4) (0, 8)) ≡ true
dyn_tag_in C32 = refl
dyn_tag_in C64 = refl

pub dyn_written : (class : Class) (order : Order) (bytes : List ℕ) → AreBytes bytes → length bytes ≡ item_size kinds.Dyn class
    → dyn_bytes class order (dyn_of class order bytes) ≡ bytes
unfolding dyn_of dyn_bytes dyn_fields
dyn_written class order bytes bs len =
    let tag : ℕ = number_in class order bytes (field (0, 4) (0, 8)) in
    let val : ℕ = number_in class order bytes (field (4, 4) (8, 8)) in
    let small : number_in class order bytes (field (0, 4) (0, 8)) < 256 ^ signed_width class = read_native class order 0 0 (item_size kinds.Dyn class) bytes bs len (dyn_tag_in class) in
    ap (λ (n : ℕ). record_bytes class order (item_size kinds.Dyn class) dyn_fields (n ∷ val ∷ [])) (unsigned_signed class tag small)
    ∙ record_written class order (item_size kinds.Dyn class) dyn_fields bytes bs len (dyn_table class) (dyn_covers class)
