-- Two headers that differ in some fields alone have the same bytes elsewhere.
use Rattle.std.proofs.Common.{◌≡◌, ℕ, ◌+◌, ◌-◌, ◌≤◌, true, false, ◌||◌, List, [], ◌∷◌, ◌++◌, length, drop, get_or, replicate, refl, sym, ap, ◌∙◌, inl, inr, arith}
use Rattle.std.specs.Prelude.{nat_lt, nat_le}
use Rattle.std.proofs.lemmas.Bool.{cases_lt, and_parts, and_from, leb-true, le-leb, lt-ltb, or_parts, both_ways}
use Rattle.std.proofs.lemmas.List.{length-append, length-replicate}
use Rattle.elf_types.specs.declared.records.Class.{Class}
use Rattle.elf_types.specs.declared.records.Order.{Order}
use Rattle.elf_types.specs.declared.records.Ehdr.{Ehdr}
use Rattle.hash_model.specs.elf_xlate.Numbers.{octets}
use Rattle.hash_model.specs.elf_xlate.Fields.{Field, place_in, written_in, laid}
use Rattle.hash_model.specs.elf_xlate.Headers.{ehdr_size, ehdr_fields, ehdr_numbers, e_shoff, e_shnum, e_shstrndx, ident, ehdr_bytes}
use Rattle.hash_model.proofs.elf_xlate.Digits.{length_octets}
use Rattle.hash_model.proofs.elf_xlate.Laid.{lies_in, all_fields, length_laid}
use Rattle.hash_model.proofs.elf_xlate.Tables.{ehdr_table}
use Rattle.hash_model.proofs.elf_xlate.Written.{written_inside, written_outside_low, written_outside_high}
use Rattle.law_object.proofs.LengthLaws.{size_long}
use Rattle.rebuild_model.specs.Laws.{is_in_field, changing_fields, may_change}

-- ---- Records with numbers that differ

-- numbers for a table are the same where their field has the byte
abbrev AgreeAt : Class → ℕ → List Field → List ℕ → List ℕ → Type 0
AgreeAt class k [] ms ns = Unit {0}
AgreeAt class k (f ∷ fields) [] ns = ⊥
AgreeAt class k (f ∷ fields) (m ∷ ms) [] = ⊥
AgreeAt class k (f ∷ fields) (m ∷ ms) (n ∷ ns) =
    (is_in_field class k f ≡ true → m ≡ n) × AgreeAt class k fields ms ns

byte_written : (class : Class) (order : Order) (f : Field) (m n k size : ℕ) (xs ys : List ℕ)
    → length xs ≡ size → length ys ≡ size → lies_in class size f ≡ true
    → (is_in_field class k f ≡ true → m ≡ n) → get_or xs k 0 ≡ get_or ys k 0
    → get_or (written_in class order f m xs) k 0 ≡ get_or (written_in class order f n ys) k 0
unfolding written_in
byte_written class order f m n k size xs ys lx ly lies agree same =
    let place : ℕ = (place_in class f).0 in
    let width : ℕ = (place_in class f).1 in
    let new_x : List ℕ = octets order width m in
    let new_y : List ℕ = octets order width n in
    let long_x : length (octets order width m) ≡ width = length_octets order width m in
    let long_y : length (octets order width n) ≡ width = length_octets order width n in
    let end : place + width ≤ size = leb-true (place + width) size lies in
    let fits_x : place + length (octets order width m) ≤ length xs =
    omega (arith, long_x, end, lx) in
    let fits_y : place + length (octets order width n) ≤ length ys =
    omega (arith, long_y, end, ly) in
    elim (cases_lt k place) [
      | inl low ↦ written_outside_low place new_x xs k fits_x low ∙ same
          ∙ sym (written_outside_low place new_y ys k fits_y low)
      | inr past ↦ elim (cases_lt k (place + width)) [
        | inl inside ↦
            written_inside place new_x xs k fits_x past (omega (arith, long_x, inside))
            ∙ ap (λ (j : ℕ). get_or (octets order width j) (k - place) 0)
            (agree (and_from (nat_le place k) (nat_lt k (place + width)) (le-leb place k past)
            (lt-ltb k (place + width) inside)))
            ∙ sym (written_inside place new_y ys k fits_y past (omega (arith, long_y, inside)))
        | inr high ↦
            written_outside_high place new_x xs k fits_x (omega (arith, long_x, high)) ∙ same
            ∙ sym (written_outside_high place new_y ys k fits_y (omega (arith, long_y, high)))
      ]
    ]

laid_agree : (class : Class) (order : Order) (size k : ℕ) (fields : List Field)
    (ms ns xs ys : List ℕ) → length xs ≡ size → length ys ≡ size
    → all_fields (lies_in class size) fields ≡ true → AgreeAt class k fields ms ns
    → get_or xs k 0 ≡ get_or ys k 0
    → get_or (laid class order fields ms xs) k 0 ≡ get_or (laid class order fields ns ys) k 0
laid_agree class order size k [] ms ns xs ys lx ly lie agree same = same
laid_agree class order size k (f ∷ fields) [] ns xs ys lx ly lie agree same = absurd agree
laid_agree class order size k (f ∷ fields) (m ∷ ms) [] xs ys lx ly lie agree same = absurd agree
laid_agree class order size k (f ∷ fields) (m ∷ ms) (n ∷ ns) xs ys lx ly lie agree same =
    let parts = and_parts (lies_in class size f) (all_fields (lies_in class size) fields) lie in
    let one : all_fields (lies_in class size) (f ∷ []) ≡ true =
    and_from (lies_in class size f) true parts.0 refl in
    laid_agree class order size k fields ms ns (written_in class order f m xs)
    (written_in class order f n ys)
    (length_laid class order size (f ∷ []) (m ∷ []) xs lx one)
    (length_laid class order size (f ∷ []) (n ∷ []) ys ly one) parts.1 agree.1
    (byte_written class order f m n k size xs ys lx ly parts.0 agree.0 same)

-- ---- The ELF header

-- all fields but e_shoff, e_shnum and e_shstrndx are the same
pub record AgreeBeside (h g : Ehdr) : Type 0 where
  pub class : h.class ≡ g.class
  pub order : h.order ≡ g.order
  pub osabi : h.osabi ≡ g.osabi
  pub abiversion : h.abiversion ≡ g.abiversion
  pub etype : h.etype ≡ g.etype
  pub machine : h.machine ≡ g.machine
  pub version : h.version ≡ g.version
  pub entry : h.entry ≡ g.entry
  pub phoff : h.phoff ≡ g.phoff
  pub flags : h.flags ≡ g.flags
  pub ehsize : h.ehsize ≡ g.ehsize
  pub phentsize : h.phentsize ≡ g.phentsize
  pub phnum : h.phnum ≡ g.phnum
  pub shentsize : h.shentsize ≡ g.shentsize

-- the bytes into which the fields are written
abbrev before_fields : Class → Order → List ℕ → List ℕ
before_fields class order pad = ident class order pad ++ replicate (ehdr_size class - 16) 0

length-before_fields : (class : Class) (order : Order) (pad : List ℕ) → length pad ≡ 7
    → length (before_fields class order pad) ≡ ehdr_size class
unfolding ident
length-before_fields class order pad seven =
    omega (
      arith,
      size_long class,
      length-append (ident class order pad) (replicate (ehdr_size class - 16) 0),
      length-replicate {A = ℕ} (ehdr_size class - 16) 0,
    )

-- the three fields do not have the byte
record IsBeside (class : Class) (k : ℕ) : Type 0 where
  shoff : is_in_field class k e_shoff ≡ false
  shnum : is_in_field class k e_shnum ≡ false
  shstrndx : is_in_field class k e_shstrndx ≡ false

beside_from : (class : Class) (k : ℕ) → may_change class k ≡ false → IsBeside class k
unfolding may_change changing_fields
beside_from class k fixed =
    let last = is_in_field class k e_shstrndx || false in
    let first = or_parts (is_in_field class k e_shoff) (is_in_field class k e_shnum || last) fixed
    in
    let second = or_parts (is_in_field class k e_shnum) last first.1 in
    let third = or_parts (is_in_field class k e_shstrndx) false second.1 in
    record { shoff = first.0; shnum = second.0; shstrndx = third.0 }

numbers_agree : (class : Class) (k : ℕ) (h g : Ehdr) → IsBeside class k → AgreeBeside h g
    → AgreeAt class k ehdr_fields (ehdr_numbers h) (ehdr_numbers g)
unfolding ehdr_fields
numbers_agree class k h g beside same = (
  (λ here. same.osabi),
  (
    (λ here. same.abiversion),
    ((λ here. same.etype), ((λ here. same.machine), ((λ here. same.version), from_entry))),
  ),
)
  where
    from_phentsize : AgreeAt class k
        (drop 10 ehdr_fields) (drop 10 (ehdr_numbers h)) (drop 10 (ehdr_numbers g))
    from_phentsize = (
      (λ here. same.phentsize),
      (
        (λ here. same.phnum),
        (
          (λ here. same.shentsize),
          (
            (λ here. absurd (both_ways (is_in_field class k e_shnum) beside.shnum here)),
            (
              (λ here.
                  absurd (both_ways (is_in_field class k e_shstrndx) beside.shstrndx here)),
              tt,
            ),
          ),
        ),
      ),
    )

    from_entry : AgreeAt class k
        (drop 5 ehdr_fields) (drop 5 (ehdr_numbers h)) (drop 5 (ehdr_numbers g))
    from_entry = (
      (λ here. same.entry),
      (
        (λ here. same.phoff),
        (
          (λ here. absurd (both_ways (is_in_field class k e_shoff) beside.shoff here)),
          ((λ here. same.flags), ((λ here. same.ehsize), from_phentsize)),
        ),
      ),
    )

pub header_byte : (h g : Ehdr) (pad : List ℕ) (k : ℕ) → length pad ≡ 7 → AgreeBeside h g
    → may_change h.class k ≡ false
    → get_or (ehdr_bytes h pad) k 0 ≡ get_or (ehdr_bytes g pad) k 0
unfolding ehdr_bytes
header_byte h g pad k seven same fixed =
    let size = length-before_fields h.class h.order pad seven in
    laid_agree h.class h.order (ehdr_size h.class) k ehdr_fields (ehdr_numbers h)
    (ehdr_numbers g) (before_fields h.class h.order pad) (before_fields h.class h.order pad)
    size size (ehdr_table h.class).within
    (numbers_agree h.class k h g (beside_from h.class k fixed) same) refl
    ∙ ap (λ (c : Class). get_or (laid c h.order ehdr_fields (ehdr_numbers g)
    (before_fields c h.order pad)) k 0) same.class
    ∙ ap (λ (r : Order). get_or (laid g.class r ehdr_fields (ehdr_numbers g)
    (before_fields g.class r pad)) k 0) same.order
