-- Each header, read and written: both ways round, by its table.
use Rattle.std.proofs.Common.{◌≡◌, ℕ, ◌+◌, ◌-◌, ◌<◌, ◌≤◌, List, ◌++◌, length, take, drop, get_or, refl, sym, ap, ◌∙◌, arith, inl, inr}
use Rattle.std.specs.Prelude.{true, ◌&&◌}
use Rattle.std.proofs.Math.ListN.{replicate}
use Rattle.std.proofs.lemmas.List.{length-replicate, length-append, take-append-le, drop-append-le, get_or-take, get_or-drop, ext_get_or, take_at}
use Rattle.std.proofs.lemmas.Bool.{and_parts, cases_lt}
use Rattle.elf_types.specs.declared.records.Class.{Class}
use Rattle.elf_types.specs.declared.records.Class.TheVariants.{C32, C64}
use Rattle.elf_types.specs.declared.records.Order.{Order}
use Rattle.elf_types.specs.declared.records.Ehdr.{Ehdr}
use Rattle.elf_types.specs.declared.records.Phdr.{Phdr}
use Rattle.elf_types.specs.declared.records.Shdr.{Shdr}
use Rattle.elf_xlate.specs.Fields.{fits, numbers_in, laid}
use Rattle.elf_xlate.specs.Headers.{ehdr_size, ehdr_fields, ehdr_numbers, ehdr_of, ehdr_bytes, ehdr_fits, ident, HasNarrowCounts, IsEhdr, HoldsEhdr, phdr_size, phdr_fields, phdr_numbers, phdr_of, phdr_bytes, phdr_fits, IsPhdr, shdr_size, shdr_fields, shdr_numbers, shdr_of, shdr_bytes, shdr_fits, IsShdr}
use Rattle.elf_xlate.proofs.Digits.{AreBytes}
use Rattle.elf_xlate.proofs.Laid.{Suit, spare, read_laid, length_laid, laid_back, laid_alike, laid_spares, covered_below, cover}
use Rattle.elf_xlate.proofs.Tables.{ehdr_table, ehdr_covers, phdr_table, phdr_covers, shdr_table, shdr_covers}
use Rattle.elf_xlate.proofs.Rows.{ehdr_from, phdr_from, shdr_from, ehdr_is}
use Rattle.elf_xlate.proofs.EachItem.{record_read, record_written, length_record, fixed, native}

-- ---- Program headers

pub length_phdr : (class : Class) (order : Order) (p : Phdr) → length (phdr_bytes class order p) ≡ phdr_size class
unfolding phdr_bytes
length_phdr class order p = length_record class order (phdr_size class) phdr_fields (phdr_numbers p) (phdr_table class)

pub phdr_read : (class : Class) (order : Order) (p : Phdr) → IsPhdr p → phdr_fits class p ≡ true → phdr_of class order (phdr_bytes class order p) ≡ p
unfolding phdr_of phdr_bytes phdr_fields phdr_fits
phdr_read class order p is fit =
    let a = and_parts (fits class p.offset && fits class p.vaddr && fits class p.paddr && fits class p.filesz && fits class p.memsz) (fits class p.align) fit in
    let b = and_parts (fits class p.offset && fits class p.vaddr && fits class p.paddr && fits class p.filesz) (fits class p.memsz) a.0 in
    let c = and_parts (fits class p.offset && fits class p.vaddr && fits class p.paddr) (fits class p.filesz) b.0 in
    let d = and_parts (fits class p.offset && fits class p.vaddr) (fits class p.paddr) c.0 in
    let e = and_parts (fits class p.offset) (fits class p.vaddr) d.0 in
    let suit : Suit class phdr_fields (phdr_numbers p) = unfold Suit in (
      fixed class 0 0 4 p.ptype is.ptype,
      (
        fixed class 24 4 4 p.flags is.flags,
        (
          native class 4 8 p.offset is.offset e.0,
          (
            native class 8 16 p.vaddr is.vaddr e.1,
            (native class 12 24 p.paddr is.paddr d.1, (native class 16 32 p.filesz is.filesz c.1, (native class 20 40 p.memsz is.memsz b.1, (native class 28 48 p.align is.align a.1, tt)))),
          ),
        ),
      ),
    ) in
    ap phdr_from (record_read class order (phdr_size class) phdr_fields (phdr_numbers p) (phdr_table class) suit)

pub phdr_written : (class : Class) (order : Order) (bytes : List ℕ) → AreBytes bytes → length bytes ≡ phdr_size class
    → phdr_bytes class order (phdr_of class order bytes) ≡ bytes
unfolding phdr_of phdr_bytes phdr_fields
phdr_written class order bytes bs len = record_written class order (phdr_size class) phdr_fields bytes bs len (phdr_table class) (phdr_covers class)

-- ---- Section headers

pub length_shdr : (class : Class) (order : Order) (h : Shdr) → length (shdr_bytes class order h) ≡ shdr_size class
unfolding shdr_bytes
length_shdr class order h = length_record class order (shdr_size class) shdr_fields (shdr_numbers h) (shdr_table class)

pub shdr_read : (class : Class) (order : Order) (h : Shdr) → IsShdr h → shdr_fits class h ≡ true → shdr_of class order (shdr_bytes class order h) ≡ h
unfolding shdr_of shdr_bytes shdr_fields shdr_fits
shdr_read class order h is fit =
    let a = and_parts (fits class h.flags && fits class h.addr && fits class h.offset && fits class h.size && fits class h.addralign) (fits class h.entsize) fit in
    let b = and_parts (fits class h.flags && fits class h.addr && fits class h.offset && fits class h.size) (fits class h.addralign) a.0 in
    let c = and_parts (fits class h.flags && fits class h.addr && fits class h.offset) (fits class h.size) b.0 in
    let d = and_parts (fits class h.flags && fits class h.addr) (fits class h.offset) c.0 in
    let e = and_parts (fits class h.flags) (fits class h.addr) d.0 in
    let suit : Suit class shdr_fields (shdr_numbers h) = unfold Suit in (
      fixed class 0 0 4 h.name is.name,
      (
        fixed class 4 4 4 h.stype is.stype,
        (
          native class 8 8 h.flags is.flags e.0,
          (
            native class 12 16 h.addr is.addr e.1,
            (
              native class 16 24 h.offset is.offset d.1,
              (
                native class 20 32 h.size is.size c.1,
                (
                  fixed class 24 40 4 h.link is.link,
                  (
                    fixed class 28 44 4 h.info is.info,
                    (native class 32 48 h.addralign is.addralign b.1, (native class 36 56 h.entsize is.entsize a.1, tt)),
                  ),
                ),
              ),
            ),
          ),
        ),
      ),
    ) in
    ap shdr_from (record_read class order (shdr_size class) shdr_fields (shdr_numbers h) (shdr_table class) suit)

pub shdr_written : (class : Class) (order : Order) (bytes : List ℕ) → AreBytes bytes → length bytes ≡ shdr_size class
    → shdr_bytes class order (shdr_of class order bytes) ≡ bytes
unfolding shdr_of shdr_bytes shdr_fields
shdr_written class order bytes bs len = record_written class order (shdr_size class) shdr_fields bytes bs len (shdr_table class) (shdr_covers class)

-- ---- The ELF header

ehdr_suits : (h : Ehdr) → IsEhdr h → HasNarrowCounts h → ehdr_fits h ≡ true → Suit h.class ehdr_fields (ehdr_numbers h)
unfolding ehdr_fits ehdr_fields Suit
ehdr_suits h is counts fit =
    let a = and_parts (fits h.class h.entry && fits h.class h.phoff) (fits h.class h.shoff) fit in
    let b = and_parts (fits h.class h.entry) (fits h.class h.phoff) a.0 in (
      fixed h.class 7 7 1 h.osabi is.osabi,
      (
        fixed h.class 8 8 1 h.abiversion is.abiversion,
        (
          fixed h.class 16 16 2 h.etype is.etype,
          (
            fixed h.class 18 18 2 h.machine is.machine,
            (
              fixed h.class 20 20 4 h.version is.version,
              (
                native h.class 24 24 h.entry is.entry b.0,
                (
                  native h.class 28 32 h.phoff is.phoff b.1,
                  (
                    native h.class 32 40 h.shoff is.shoff a.1,
                    (
                      fixed h.class 36 48 4 h.flags is.flags,
                      (
                        fixed h.class 40 52 2 h.ehsize is.ehsize,
                        (
                          fixed h.class 42 54 2 h.phentsize is.phentsize,
                          (
                            fixed h.class 44 56 2 h.phnum counts.phnum,
                            (fixed h.class 46 58 2 h.shentsize is.shentsize, (fixed h.class 48 60 2 h.shnum counts.shnum, (fixed h.class 50 62 2 h.shstrndx counts.shstrndx, tt))),
                          ),
                        ),
                      ),
                    ),
                  ),
                ),
              ),
            ),
          ),
        ),
      ),
    )

length_ident : (class : Class) (order : Order) (pad : List ℕ) → length pad ≡ 7 → length (ident class order pad) ≡ 16
unfolding ident
length_ident class order pad len = omega (arith, len)

ident_pad : (class : Class) (order : Order) (pad : List ℕ) → drop 9 (ident class order pad) ≡ pad
unfolding ident
ident_pad class order pad = refl

-- the bytes over which the fields are laid
length_blank : (class : Class) (order : Order) (pad : List ℕ) → length pad ≡ 7
    → length (ident class order pad ++ replicate (ehdr_size class - 16) 0) ≡ ehdr_size class
length_blank C32 order pad len = omega (arith, length-append (ident C32 order pad) (replicate 36 0), length_ident C32 order pad len, length-replicate {A = ℕ} 36 0)
length_blank C64 order pad len = omega (arith, length-append (ident C64 order pad) (replicate 48 0), length_ident C64 order pad len, length-replicate {A = ℕ} 48 0)

-- no field has one of the seven first bytes or of the pad
spare_start : (class : Class) → spare class ehdr_fields 0 7 ≡ true
unfolding ehdr_fields
spare_start C32 = refl
spare_start C64 = refl

spare_pad : (class : Class) → spare class ehdr_fields 9 7 ≡ true
unfolding ehdr_fields
spare_pad C32 = refl
spare_pad C64 = refl

room : (class : Class) → 16 ≤ ehdr_size class
room C32 = omega arith
room C64 = omega arith

pub ehdr_holds : (h : Ehdr) (pad : List ℕ) → IsEhdr h → HasNarrowCounts h → ehdr_fits h ≡ true → length pad ≡ 7 → HoldsEhdr h pad (ehdr_bytes h pad)
unfolding ehdr_bytes
ehdr_holds h pad is counts fit len =
    let first : List ℕ = ident h.class h.order pad in
    let zeros : List ℕ = replicate (ehdr_size h.class - 16) 0 in
    let blank : List ℕ = first ++ zeros in
    let len_first : length (ident h.class h.order pad) ≡ 16 = length_ident h.class h.order pad len in
    let len_blank : length (ident h.class h.order pad ++ replicate (ehdr_size h.class - 16) 0) ≡ ehdr_size h.class = length_blank h.class h.order pad len in
    let inside = (ehdr_table h.class).within in
    let fits_in : 16 ≤ ehdr_size h.class = room h.class in
    record {
      size = length_laid h.class h.order (ehdr_size h.class) ehdr_fields (ehdr_numbers h) blank len_blank inside;
      start =
          laid_spares h.class h.order (ehdr_size h.class) 0 7 ehdr_fields (ehdr_numbers h) blank len_blank (omega (arith, fits_in)) inside (spare_start h.class)
          ∙ take-append-le 7 first zeros (omega (arith, len_first));
      pad_is =
          laid_spares h.class h.order (ehdr_size h.class) 9 7 ehdr_fields (ehdr_numbers h) blank len_blank (omega (arith, fits_in)) inside (spare_pad h.class)
          ∙ ap (take 7) (drop-append-le 9 first zeros (omega (arith, len_first)) ∙ ap (λ (l : List ℕ). l ++ zeros) (ident_pad h.class h.order pad))
          ∙ take_at pad zeros 7 len;
      value =
          ehdr_is h.class h.order (laid h.class h.order ehdr_fields (ehdr_numbers h) blank)
          ∙ ap (ehdr_from h.class h.order) (read_laid h.class h.order (ehdr_size h.class) ehdr_fields (ehdr_numbers h) blank len_blank (ehdr_table h.class) (ehdr_suits h is counts fit));
    }

covers_seven : (class : Class) → cover class ehdr_fields 7 2 ≡ true
unfolding ehdr_fields
covers_seven C32 = refl
covers_seven C64 = refl

-- the same bytes at a place below the end of a front
same_front : (n k : ℕ) (xs ys : List ℕ) → take n xs ≡ take n ys → k < n → get_or xs k 0 ≡ get_or ys k 0
same_front n k xs ys e low = sym (get_or-take n xs k 0 low) ∙ ap (λ (l : List ℕ). get_or l k 0) e ∙ get_or-take n ys k 0 low

-- the same bytes at a place in a part
same_part : (low n k : ℕ) (xs part : List ℕ) → take n (drop low xs) ≡ part → low ≤ k → k < low + n → get_or xs k 0 ≡ get_or part (k - low) 0
same_part low n k xs part e at below =
    let there : low + (k - low) ≡ k = omega arith in
    ap (λ (p : ℕ). get_or xs p 0) (sym there) ∙ sym (get_or-drop low xs (k - low) 0) ∙ sym (get_or-take n (drop low xs) (k - low) 0 (omega arith)) ∙ ap (λ (l : List ℕ). get_or l (k - low) 0) e

-- Bytes that hold a header are its bytes.
pub ehdr_held : (h : Ehdr) (pad bytes : List ℕ) → AreBytes bytes → length pad ≡ 7 → HoldsEhdr h pad bytes → bytes ≡ ehdr_bytes h pad
unfolding ehdr_bytes ehdr_of
ehdr_held h pad bytes bs len holds =
    let first : List ℕ = ident h.class h.order pad in
    let zeros : List ℕ = replicate (ehdr_size h.class - 16) 0 in
    let blank : List ℕ = first ++ zeros in
    let len_first : length (ident h.class h.order pad) ≡ 16 = length_ident h.class h.order pad len in
    let len_blank : length (ident h.class h.order pad ++ replicate (ehdr_size h.class - 16) 0) ≡ ehdr_size h.class = length_blank h.class h.order pad len in
    let size : ℕ = ehdr_size h.class in
    let inside = (ehdr_table h.class).within in
    let numbers : List ℕ = numbers_in h.class h.order bytes ehdr_fields in
    let same : ehdr_numbers (ehdr_of h.class h.order bytes) ≡ numbers_in h.class h.order bytes ehdr_fields = unfold ehdr_fields in refl in
    let is : numbers_in h.class h.order bytes ehdr_fields ≡ ehdr_numbers h = sym same ∙ ap ehdr_numbers holds.value in
    let count : length (ehdr_numbers h) ≡ length ehdr_fields = unfold ehdr_fields in refl in
    let start : take 7 bytes ≡ take 7 (ident h.class h.order pad ++ replicate (ehdr_size h.class - 16) 0) = holds.start ∙ sym (take-append-le 7 first zeros (omega (arith, len_first))) in
    let pad_blank : take 7 (drop 9 (ident h.class h.order pad ++ replicate (ehdr_size h.class - 16) 0)) ≡ pad =
    ap (take 7) (drop-append-le 9 first zeros (omega (arith, len_first)) ∙ ap (λ (l : List ℕ). l ++ zeros) (ident_pad h.class h.order pad)) ∙ take_at pad zeros 7 len in
    let back : laid h.class h.order ehdr_fields (ehdr_numbers h) bytes ≡ bytes =
    ap (λ (ns : List ℕ). laid h.class h.order ehdr_fields ns bytes) (sym is) ∙ laid_back h.class h.order size ehdr_fields bytes bs holds.size inside in
    let whole = length_laid h.class h.order size ehdr_fields (ehdr_numbers h) bytes holds.size inside in
    let whole_blank = length_laid h.class h.order size ehdr_fields (ehdr_numbers h) blank len_blank inside in
    sym back
    ∙ ext_get_or 0 _ _ (whole ∙ sym whole_blank)
    (λ k below.
    laid_alike h.class h.order size k ehdr_fields (ehdr_numbers h) bytes blank holds.size len_blank count inside
    (elim (cases_lt k 7) [
      | inl first_seven ↦ inr (same_front 7 k bytes blank start first_seven)
      | inr past_seven ↦ elim (cases_lt k 9) [
        | inl two ↦ inl (covered_below h.class ehdr_fields 7 2 k (covers_seven h.class) past_seven two)
        | inr past_nine ↦ elim (cases_lt k 16) [
          | inl in_pad ↦ inr (same_part 9 7 k bytes pad holds.pad_is past_nine in_pad ∙ sym (same_part 9 7 k blank pad pad_blank past_nine in_pad))
          | inr past ↦ inl (covered_below h.class ehdr_fields 16 (ehdr_size h.class - 16) k (ehdr_covers h.class) past (omega (arith, below, whole)))
        ]
      ]
    ]))
