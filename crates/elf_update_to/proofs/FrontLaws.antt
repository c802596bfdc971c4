-- The rows of the ELF header and of the two tables.
use Rattle.std.proofs.Common.{◌≡◌, ℕ, Bool, ◌*◌, ◌<◌, ◌≤◌, List, length, take, drop, get_or, map, refl, sym, ap, ◌∙◌, subst, arith}
use Rattle.std.specs.Prelude.{IsTrue}
use Rattle.std.proofs.lemmas.List.{take_all, length-map, get_or-map}
use Rattle.std.proofs.lemmas.List.Elements.{All-get_or}
use Rattle.elf_types.specs.declared.records.Class.{Class}
use Rattle.elf_types.specs.declared.records.Class.TheVariants.{C32, C64}
use Rattle.elf_types.specs.declared.records.Ehdr.{Ehdr}
use Rattle.elf_types.specs.declared.records.Phdr.{Phdr}
use Rattle.elf_types.specs.declared.records.Shdr.{Shdr}
use Rattle.elf_update_plan.specs.elf_xlate.Headers.{ehdr_size, phdr_size, shdr_size, ehdr_bytes, phdr_bytes, shdr_bytes, ehdr_fits, phdr_fits, shdr_fits}
use Rattle.elf_update_plan.specs.elf_ident.Front.{zero_shdr}
use Rattle.elf_update_plan.specs.elf_object.Object.{Object, Section, header_of, no_phdr, absent_section, section_at}
use Rattle.elf_update_plan.specs.elf_object.Open.{front_in_image, phdrs_bytes, shdrs_bytes}
use Rattle.elf_update_plan.specs.elf_object.Derived.{written_header}
use Rattle.elf_update_plan.specs.elf_object.Image.{front_blocks}
use Rattle.elf_update_plan.specs.elf_object.Valid.{IsObject, IsSection}
use Rattle.elf_update_plan.proofs.law_object.LengthLaws.{length-ehdr_bytes, length-phdr_bytes, length-shdr_bytes, length-phdrs_bytes, length-shdrs_bytes}
use Rattle.elf_update_plan.specs.law_object.Writing.Ready.{IsReady}
use Rattle.elf_update_to.proofs.RowLaws.{flat_at}
use Rattle.elf_update_to.proofs.StoredLaws.{phdr_fits_at}

pub object_header_is : (q : Object) → IsObject q → header_of q ≡ q.header
unfolding header_of
object_header_is q is =
    ap (λ (n : ℕ). record q.header { phnum = n; shnum = length q.sections }) (sym is.phnum)
    ∙ ap (λ (n : ℕ). record q.header { phnum = q.header.phnum; shnum = n }) (sym is.shnum)

pub written_fits : (h : Ehdr) → IsTrue (ehdr_fits h) → IsTrue (ehdr_fits (written_header h))
unfolding ehdr_fits written_header
written_fits h fits = fits

pub header_bytes_are : (q : Object) (h : Ehdr) → h ≡ q.header → ehdr_bytes (written_header h) q.pad
    ≡ (front_blocks q).header.bytes
unfolding front_blocks front_in_image
header_bytes_are q h is = ap (λ (x : Ehdr). ehdr_bytes (written_header x) q.pad) is

pub written_class : (h : Ehdr) → (written_header h).class ≡ h.class
unfolding written_header
written_class h = refl

-- ---- Lengths

pub header_long : (q : Object) → IsObject q → length (front_blocks q).header.bytes ≡ ehdr_size q.header.class * 1
unfolding front_blocks front_in_image written_header
header_long q is = let all = length-ehdr_bytes (written_header q.header) q.pad is.pad in omega (arith, all)

pub segments_long : (q : Object) → length (front_blocks q).segments.bytes ≡ phdr_size q.header.class * length q.phdrs
unfolding front_blocks front_in_image written_header
segments_long q = let all = length-phdrs_bytes q.header.class q.header.order q.phdrs in omega (arith, all)

pub table_long : (q : Object) → length (front_blocks q).table.bytes ≡ shdr_size q.header.class * length q.sections
unfolding front_blocks front_in_image written_header
table_long q =
    let all = length-shdrs_bytes q.header.class q.header.order (map (λ c. c.header) q.sections) in
    let count = length-map q.sections (λ (c : Section). c.header) in
    let size : length (map (λ c. c.header) q.sections) * shdr_size q.header.class
    ≡ length q.sections * shdr_size q.header.class =
    ap (λ (n : ℕ). n * shdr_size q.header.class) count in
    omega (arith, all, size)

-- ---- Rows

pub header_row : (q : Object) (i : ℕ) (out : List ℕ) → IsObject q → i < 1 → out ≡ (front_blocks q).header.bytes
    → out ≡ take (ehdr_size q.header.class) (drop (ehdr_size q.header.class * i) (front_blocks q).header.bytes)
header_row q i out is first same =
    let long = header_long q is in
    let none : ehdr_size q.header.class * i ≡ 0 = by_zero (ehdr_size q.header.class) i (omega (arith, first)) in
    same ∙ sym (ap (λ (n : ℕ). take (ehdr_size q.header.class) (drop n (front_blocks q).header.bytes)) none
    ∙ take_all (ehdr_size q.header.class) (front_blocks q).header.bytes (omega (arith, long)))
  where
    by_zero : (n k : ℕ) → k ≡ 0 → n * k ≡ 0
    by_zero n k e = ap (λ (m : ℕ). n * m) e ∙ omega arith

pub segment_row : (q : Object) (i : ℕ) (out : List ℕ) → i < length q.phdrs
    → out ≡ phdr_bytes q.header.class q.header.order (get_or q.phdrs i no_phdr)
    → out ≡ take (phdr_size q.header.class) (drop (phdr_size q.header.class * i) (front_blocks q).segments.bytes)
unfolding front_blocks front_in_image phdrs_bytes written_header
segment_row q i out there same =
    same ∙ flat_at (phdr_bytes q.header.class q.header.order) (phdr_size q.header.class)
    (length-phdr_bytes q.header.class q.header.order) q.phdrs i no_phdr there

pub section_row : (q : Object) (i : ℕ) (out : List ℕ) → i < length q.sections
    → out ≡ shdr_bytes q.header.class q.header.order (section_at q i).header
    → out ≡ take (shdr_size q.header.class) (drop (shdr_size q.header.class * i) (front_blocks q).table.bytes)
unfolding front_blocks front_in_image shdrs_bytes written_header section_at
section_row q i out there same =
    let count = length-map q.sections (λ (c : Section). c.header) in
    same
    ∙ ap (shdr_bytes q.header.class q.header.order)
    (sym (get_or-map (λ (c : Section). c.header) q.sections i absent_section zero_shdr there))
    ∙ flat_at (shdr_bytes q.header.class q.header.order) (shdr_size q.header.class)
    (length-shdr_bytes q.header.class q.header.order)
    (map (λ c. c.header) q.sections) i zero_shdr (omega (arith, there, count))

-- ---- What is put

-- the header as it is told has the class and the order
pub sized_by_header : (size : Class → ℕ) (q : Object) (h : Ehdr) (n : ℕ) → h ≡ header_of q
    → n ≡ size q.header.class → n ≡ size h.class
unfolding header_of
sized_by_header size q h n is room = room ∙ sym (ap (λ (x : Ehdr). size x.class) is)

pub sized_back : (size : Class → ℕ) (q : Object) (h : Ehdr) (n : ℕ) → h ≡ header_of q
    → n ≡ size h.class → n ≡ size q.header.class
unfolding header_of
sized_back size q h n is long = long ∙ ap (λ (x : Ehdr). size x.class) is

pub written_size : (q : Object) (h w : Ehdr) (n : ℕ) → h ≡ header_of q → w ≡ written_header h
    → n ≡ ehdr_size q.header.class → n ≡ ehdr_size w.class
unfolding header_of written_header
written_size q h w n is written room =
    room ∙ sym (ap (λ (x : Ehdr). ehdr_size x.class) written ∙ ap (λ (x : Ehdr). ehdr_size x.class) is)

pub written_may : (q : Object) (h w : Ehdr) → IsObject q → h ≡ header_of q → w ≡ written_header h → IsTrue (ehdr_fits w)
written_may q h w object is written =
    subst (λ (x : Ehdr). IsTrue (ehdr_fits x))
    (sym (written ∙ ap written_header (is ∙ object_header_is q object)))
    (written_fits q.header object.fitting)

pub header_put : (q : Object) (h w : Ehdr) (pad out : List ℕ) → IsObject q → h ≡ header_of q
    → w ≡ written_header h → pad ≡ q.pad
    → out ≡ ehdr_bytes w pad → out ≡ (front_blocks q).header.bytes
header_put q h w pad out object is written same put =
    put ∙ ap (λ (x : Ehdr). ehdr_bytes x pad) written ∙ ap (ehdr_bytes (written_header h)) same
    ∙ header_bytes_are q h (is ∙ object_header_is q object)

pub segment_fit : (q : Object) (i : ℕ) (h : Ehdr) (p : Phdr) → IsReady q → i < length q.phdrs
    → h ≡ header_of q → p ≡ get_or q.phdrs i no_phdr
    → IsTrue (phdr_fits h.class p)
unfolding header_of
segment_fit q i h p ready there is same =
    subst (λ (b : Bool). IsTrue b) (sym (ap (λ (x : Ehdr). phdr_fits x.class p) is
    ∙ ap (phdr_fits q.header.class) same ∙ phdr_fits_at q i ready there)) refl

pub segment_put : (q : Object) (i : ℕ) (h : Ehdr) (p : Phdr) (out : List ℕ) → h ≡ header_of q
    → p ≡ get_or q.phdrs i no_phdr
    → out ≡ phdr_bytes h.class h.order p → out ≡ phdr_bytes q.header.class q.header.order (get_or q.phdrs i no_phdr)
unfolding header_of
segment_put q i h p out is same put =
    put ∙ ap (λ (x : Ehdr). phdr_bytes x.class x.order p) is ∙ ap (phdr_bytes q.header.class q.header.order) same

pub section_fit : (q : Object) (s : ℕ) (h : Ehdr) (c : Shdr) → IsObject q → s < length q.sections
    → h ≡ header_of q → c ≡ (section_at q s).header
    → IsTrue (shdr_fits h.class c)
unfolding header_of section_at
section_fit q s h c object there is same =
    subst (λ (x : Shdr). IsTrue (shdr_fits h.class x)) (sym same)
    (subst (λ (x : Ehdr). IsTrue (shdr_fits x.class (get_or q.sections s absent_section).header)) (sym is)
    (All-get_or (IsSection q.header.class) q.sections s absent_section there object.sections).fitting)

pub section_put : (q : Object) (s : ℕ) (h : Ehdr) (c : Shdr) (out : List ℕ) → h ≡ header_of q
    → c ≡ (section_at q s).header
    → out ≡ shdr_bytes h.class h.order c → out ≡ shdr_bytes q.header.class q.header.order (section_at q s).header
unfolding header_of
section_put q s h c out is same put =
    put ∙ ap (λ (x : Ehdr). shdr_bytes x.class x.order c) is ∙ ap (shdr_bytes q.header.class q.header.order) same

-- a header has a byte, and at most 64
pub record IsHeaderSize (n : ℕ) : Type 0 where
  pub some : 0 < n
  pub few : n ≤ 64

pub few_header : (class : Class) → IsHeaderSize (ehdr_size class)
few_header C32 = record { some = omega arith; few = omega arith }
few_header C64 = record { some = omega arith; few = omega arith }

pub few_segment : (class : Class) → IsHeaderSize (phdr_size class)
few_segment C32 = record { some = omega arith; few = omega arith }
few_segment C64 = record { some = omega arith; few = omega arith }

pub few_section : (class : Class) → IsHeaderSize (shdr_size class)
few_section C32 = record { some = omega arith; few = omega arith }
few_section C64 = record { some = omega arith; few = omega arith }
