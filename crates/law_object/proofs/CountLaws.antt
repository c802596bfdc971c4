-- The counts that the header of an image gives are those of the object, and none of them is refused.
use Rattle.std.proofs.Common.{◌≡◌, ℕ, zero, suc, ◌+◌, ◌*◌, ◌^◌, ◌<◌, ◌≤◌, Bool, true, false, not, ◌&&◌, ◌||◌, List, [], ◌∷◌, length, take, drop, get_or, Option, None, Ok, refl, sym, ap, ◌∙◌, arith, lit≤, ⊎_elim, inl, inr}
use Rattle.std.specs.Prelude.{◌⊎◌, flat_map, IsTrue, nat_lt, if◌then◌else◌, ◌==◌, map}
use Rattle.std.proofs.lemmas.Bool.{cases_lt, eq-eqb, ne_eqb, lt-ltb, le-ltb, le-leb}
use Rattle.std.proofs.lemmas.List.{length-map, get_or-map, take-take}
use Rattle.elf_types.specs.declared.records.Class.{Class}
use Rattle.elf_types.specs.declared.records.Class.TheVariants.{C32, C64}
use Rattle.elf_types.specs.declared.records.Ehdr.{Ehdr}
use Rattle.elf_types.specs.declared.records.Shdr.{Shdr}
use Rattle.elf_object.specs.elf_xlate.Headers.{phdr_size, shdr_size, shdr_of, shdr_bytes, shdr_fits, IsShdr}
use Rattle.elf_object.specs.elf_ident.declared.counts.Counts.{Counts}
use Rattle.elf_types.specs.declared.errors.ElfError.{ElfError}
use Rattle.elf_types.specs.declared.errors.ElfError.TheVariants as error
use Rattle.elf_types.specs.Answers.{refused_if, first_refusal, answered, ◌>>=◌}
use Rattle.elf_object.specs.elf_ident.Front.{needs_first, first_section, true_shnum, true_shstrndx, true_phnum, true_counts, lies_in, header_refusal, count_refusal, counts_by, counts_in}
use Rattle.elf_object.specs.Object.{Object, Section, absent_section, section_at}
use Rattle.elf_object.specs.Derived.{written_header}
use Rattle.elf_object.specs.elf_layout.Layout.{limit_of}
use Rattle.elf_object.specs.Open.{shdrs_bytes}
use Rattle.law_object.proofs.LengthLaws.{length-shdr_bytes}
use Rattle.law_object.proofs.ReopenLaws.{ReadsBack, StandsIn, entry_bytes}
use Rattle.law_object.proofs.HeaderLaws.{written_kept}

-- ---- The counts

-- what is known of the headers of a placed object
pub record IsDerived (q : Object) : Type 0 where
  pub version : q.header.version ≡ 1
  pub phnum : q.header.phnum ≡ length q.phdrs
  pub shnum : q.header.shnum ≡ length q.sections
  pub phentsize : 0 < length q.phdrs → q.header.phentsize ≡ phdr_size q.header.class
  pub shentsize : 0 < length q.sections → q.header.shentsize ≡ shdr_size q.header.class
  pub no_table : length q.sections ≡ 0 → q.header.shoff ≡ 0
  pub no_index : length q.sections ≡ 0 → q.header.shstrndx ≡ 0
  pub size : 0 < length q.sections → (section_at q 0).header.size ≡ (if nat_lt (length q.sections) 0xff00 then 0 else length q.sections)
  pub link : 0 < length q.sections → (section_at q 0).header.link ≡ (if nat_lt q.header.shstrndx 0xff00 then 0 else q.header.shstrndx)
  pub info : 0 < length q.sections → (section_at q 0).header.info ≡ (if nat_lt (length q.phdrs) 0xffff then 0 else length q.phdrs)
  pub plenty : 0xffff ≤ length q.phdrs → 0 < length q.sections
  pub phdr_count : length q.phdrs ≤ 2 ^ 20
  pub section_count : length q.sections ≤ 2 ^ 20

-- the first section header, read where it is needed
pub record IsFirst (q : Object) (first : Shdr) : Type 0 where
  pub same : needs_first (written_header q.header) ≡ true → first ≡ (section_at q 0).header

shoff_some : (q : Object) (image : List ℕ) → StandsIn image q → 0 < length q.sections → ((written_header q.header).shoff == 0) ≡ false
unfolding written_header
shoff_some q image stands some = let behind = stands.table_behind some in ne_eqb q.header.shoff 0 (λ h. omega arith)

shoff_none : (q : Object) → IsDerived q → length q.sections ≡ 0 → ((written_header q.header).shoff == 0) ≡ true
unfolding written_header
shoff_none q is none = eq-eqb q.header.shoff 0 (is.no_table none)

shnum_small : (q : Object) → IsDerived q → length q.sections < 0xff00 → (written_header q.header).shnum ≡ length q.sections
unfolding written_header
shnum_small q is small =
    let n = is.shnum in let test : nat_lt (length q.sections) 0xff00 ≡ true = lt-ltb (length q.sections) 0xff00 small in rw (n, test) refl

shnum_large : (q : Object) → IsDerived q → 0xff00 ≤ length q.sections → (written_header q.header).shnum ≡ 0
unfolding written_header
shnum_large q is large =
    let n = is.shnum in let test : nat_lt (length q.sections) 0xff00 ≡ false = le-ltb (length q.sections) 0xff00 large in rw (n, test) refl

index_small : (q : Object) → q.header.shstrndx < 0xff00 → (written_header q.header).shstrndx ≡ q.header.shstrndx
unfolding written_header
index_small q small = let test : nat_lt q.header.shstrndx 0xff00 ≡ true = lt-ltb q.header.shstrndx 0xff00 small in rw test refl

index_large : (q : Object) → 0xff00 ≤ q.header.shstrndx → (written_header q.header).shstrndx ≡ 0xffff
unfolding written_header
index_large q large = let test : nat_lt q.header.shstrndx 0xff00 ≡ false = le-ltb q.header.shstrndx 0xff00 large in rw test refl

phnum_small : (q : Object) → IsDerived q → length q.phdrs < 0xffff → (written_header q.header).phnum ≡ length q.phdrs
unfolding written_header
phnum_small q is small =
    let m = is.phnum in let test : nat_lt (length q.phdrs) 0xffff ≡ true = lt-ltb (length q.phdrs) 0xffff small in rw (m, test) refl

phnum_large : (q : Object) → IsDerived q → 0xffff ≤ length q.phdrs → (written_header q.header).phnum ≡ 0xffff
unfolding written_header
phnum_large q is large =
    let m = is.phnum in let test : nat_lt (length q.phdrs) 0xffff ≡ false = le-ltb (length q.phdrs) 0xffff large in rw (m, test) refl

-- section 0 is needed for each number that the header does not hold
needs_by : (a b c d : Bool) → a ≡ false → (b ≡ true) ⊎ ((c ≡ true) ⊎ (d ≡ true)) → (not a && (b || c || d)) ≡ true
needs_by false true c d e h = refl
needs_by false false true d e h = refl
needs_by false false false true e h = refl
needs_by false false false false e h = ⊎_elim (λ x. cc) (λ y. ⊎_elim (λ x. cc) (λ x. cc) y) h
needs_by true b c d e h = cc

shnum_read : (image : List ℕ) (q : Object) (first : Shdr) → StandsIn image q → IsDerived q → IsFirst q first → true_shnum (written_header q.header) first ≡ length q.sections
unfolding true_shnum
shnum_read image q first stands is known = ⊎_elim
    (λ some. ⊎_elim
    (λ small.
    let number = shnum_small q is small in
    let test : ((written_header q.header).shnum == 0) ≡ false = ne_eqb (written_header q.header).shnum 0 (λ h. omega arith) in
    by_test ((written_header q.header).shoff == 0) ((written_header q.header).shnum == 0) test number)
    (λ large.
    let zero_number = shnum_large q is large in
    let place = shoff_some q image stands some in
    let test : ((written_header q.header).shnum == 0) ≡ true = eq-eqb (written_header q.header).shnum 0 zero_number in
    let needed : needs_first (written_header q.header) ≡ true = needs_by ((written_header q.header).shoff == 0) ((written_header q.header).shnum == 0) ((written_header q.header).shstrndx == 0xffff) ((written_header q.header).phnum == 0xffff) place (inl test) in
    let size : nat_lt (length q.sections) 0xff00 ≡ false = le-ltb (length q.sections) 0xff00 large in
    rw (place, test) (ap (λ (h : Shdr). h.size) (known.same needed) ∙ is.size some ∙ rw size refl))
    (cases_lt (length q.sections) 0xff00))
    (λ none.
    let empty : length q.sections ≡ 0 = omega arith in
    let number = shnum_small q is (omega arith) in
    rw (shoff_none q is empty) number)
    (cases_lt 0 (length q.sections))
  where
    by_test : (a b : Bool) → b ≡ false → (written_header q.header).shnum ≡ length q.sections → (if not a && b then first.size else (written_header q.header).shnum) ≡ length q.sections
    by_test true b e number = number
    by_test false false e number = number
    by_test false true e number = cc

index_read : (image : List ℕ) (q : Object) (first : Shdr) → StandsIn image q → IsDerived q → IsFirst q first → true_shstrndx (written_header q.header) first ≡ q.header.shstrndx
unfolding true_shstrndx
index_read image q first stands is known =
    let count = shnum_read image q first stands is known in
    ⊎_elim
    (λ some.
    let none : (true_shnum (written_header q.header) first == 0) ≡ false = ne_eqb (true_shnum (written_header q.header) first) 0 (λ h. omega arith) in
    ⊎_elim
    (λ small.
    let number = index_small q small in
    let test : ((written_header q.header).shstrndx == 0xffff) ≡ false = ne_eqb (written_header q.header).shstrndx 0xffff (λ h. omega arith) in
    rw (none, test) number)
    (λ large.
    let number = index_large q large in
    let place = shoff_some q image stands some in
    let test : ((written_header q.header).shstrndx == 0xffff) ≡ true = eq-eqb (written_header q.header).shstrndx 0xffff number in
    let needed : needs_first (written_header q.header) ≡ true = needs_by ((written_header q.header).shoff == 0) ((written_header q.header).shnum == 0) ((written_header q.header).shstrndx == 0xffff) ((written_header q.header).phnum == 0xffff) place (inr (inl test)) in
    let size : nat_lt q.header.shstrndx 0xff00 ≡ false = le-ltb q.header.shstrndx 0xff00 large in
    rw (none, test) (ap (λ (h : Shdr). h.link) (known.same needed) ∙ is.link some ∙ rw size refl))
    (cases_lt q.header.shstrndx 0xff00))
    (λ nothing.
    let empty : length q.sections ≡ 0 = omega arith in
    let none : (true_shnum (written_header q.header) first == 0) ≡ true = eq-eqb (true_shnum (written_header q.header) first) 0 (count ∙ empty) in
    rw none (sym (is.no_index empty)))
    (cases_lt 0 (length q.sections))

phnum_read : (image : List ℕ) (q : Object) (first : Shdr) → StandsIn image q → IsDerived q → IsFirst q first → true_phnum (written_header q.header) first ≡ length q.phdrs
unfolding true_phnum
phnum_read image q first stands is known = ⊎_elim
    (λ small.
    let number = phnum_small q is small in
    let test : ((written_header q.header).phnum == 0xffff) ≡ false = ne_eqb (written_header q.header).phnum 0xffff (λ h. omega arith) in
    rw test number)
    (λ large.
    let number = phnum_large q is large in
    let some = is.plenty large in
    let place = shoff_some q image stands some in
    let test : ((written_header q.header).phnum == 0xffff) ≡ true = eq-eqb (written_header q.header).phnum 0xffff number in
    let needed : needs_first (written_header q.header) ≡ true = needs_by ((written_header q.header).shoff == 0) ((written_header q.header).shnum == 0) ((written_header q.header).shstrndx == 0xffff) ((written_header q.header).phnum == 0xffff) place (inr (inr test)) in
    let size : nat_lt (length q.phdrs) 0xffff ≡ false = le-ltb (length q.phdrs) 0xffff large in
    rw test (ap (λ (h : Shdr). h.info) (known.same needed) ∙ is.info some ∙ rw size refl))
    (cases_lt (length q.phdrs) 0xffff)

-- ---- Section 0

-- the section headers of an object
abbrev pub headers_of : Object → List Shdr
headers_of q = map (λ c. c.header) q.sections

header_at_index : (q : Object) (s : ℕ) (d : Shdr) → s < length q.sections → get_or (headers_of q) s d ≡ (section_at q s).header
unfolding section_at
header_at_index q s d h = get_or-map (λ (c : Section). c.header) q.sections s absent_section d h

some_sections : (q : Object) → IsDerived q → needs_first (written_header q.header) ≡ true → 0 < length q.sections
some_sections q is needed = ⊎_elim (λ some. some)
    (λ none.
    let empty : length q.sections ≡ 0 = omega arith in
    let place = shoff_none q is empty in
    absurd (let clash : false ≡ true = sym (without ((written_header q.header).shoff == 0) ((written_header q.header).shnum == 0 || (written_header q.header).shstrndx == 0xffff || (written_header q.header).phnum == 0xffff) place) ∙ needed in cc))
    (cases_lt 0 (length q.sections))
  where
    without : (a b : Bool) → a ≡ true → (not a && b) ≡ false
    without true b e = refl
    without false b e = cc

-- so many bytes of one entry, and of the whole table
first_of_table : (size count : ℕ) (l whole : List ℕ) → 0 < count → take (count * size) l ≡ whole → take size l ≡ take size whole
first_of_table size zero l whole some same = absurd (omega arith)
first_of_table size (suc count) l whole some same = sym (take-take size (suc count * size) l (omega arith)) ∙ ap (take size) same

first_bytes : (image : List ℕ) (q : Object) → StandsIn image q → 0 < length q.sections → take (shdr_size q.header.class) (drop q.header.shoff image) ≡ shdr_bytes q.header.class q.header.order (section_at q 0).header
unfolding shdrs_bytes
first_bytes image q stands some =
    let count = length-map q.sections (λ (c : Section). c.header) in
    let first = first_of_table (shdr_size q.header.class) (length q.sections) (drop q.header.shoff image) (flat_map (shdr_bytes q.header.class q.header.order) (headers_of q)) some stands.table in
    let none : 0 * shdr_size q.header.class ≡ 0 = omega arith in
    let entry = entry_bytes (shdr_bytes q.header.class q.header.order) (shdr_size q.header.class) (length-shdr_bytes q.header.class q.header.order) (headers_of q) 0 (section_at q 0).header (omega arith) in
    first ∙ sym (ap (λ (n : ℕ). take (shdr_size q.header.class) (drop n (flat_map (shdr_bytes q.header.class q.header.order) (headers_of q)))) none) ∙ entry
    ∙ ap (shdr_bytes q.header.class q.header.order) (header_at_index q 0 (section_at q 0).header some)

-- what fits in the headers of an object
unfoldable pub AreFitting : Object → Type 0
AreFitting q = (s : ℕ) → s < length q.sections → IsShdr (section_at q s).header × IsTrue (shdr_fits q.header.class (section_at q s).header)

first_read : (reads : ReadsBack) (image : List ℕ) (q : Object) → StandsIn image q → IsDerived q → AreFitting q → needs_first (written_header q.header) ≡ true → first_section (written_header q.header) image ≡ (section_at q 0).header
unfolding first_section AreFitting written_header
first_read reads image q stands is fitting needed =
    let some = some_sections q is needed in
    let here = fitting 0 some in
    rw needed (ap (shdr_of q.header.class q.header.order) (first_bytes image q stands some) ∙ reads.shdr q.header.class q.header.order (section_at q 0).header here.0 here.1)

-- ---- Nothing is refused

and_false_right : (a b : Bool) → b ≡ false → (a && b) ≡ false
and_false_right true b e = e
and_false_right false b e = refl

and_false_left : (a b : Bool) → a ≡ false → (a && b) ≡ false
and_false_left false b e = refl
and_false_left true b e = cc

not_true : (b : Bool) → b ≡ true → not b ≡ false
not_true true e = refl
not_true false e = cc

-- one of two tests fails, by whether there are any
left_without : (a b : Bool) (count : ℕ) → (count ≡ 0 → a ≡ false) → (0 < count → b ≡ false) → (a && b) ≡ false
left_without a b count none some = ⊎_elim (λ h. and_false_right a b (some h)) (λ h. and_false_left a b (none (omega arith))) (cases_lt 0 count)

left_with : (a b : Bool) (count : ℕ) → (count ≡ 0 → b ≡ false) → (0 < count → a ≡ false) → (a && b) ≡ false
left_with a b count none some = ⊎_elim (λ h. and_false_left a b (some h)) (λ h. and_false_right a b (none (omega arith))) (cases_lt 0 count)

pub limit_small : (class : Class) → limit_of class ≤ 2 ^ 40
unfolding limit_of
limit_small C32 = lit≤ tt
limit_small C64 = lit≤ tt

no_need : (q : Object) → IsDerived q → length q.sections ≡ 0 → needs_first (written_header q.header) ≡ false
no_need q is none = and_false_left (not ((written_header q.header).shoff == 0)) ((written_header q.header).shnum == 0 || (written_header q.header).shstrndx == 0xffff || (written_header q.header).phnum == 0xffff) (not_true ((written_header q.header).shoff == 0) (shoff_none q is none))

version_written : (h : Ehdr) → (written_header h).version ≡ h.version
unfolding written_header
version_written h = refl

shentsize_written : (h : Ehdr) → (written_header h).shentsize ≡ h.shentsize
unfolding written_header
shentsize_written h = refl

phentsize_written : (h : Ehdr) → (written_header h).phentsize ≡ h.phentsize
unfolding written_header
phentsize_written h = refl

places_written : (h : Ehdr) → ((written_header h).phoff ≡ h.phoff) × ((written_header h).shoff ≡ h.shoff)
unfolding written_header
places_written h = (refl, refl)

one_entry : (count size : ℕ) → 0 < count → size ≤ count * size
one_entry zero size some = absurd (omega arith)
one_entry (suc count) size some = omega arith

five_pass : (a b c d e : Bool) (v w x y z : ElfError) → (a ≡ false) × ((b ≡ false) × ((c ≡ false) × ((d ≡ false) × (e ≡ false))))
    → first_refusal (refused_if a v ∷ refused_if b w ∷ refused_if c x ∷ refused_if d y ∷ refused_if e z ∷ []) ≡ None
five_pass a b c d e v w x y z h = rw (h.0, h.1.0, h.1.1.0, h.1.1.1.0, h.1.1.1.1) refl

header_rows : (image : List ℕ) (q : Object) → StandsIn image q → IsDerived q → header_refusal (written_header q.header) (length image) ≡ None
unfolding header_refusal
header_rows image q stands is =
    let h = written_header q.header in
    let small = stands.small in
    let limit = limit_small q.header.class in
    let class = (written_kept q.header).0 in
    let shoff = (places_written q.header).1 in
    let version : (written_header q.header).version ≡ 1 = version_written q.header ∙ is.version in five_pass _ _ _ _ _ error.Version error.TooLarge error.ShTable error.ShTable error.ShTable (
      not_true ((written_header q.header).version == 1) (eq-eqb (written_header q.header).version 1 version),
      (
        le-ltb (2 ^ 40) (length image) (omega arith),
        (
          left_with ((written_header q.header).shoff == 0) (not ((written_header q.header).shnum == 0)) (length q.sections)
              (λ none. not_true ((written_header q.header).shnum == 0) (eq-eqb (written_header q.header).shnum 0 (shnum_small q is (omega arith) ∙ none)))
              (λ some. shoff_some q image stands some),
          (
            left_without (not ((written_header q.header).shoff == 0)) (not ((written_header q.header).shentsize == shdr_size (written_header q.header).class)) (length q.sections)
                (λ none. not_true ((written_header q.header).shoff == 0) (shoff_none q is none))
                (λ some. not_true ((written_header q.header).shentsize == shdr_size (written_header q.header).class) (eq-eqb (written_header q.header).shentsize (shdr_size (written_header q.header).class) (shentsize_written q.header ∙ is.shentsize some ∙ sym (ap shdr_size class)))),
            left_without (needs_first (written_header q.header)) (not (lies_in (length image) (written_header q.header).shoff 1 (shdr_size (written_header q.header).class))) (length q.sections)
                (λ none. no_need q is none)
                (λ some.
                let end = stands.table_end some in
                let entry = one_entry (length q.sections) (shdr_size q.header.class) some in
                let size = ap shdr_size class in
                not_true (lies_in (length image) (written_header q.header).shoff 1 (shdr_size (written_header q.header).class)) (le-leb ((written_header q.header).shoff + 1 * shdr_size (written_header q.header).class) (length image) (omega arith))),
          ),
        ),
      ),
    )

-- the true counts
unfoldable pub counts_of : Object → Counts
counts_of q = record { phnum = length q.phdrs; shnum = length q.sections; shstrndx = q.header.shstrndx }

phnum_written_none : (q : Object) → IsDerived q → length q.phdrs ≡ 0 → (written_header q.header).phnum ≡ 0
phnum_written_none q is none = phnum_small q is (omega arith) ∙ none

count_rows : (image : List ℕ) (q : Object) → StandsIn image q → IsDerived q → count_refusal (written_header q.header) (counts_of q) (length image) ≡ None
unfolding count_refusal counts_of
count_rows image q stands is =
    let class = (written_kept q.header).0 in
    let phoff = (places_written q.header).0 in
    let shoff = (places_written q.header).1 in
    let shdr = ap shdr_size class in
    let phdr = ap phdr_size class in
    let phdr_count = is.phdr_count in
    let section_count = is.section_count in five_pass _ _ _ _ _ error.ShTable error.PhTable error.PhTable error.PhTable error.TooMany (
      not_true (lies_in (length image) (written_header q.header).shoff (length q.sections) (shdr_size (written_header q.header).class))
          (⊎_elim
          (λ some.
          let end = stands.table_end some in
          let size : length q.sections * shdr_size (written_header q.header).class ≡ length q.sections * shdr_size q.header.class = ap (λ (n : ℕ). length q.sections * n) shdr in
          le-leb ((written_header q.header).shoff + length q.sections * shdr_size (written_header q.header).class) (length image) (omega arith))
          (λ none.
          let empty : length q.sections ≡ 0 = omega arith in
          let place = is.no_table empty in
          let size : length q.sections * shdr_size (written_header q.header).class ≡ 0 * shdr_size (written_header q.header).class = ap (λ (n : ℕ). n * shdr_size (written_header q.header).class) empty in
          le-leb ((written_header q.header).shoff + length q.sections * shdr_size (written_header q.header).class) (length image) (omega arith))
          (cases_lt 0 (length q.sections))),
      (
        left_without (not ((written_header q.header).phnum == 0)) (not ((written_header q.header).phentsize == phdr_size (written_header q.header).class)) (length q.phdrs)
            (λ none. not_true ((written_header q.header).phnum == 0) (eq-eqb (written_header q.header).phnum 0 (phnum_written_none q is none)))
            (λ some. not_true ((written_header q.header).phentsize == phdr_size (written_header q.header).class) (eq-eqb (written_header q.header).phentsize (phdr_size (written_header q.header).class) (phentsize_written q.header ∙ is.phentsize some ∙ sym phdr))),
        (
          ⊎_elim
              (λ small.
              let number = phnum_small q is small in
              and_false_left ((written_header q.header).phnum == 0xffff) ((written_header q.header).shoff == 0) (ne_eqb (written_header q.header).phnum 0xffff (λ h. omega arith)))
              (λ large. and_false_right ((written_header q.header).phnum == 0xffff) ((written_header q.header).shoff == 0) (shoff_some q image stands (is.plenty large)))
              (cases_lt (length q.phdrs) 0xffff),
          (
            left_without (not ((written_header q.header).phnum == 0)) (not (lies_in (length image) (written_header q.header).phoff (length q.phdrs) (phdr_size (written_header q.header).class))) (length q.phdrs)
                (λ none. not_true ((written_header q.header).phnum == 0) (eq-eqb (written_header q.header).phnum 0 (phnum_written_none q is none)))
                (λ some.
                let end = stands.segments_end some in
                let size : length q.phdrs * phdr_size (written_header q.header).class ≡ length q.phdrs * phdr_size q.header.class = ap (λ (n : ℕ). length q.phdrs * n) phdr in
                not_true (lies_in (length image) (written_header q.header).phoff (length q.phdrs) (phdr_size (written_header q.header).class)) (le-leb ((written_header q.header).phoff + length q.phdrs * phdr_size (written_header q.header).class) (length image) (omega arith))),
            or_both (nat_lt (2 ^ 20) (length q.sections)) (nat_lt (2 ^ 20) (length q.phdrs)) (le-ltb (2 ^ 20) (length q.sections) section_count) (le-ltb (2 ^ 20) (length q.phdrs) phdr_count),
          ),
        ),
      ),
    )
  where
    or_both : (a b : Bool) → a ≡ false → b ≡ false → (a || b) ≡ false
    or_both false b e f = f
    or_both true b e f = cc

counts_are : (image : List ℕ) (q : Object) (first : Shdr) → StandsIn image q → IsDerived q → IsFirst q first → true_counts (written_header q.header) first ≡ counts_of q
unfolding counts_of
counts_are image q first stands is known =
    let phnum = phnum_read image q first stands is known in
    let shnum = shnum_read image q first stands is known in
    let index = index_read image q first stands is known in
    cc

pub counts_read : (reads : ReadsBack) (image : List ℕ) (q : Object) → StandsIn image q → IsDerived q → AreFitting q → counts_in (written_header q.header) image ≡ Ok (counts_of q)
unfolding counts_in counts_by
counts_read reads image q stands is fitting =
    let known : IsFirst q (first_section (written_header q.header) image) = record { same = first_read reads image q stands is fitting } in
    let counts = counts_are image q (first_section (written_header q.header) image) stands is known in
    ap (λ (r : Option ElfError). answered r (first_section (written_header q.header) image) >>= λ first. counts_by (written_header q.header) first (length image)) (header_rows image q stands is)
    ∙ ap (λ (c : Counts). answered (count_refusal (written_header q.header) c (length image)) c) counts
    ∙ ap (λ (r : Option ElfError). answered r (counts_of q)) (count_rows image q stands is)
