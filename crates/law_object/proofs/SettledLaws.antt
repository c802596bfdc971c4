-- The image of an object, opened again, is that object settled.
use Rattle.std.proofs.Common.{◌≡◌, ℕ, zero, suc, ◌+◌, ◌-◌, ◌^◌, ◌<◌, ◌≤◌, Bool, true, false, not, ◌&&◌, ◌||◌, List, [], ◌∷◌, ◌++◌, length, take, drop, get_or, Option, Some, None, Result, Ok, refl, sym, ap, ◌∙◌, subst, arith, lit≤, ⊎_elim}
use Rattle.std.specs.Prelude.{cond, All, IsTrue, nat_lt, nat_le, if◌then◌else◌, ◌==◌, map, slice_get}
use Rattle.std.specs.List.{range_with_len, enumerate_from, position, position_from, AllByRecursion}
use Rattle.std.specs.Option.{option_map}
use Rattle.std.proofs.lemmas.Bool.{cases_lt, eq-eqb, eqb-true, ltb-true, lt-ltb, le-ltb, le-leb}
use Rattle.std.proofs.lemmas.List.{length-map, get_or-map, ext_get_or, nil_from_length}
use Rattle.std.proofs.lemmas.Iterator.Adapters.{position_from-zero}
use Rattle.std.proofs.lemmas.List.FromFn.{length-enumerate_from, get_or-enumerate_from}
use Rattle.std.proofs.lemmas.List.Elements.{All-map, All-weaker, All-from_recursion, recursion_from_All}
use Rattle.elf_types.specs.declared.records.Class.{Class}
use Rattle.elf_types.specs.declared.records.Ehdr.{Ehdr}
use Rattle.elf_types.specs.declared.records.Phdr.{Phdr}
use Rattle.elf_types.specs.declared.records.Shdr.{Shdr}
use Rattle.elf_types.specs.declared.records.Part.TheVariants as part
use Rattle.elf_types.specs.declared.errors.ElfError.{ElfError}
use Rattle.elf_types.specs.declared.errors.ElfError.TheVariants.{TooMany, Unfit}
use Rattle.elf_object.specs.elf_xlate.Headers.{phdr_size, shdr_size, ehdr_fits, IsEhdr, HasNarrowCounts, phdr_fits, IsPhdr, shdr_fits, IsShdr}
use Rattle.elf_object.specs.elf_ident.declared.fronts.Front.{Front}
use Rattle.elf_types.specs.Answers.{refused_if}
use Rattle.elf_object.specs.Blocks.{Block, block_end}
use Rattle.elf_object.specs.Object.{Object, Section, home_piece, absent_section, section_at, header_of, has_file_bytes, occupies_file, is_dirty}
use Rattle.elf_object.specs.Open.{home_len, home_of, home_bytes, opened_section, front_in_image, standing_header, begun, begun_or_refused, opened}
use Rattle.elf_object.specs.Joined.{file_bytes}
use Rattle.elf_object.specs.Derived.{where_any, derived_header, written_phnum, written_shnum, written_shstrndx, written_header, numbered_shdr}
use Rattle.elf_object.specs.Layout.{section_numbers, places_of, table_place, placed_header, placed_shdr, placed_section, placed_by, placed}
use Rattle.elf_object.specs.Image.{front_blocks, section_block, part_blocks, image_length, image}
use Rattle.elf_object.specs.Refusal.{too_many, unfit_segment, unfit_item, missing_home, content_refusal, refusal}
use Rattle.elf_object.specs.Settled.{settled_section, settled_over, settle}
use Rattle.elf_object.specs.Valid.{IsSection, IsObject, as_opened}
use Rattle.law_object.proofs.ImageLaws.{section_at-placed, joined-none, length-image, image-clean, placed-dirty, size-placed}
use Rattle.elf_object.proofs.PassedLaws.{none_first, none_rest, not_not}
use Rattle.law_object.proofs.KeepLaws.{counted_is, section_at_is}
use Rattle.law_object.proofs.PlacedLaws.{ehdr_fits_each, ehdr_fits_all, placed_is, update_passes}
use Rattle.law_object.proofs.StandLaws.{parts_are_apart, part_in_image, get_each, section_count-placed, joined-placed, where_some}
use Rattle.law_object.proofs.AgainLaws.{stype-placed}
use Rattle.law_object.proofs.ReopenLaws.{ReadsBack, StandsIn, image_stands}
use Rattle.law_object.proofs.CountLaws.{IsDerived, AreFitting, headers_of}
use Rattle.law_object.proofs.FrontLaws.{ArePhdrs, AreShdrs, IsReadable, front_of, front_read}
use Rattle.law_object.specs.Laws.{ReopenLaw}

-- ---- A placed object can be read

narrow_is : (h : Ehdr) → IsEhdr h → IsTrue (ehdr_fits h) → IsEhdr (written_header h) × IsTrue (ehdr_fits (written_header h)) × HasNarrowCounts (written_header h)
unfolding written_header
narrow_is h is fitting =
    let phnum = small (nat_lt h.phnum 0xffff) h.phnum 0xffff 0xffff refl (λ e. ltb-true h.phnum 0xffff e) (lit≤ tt) (lit≤ tt) in
    let shnum = small (nat_lt h.shnum 0xff00) h.shnum 0 0xff00 refl (λ e. ltb-true h.shnum 0xff00 e) (lit≤ tt) (lit≤ tt) in
    let shstrndx = small (nat_lt h.shstrndx 0xff00) h.shstrndx 0xffff 0xff00 refl (λ e. ltb-true h.shstrndx 0xff00 e) (lit≤ tt) (lit≤ tt) in
    let each = ehdr_fits_each h fitting in (
      counted_is h (written_phnum h.phnum) (written_shnum h.shnum) (written_shstrndx h.shstrndx) is (omega arith) (omega arith) (omega arith),
      ehdr_fits_all (written_header h) (record { entry = each.entry; phoff = each.phoff; shoff = each.shoff }),
      record { phnum = phnum; shnum = shnum; shstrndx = shstrndx },
    )
  where
    small : (b : Bool) (n other bound : ℕ) → b ≡ b → (b ≡ true → n < bound) → bound ≤ 0xffff → other ≤ 0xffff → (if b then n else other) < 2 ^ 16
    small true n other bound e below x y = let less = below refl in omega arith
    small false n other bound e below x y = omega arith

-- the causes that did not come
pub record IsUnrefused (o : Object) : Type 0 where
  pub many : too_many o ≡ None
  pub segment : unfit_segment o ≡ None
  pub item : unfit_item o ≡ None
  pub missing : missing_home o ≡ None

pub unrefused : (o : Object) → content_refusal o ≡ None → IsUnrefused o
unfolding content_refusal
unrefused o h =
    let first = none_rest (too_many o) (unfit_segment o ∷ unfit_item o ∷ missing_home o ∷ []) h in
    let second = none_rest (unfit_segment o) (unfit_item o ∷ missing_home o ∷ []) first in
    let third = none_rest (unfit_item o) (missing_home o ∷ []) second in
    record {
      many = none_first (too_many o) (unfit_segment o ∷ unfit_item o ∷ missing_home o ∷ []) h;
      segment = none_first (unfit_segment o) (unfit_item o ∷ missing_home o ∷ []) first;
      item = none_first (unfit_item o) (missing_home o ∷ []) second;
      missing = none_first (missing_home o) [] third;
    }

-- there is a section 0 for a number of program headers that the header does not hold
plenty_of : (o : Object) → too_many o ≡ None → 0xffff ≤ length o.phdrs → 0 < length o.sections
unfolding too_many
plenty_of o h large = ⊎_elim (λ some. some)
    (λ none.
    let big = le-leb 0xffff (length o.phdrs) large in
    let empty = eq-eqb (length o.sections) 0 (omega arith) in
    absurd (refused_then (nat_le 0xffff (length o.phdrs)) (length o.sections == 0) (nat_le 0xff00 (length o.sections) && occupies_file (section_at o 0).header) TooMany h big empty))
    (cases_lt 0 (length o.sections))
  where
    refused_then : (a b c : Bool) (e : ElfError) → refused_if (a && b || c) e ≡ None → a ≡ true → b ≡ true → ⊥
    refused_then true true c e g x y = cc
    refused_then true false c e g x y = cc
    refused_then false b c e g x y = cc

-- and where the count stands in it, it has no bytes in the file
first_empty : (o : Object) → too_many o ≡ None → 0xff00 ≤ length o.sections → occupies_file (section_at o 0).header ≡ false
unfolding too_many
first_empty o h large =
    let big = le-leb 0xff00 (length o.sections) large in
    unfilled (nat_le 0xffff (length o.phdrs) && length o.sections == 0) (nat_le 0xff00 (length o.sections)) (occupies_file (section_at o 0).header) TooMany h big
  where
    unfilled : (a b c : Bool) (e : ElfError) → refused_if (a || b && c) e ≡ None → b ≡ true → c ≡ false
    unfilled a b false e g x = refl
    unfilled true b true e g x = cc
    unfilled false true true e g x = cc
    unfilled false false true e g x = cc

-- ---- Program headers fit

none_from : {X : Type 0} (test : X → Bool) (i : ℕ) (l : List X) → position_from test i l ≡ None → AllByRecursion (λ x. test x ≡ false) l
none_from test i [] h = tt
none_from test i (x ∷ l) h = by_test (test x) refl h (none_from test (i + 1) l)
  where
    by_test : (b : Bool) → test x ≡ b → cond b (Some i) (position_from test (i + 1) l) ≡ None → (position_from test (i + 1) l ≡ None → AllByRecursion (λ y. test y ≡ false) l) → (test x ≡ false) × AllByRecursion (λ y. test y ≡ false) l
    by_test true e g rest = cc
    by_test false e g rest = (e, rest g)

none_at : {X : Type 0} (test : X → Bool) (l : List X) → position test l ≡ None → AllByRecursion (λ x. test x ≡ false) l
none_at test l h = none_from test 0 l (sym (position_from-zero test l) ∙ h)

some_mapped : {X Y : Type 0} (f : X → Y) (o : Option X) → option_map f o ≡ None → o ≡ None
some_mapped f None h = refl
some_mapped f (Some x) h = cc

both_each : {X : Type 0} (P Q R : X → Type 0) → ((x : X) → P x → Q x → R x) → (l : List X) → AllByRecursion P l → AllByRecursion Q l → AllByRecursion R l
both_each P Q R join [] a b = tt
both_each P Q R join (x ∷ l) a b = (join x a.0 b.0, both_each P Q R join l a.1 b.1)

phdrs_fit : (o : Object) → All IsPhdr o.phdrs → unfit_segment o ≡ None → All (λ p. IsPhdr p × IsTrue (phdr_fits o.header.class p)) o.phdrs
unfolding unfit_segment
phdrs_fit o ranged h =
    let none = some_mapped (Unfit part.Segments) (position (λ p. not (phdr_fits o.header.class p)) o.phdrs) h in
    let fitting = none_at (λ p. not (phdr_fits o.header.class p)) o.phdrs none in
    let are = recursion_from_All IsPhdr o.phdrs ranged in
    All-from_recursion (λ p. IsPhdr p × IsTrue (phdr_fits o.header.class p)) o.phdrs
    (both_each IsPhdr (λ p. not (phdr_fits o.header.class p) ≡ false) (λ p. IsPhdr p × IsTrue (phdr_fits o.header.class p)) (λ p a b. (a, not_not (phdr_fits o.header.class p) b)) o.phdrs are fitting)

-- ---- The placed object is readable

where_none : (count n : ℕ) → count ≡ 0 → where_any count n ≡ 0
where_none count n e = let test = eq-eqb count 0 e in rw test refl

-- section 0 of the placed object
first_is : (o : Object) → 0 < length o.sections → (section_at (placed_by (places_of o) o) 0).header ≡ numbered_shdr (placed_header (places_of o) o) (section_at o 0).header
unfolding placed_section placed_shdr
first_is o some = ap (λ (c : Section). c.header) (section_at-placed (places_of o) o 0 some)

numbered_fields : (h : Ehdr) (first : Shdr) → ((numbered_shdr h first).size ≡ (if nat_lt h.shnum 0xff00 then 0 else h.shnum)) × ((numbered_shdr h first).link ≡ (if nat_lt h.shstrndx 0xff00 then 0 else h.shstrndx)) × ((numbered_shdr h first).info ≡ (if nat_lt h.phnum 0xffff then 0 else h.phnum))
unfolding numbered_shdr
numbered_fields h first = (refl, refl, refl)

header_fields : (o : Object) → ((placed_header (places_of o) o).version ≡ 1) × ((placed_header (places_of o) o).phnum ≡ length o.phdrs) × ((placed_header (places_of o) o).shnum ≡ length o.sections) × ((placed_header (places_of o) o).phentsize ≡ where_any (length o.phdrs) (phdr_size o.header.class)) × ((placed_header (places_of o) o).shentsize ≡ where_any (length o.sections) (shdr_size o.header.class)) × ((placed_header (places_of o) o).class ≡ o.header.class)
unfolding placed_header derived_header header_of
header_fields o = (refl, refl, refl, refl, refl, refl)

header_places : (o : Object) → length o.sections ≡ 0 → ((placed_header (places_of o) o).shoff ≡ 0) × ((placed_header (places_of o) o).shstrndx ≡ 0)
unfolding placed_header derived_header header_of
header_places o none = (where_none (length o.sections) (table_place (places_of o) (length o.sections)) none, where_none (length o.sections) o.header.shstrndx none)

placed_parts_of : (o : Object) → ((placed_by (places_of o) o).header ≡ placed_header (places_of o) o) × ((placed_by (places_of o) o).phdrs ≡ o.phdrs)
unfolding placed_by
placed_parts_of o = (refl, refl)

derived_is : (o : Object) → IsObject o → IsUnrefused o → IsDerived (placed_by (places_of o) o)
derived_is o ok un =
    let q = placed_by (places_of o) o in
    let fields = header_fields o in
    let parts = placed_parts_of o in
    let count = section_count-placed (places_of o) o in
    let phdrs = ap length parts.1 in
    let class : (placed_by (places_of o) o).header.class ≡ o.header.class = ap (λ (h : Ehdr). h.class) parts.0 ∙ fields.5 in
    let phdr_count = ok.phdr_count in
    let section_count = ok.section_count in
    let numbered = numbered_fields (placed_header (places_of o) o) (section_at o 0).header in
    record {
      version = ap (λ (h : Ehdr). h.version) parts.0 ∙ fields.0;
      phnum = ap (λ (h : Ehdr). h.phnum) parts.0 ∙ fields.1 ∙ sym phdrs;
      shnum = ap (λ (h : Ehdr). h.shnum) parts.0 ∙ fields.2 ∙ sym count;
      phentsize = λ some. ap (λ (h : Ehdr). h.phentsize) parts.0 ∙ fields.3 ∙ where_some (length o.phdrs) (phdr_size o.header.class) (omega arith) ∙ sym (ap phdr_size class);
      shentsize = λ some. ap (λ (h : Ehdr). h.shentsize) parts.0 ∙ fields.4 ∙ where_some (length o.sections) (shdr_size o.header.class) (omega arith) ∙ sym (ap shdr_size class);
      no_table = λ none. ap (λ (h : Ehdr). h.shoff) parts.0 ∙ (header_places o (sym count ∙ none)).0;
      no_index = λ none. ap (λ (h : Ehdr). h.shstrndx) parts.0 ∙ (header_places o (sym count ∙ none)).1;
      size = λ some. ap (λ (h : Shdr). h.size) (first_is o (omega arith)) ∙ numbered.0 ∙ ap (λ (n : ℕ). if nat_lt n 0xff00 then 0 else n) (fields.2 ∙ sym count);
      link = λ some. ap (λ (h : Shdr). h.link) (first_is o (omega arith)) ∙ numbered.1 ∙ ap (λ (h : Ehdr). if nat_lt h.shstrndx 0xff00 then 0 else h.shstrndx) (sym parts.0);
      info = λ some. ap (λ (h : Shdr). h.info) (first_is o (omega arith)) ∙ numbered.2 ∙ ap (λ (n : ℕ). if nat_lt n 0xffff then 0 else n) (fields.1 ∙ sym phdrs);
      plenty = λ large. let some = plenty_of o un.many (omega arith) in omega arith;
      phdr_count = omega arith;
      section_count = omega arith;
    }

pub placed_readable : (o : Object) → IsObject o → All IsPhdr o.phdrs → is_dirty o ≡ true → refusal o ≡ None → IsReadable (placed_by (places_of o) o)
unfolding ArePhdrs AreShdrs AreFitting
placed_readable o ok ranged dirty passed =
    let both = update_passes o dirty passed in
    let un = unrefused o both.0 in
    let is : IsObject (placed_by (places_of o) o) = subst IsObject (placed-dirty o dirty) (placed_is o ok passed) in
    let narrow = narrow_is (placed_by (places_of o) o).header is.header is.fitting in
    let class : (placed_by (places_of o) o).header.class ≡ o.header.class = ap (λ (h : Ehdr). h.class) (placed_parts_of o).0 ∙ (header_fields o).5 in
    record {
      written = record { is = narrow.0; narrow = narrow.2; fitting = narrow.1; pad = is.pad };
      derived = derived_is o ok un;
      phdrs = subst (λ (c : Class). All (λ p. IsPhdr p × IsTrue (phdr_fits c p)) (placed_by (places_of o) o).phdrs) (sym class)
          (subst (λ (l : List Phdr). All (λ p. IsPhdr p × IsTrue (phdr_fits o.header.class p)) l) (sym (placed_parts_of o).1) (phdrs_fit o ranged un.segment));
      shdrs = All-map (λ h. IsShdr h × IsTrue (shdr_fits (placed_by (places_of o) o).header.class h)) (λ c. c.header) (placed_by (places_of o) o).sections
          (All-weaker (IsSection (placed_by (places_of o) o).header.class) (λ c. IsShdr c.header × IsTrue (shdr_fits (placed_by (places_of o) o).header.class c.header)) (λ c x. (x.header, x.fitting)) (placed_by (places_of o) o).sections is.sections);
      each = λ s h. let x = section_at_is (placed_by (places_of o) o) s is in (x.header, x.fitting);
    }

-- ---- Sections of the image

home_raw : (image : List ℕ) (h : Shdr) (bytes : List ℕ) → home_len h ≡ length bytes → (0 < length bytes → (h.offset + length bytes ≤ length image) × (take (length bytes) (drop h.offset image) ≡ bytes)) → home_bytes (home_of (length image) h) image ≡ bytes
unfolding home_of home_bytes
home_raw image h bytes extent stands = ⊎_elim
    (λ some.
    let both = stands some in
    let end = both.0 in
    let inside : nat_lt (length image) (h.offset + length bytes) ≡ false = le-ltb (length image) (h.offset + length bytes) end in
    rw extent (rw inside (out_not (length bytes == 0) both.1)))
    (λ none.
    let empty : bytes ≡ [] = nil_from_length bytes (omega arith) in
    let size : home_len h ≡ 0 = extent ∙ omega arith in
    rw size (sym empty))
    (cases_lt 0 (length bytes))
  where
    out_not : (b : Bool) → take (length bytes) (drop h.offset image) ≡ bytes → (if not b && false then [] else take (length bytes) (drop h.offset image)) ≡ bytes
    out_not true e = e
    out_not false e = e

-- the block of a section is among the parts
section_among : (q : Object) (s : ℕ) → 0 < s → s < length q.sections → slice_get (part_blocks q) (s + 1) ≡ Some (section_block q s)
unfolding part_blocks
section_among q s positive inside =
    let index : s + 1 ≡ suc (suc (s - 1)) = omega arith in
    let number : 1 + (s - 1) ≡ s = omega arith in
    ap (λ (i : ℕ). slice_get ((front_blocks q).header ∷ (front_blocks q).segments ∷ map (section_block q) (section_numbers q) ++ (front_blocks q).table ∷ []) i) index
    ∙ in_row (section_block q) 1 (length q.sections - 1) ((front_blocks q).table ∷ []) (s - 1) (omega arith)
    ∙ ap (λ (k : ℕ). Some (section_block q k)) number
  where
    in_row : (f : ℕ → Block) (a m : ℕ) (rest : List Block) (j : ℕ) → j < m → slice_get (map f (range_with_len a m) ++ rest) j ≡ Some (f (a + j))
    in_row f a zero rest j h = absurd (omega arith)
    in_row f a (suc m) rest zero h = let here : a + 0 ≡ a = omega arith in ap (λ (k : ℕ). Some (f k)) (sym here)
    in_row f a (suc m) rest (suc j) h = let there : a + 1 + j ≡ a + suc j = omega arith in in_row f (a + 1) m rest j (omega arith) ∙ ap (λ (k : ℕ). Some (f k)) there

block_is : (q : Object) (s : ℕ) → section_block q s ≡ record { at = (section_at q s).header.offset; bytes = file_bytes q s }
unfolding section_block
block_is q s = refl

file_bytes_same : (s : ℕ) (c : Section) → (s == 0) ≡ false → has_file_bytes s c ≡ occupies_file c.header
unfolding has_file_bytes
file_bytes_same s c e = rw e refl

first_no_bytes : (c : Section) → has_file_bytes 0 c ≡ false
unfolding has_file_bytes
first_no_bytes c = refl

-- sh_size of section 0 is no extent
first_extent : (o : Object) → IsUnrefused o → 0 < length o.sections → home_len (section_at (placed_by (places_of o) o) 0).header ≡ 0
unfolding home_len
first_extent o un some =
    let is = first_is o some in
    let fields = header_fields o in
    let numbered = numbered_fields (placed_header (places_of o) o) (section_at o 0).header in
    let stype = stype-placed (places_of o) o 0 in
    let size : (section_at (placed_by (places_of o) o) 0).header.size ≡ (if nat_lt (length o.sections) 0xff00 then 0 else length o.sections) = ap (λ (h : Shdr). h.size) is ∙ numbered.0 ∙ ap (λ (n : ℕ). if nat_lt n 0xff00 then 0 else n) fields.2 in
    by_count size stype
  where
    by_count : (section_at (placed_by (places_of o) o) 0).header.size ≡ (if nat_lt (length o.sections) 0xff00 then 0 else length o.sections) → (section_at (placed_by (places_of o) o) 0).header.stype ≡ (section_at o 0).header.stype → (if occupies_file (section_at (placed_by (places_of o) o) 0).header then (section_at (placed_by (places_of o) o) 0).header.size else 0) ≡ 0
    by_count size stype = ⊎_elim
        (λ small.
        let test : nat_lt (length o.sections) 0xff00 ≡ true = lt-ltb (length o.sections) 0xff00 small in
        let none : (section_at (placed_by (places_of o) o) 0).header.size ≡ 0 = size ∙ rw test refl in
        either (occupies_file (section_at (placed_by (places_of o) o) 0).header) (section_at (placed_by (places_of o) o) 0).header.size none)
        (λ large.
        let empty = first_empty o un.many large in
        let same : occupies_file (section_at (placed_by (places_of o) o) 0).header ≡ false = ap (λ (t : ℕ). not (t == 0 || t == 8)) stype ∙ empty in
        unfilled (occupies_file (section_at (placed_by (places_of o) o) 0).header) (section_at (placed_by (places_of o) o) 0).header.size same)
        (cases_lt (length o.sections) 0xff00)
      where
        either : (b : Bool) (n : ℕ) → n ≡ 0 → (if b then n else 0) ≡ 0
        either true n e = e
        either false n e = refl

        unfilled : (b : Bool) (n : ℕ) → b ≡ false → (if b then n else 0) ≡ 0
        unfilled true n e = cc
        unfilled false n e = refl

block_ends : (o : Object) (b : Block) → block_end b ≤ image_length o → b.at + length b.bytes ≤ image_length o
unfolding block_end
block_ends o b h = h

-- sh_size of a section from 1 on is the number of its bytes
pub section_extent : (o : Object) (s : ℕ) → s < length o.sections → (s == 0) ≡ false → home_len (section_at (placed_by (places_of o) o) s).header ≡ length (file_bytes (placed_by (places_of o) o) s)
unfolding home_len
section_extent o s inside positive =
    let stype = stype-placed (places_of o) o s in
    let joined_same = joined-placed (places_of o) o s in
    let test : occupies_file (section_at (placed_by (places_of o) o) s).header ≡ occupies_file (section_at o s).header = ap (λ (t : ℕ). not (t == 0 || t == 8)) stype in
    let bytes = file_bytes_same s (section_at o s) positive in
    by_test (occupies_file (section_at o s).header) test bytes ∙ sym (ap length joined_same)
  where
    picked : (b : Bool) (n : ℕ) → b ≡ true → (if b then n else 0) ≡ n
    picked true n e = refl
    picked false n e = cc

    dropped : (b : Bool) (n : ℕ) → b ≡ false → (if b then n else 0) ≡ 0
    dropped true n e = cc
    dropped false n e = refl

    by_test : (b : Bool) → occupies_file (section_at (placed_by (places_of o) o) s).header ≡ b → has_file_bytes s (section_at o s) ≡ b → (if occupies_file (section_at (placed_by (places_of o) o) s).header then (section_at (placed_by (places_of o) o) s).header.size else 0) ≡ length (file_bytes o s)
    by_test true e filled = picked (occupies_file (section_at (placed_by (places_of o) o) s).header) (section_at (placed_by (places_of o) o) s).header.size e ∙ size-placed (places_of o) o s inside filled
    by_test false e filled = dropped (occupies_file (section_at (placed_by (places_of o) o) s).header) (section_at (placed_by (places_of o) o) s).header.size e ∙ sym (ap length (joined-none o s filled))

-- a section of the image has the bytes that were file_bytes
pub section_raw : (o : Object) (s : ℕ) → IsObject o → is_dirty o ≡ true → refusal o ≡ None → s < length o.sections → home_bytes (home_of (length (image o)) (section_at (placed_by (places_of o) o) s).header) (image o) ≡ file_bytes (placed_by (places_of o) o) s
section_raw o s ok dirty passed inside = by_test (s == 0) refl
  where
    un : IsUnrefused o
    un = unrefused o (update_passes o dirty passed).0

    same : placed o ≡ placed_by (places_of o) o
    same = placed-dirty o dirty

    count : length (placed_by (places_of o) o).sections ≡ length o.sections
    count = section_count-placed (places_of o) o

    stands : (0 < s) → 0 < length (file_bytes (placed_by (places_of o) o) s) → ((section_at (placed_by (places_of o) o) s).header.offset + length (file_bytes (placed_by (places_of o) o) s) ≤ length (image o)) × (take (length (file_bytes (placed_by (places_of o) o) s)) (drop (section_at (placed_by (places_of o) o) s).header.offset (image o)) ≡ file_bytes (placed_by (places_of o) o) s)
    stands positive some =
        let at : slice_get (part_blocks (placed o)) (s + 1) ≡ Some (record { at = (section_at (placed_by (places_of o) o) s).header.offset; bytes = file_bytes (placed_by (places_of o) o) s }) =
        ap (λ (q : Object). slice_get (part_blocks q) (s + 1)) same ∙ section_among (placed_by (places_of o) o) s positive (omega (arith, count)) ∙ ap Some (block_is (placed_by (places_of o) o) s) in
        let parts = parts_are_apart o ok dirty passed in
        let end = block_ends o (record { at = (section_at (placed_by (places_of o) o) s).header.offset; bytes = file_bytes (placed_by (places_of o) o) s }) (get_each (λ (b : Block). 0 < length b.bytes → block_end b ≤ image_length o) (part_blocks (placed o)) (s + 1) (record { at = (section_at (placed_by (places_of o) o) s).header.offset; bytes = file_bytes (placed_by (places_of o) o) s }) parts.within at some) in
        let len = length-image o in
        (omega arith, part_in_image o (s + 1) (record { at = (section_at (placed_by (places_of o) o) s).header.offset; bytes = file_bytes (placed_by (places_of o) o) s }) ok dirty passed at)

    by_test : (b : Bool) → (s == 0) ≡ b → home_bytes (home_of (length (image o)) (section_at (placed_by (places_of o) o) s).header) (image o) ≡ file_bytes (placed_by (places_of o) o) s
    by_test true e =
        let none = eqb-true s 0 e in
        let R : ℕ → Type 0 = λ k. home_bytes (home_of (length (image o)) (section_at (placed_by (places_of o) o) k).header) (image o) ≡ file_bytes (placed_by (places_of o) o) k in
        let empty = joined-none (placed_by (places_of o) o) 0 (first_no_bytes (section_at (placed_by (places_of o) o) 0)) in
        let extent = first_extent o un (omega (arith, inside)) in
        subst R (sym none) (home_raw (image o) (section_at (placed_by (places_of o) o) 0).header (file_bytes (placed_by (places_of o) o) 0) (extent ∙ sym (ap length empty)) (λ some. absurd (let len = ap length empty in omega arith)))
    by_test false e =
        let positive : 0 < s = ⊎_elim (λ h. h) (λ h. let none : (s == 0) ≡ true = eq-eqb s 0 (omega arith) in absurd (let clash : true ≡ false = sym none ∙ e in cc)) (cases_lt 0 s) in
        home_raw (image o) (section_at (placed_by (places_of o) o) s).header (file_bytes (placed_by (places_of o) o) s) (section_extent o s inside e) (stands positive)

-- ---- The law

opened_is_settled : (image bytes : List ℕ) (h : Shdr) → home_bytes (home_of (length image) h) image ≡ bytes → opened_section image h ≡ settled_section (length image) bytes h
unfolding opened_section settled_section
opened_is_settled image bytes h e =
    ap (λ (raw : List ℕ). record { header = h; home = home_of (length image) h; raw = raw; pieces = home_piece ∷ []; marked = false }) e

pub sections_settle : (image : List ℕ) (q : Object) → ((s : ℕ) → s < length q.sections → home_bytes (home_of (length image) (section_at q s).header) image ≡ file_bytes q s) → map (opened_section image) (headers_of q) ≡ map (λ row. settled_section (length image) (file_bytes q row.0) row.1.header) (enumerate_from 0 q.sections)
unfolding section_at
sections_settle image q raws =
    let left = length-map (headers_of q) (opened_section image) in
    let headers = length-map q.sections (λ (c : Section). c.header) in
    let right = length-map (enumerate_from 0 q.sections) (λ (row : ℕ × Section). settled_section (length image) (file_bytes q row.0) row.1.header) in
    let count = length-enumerate_from 0 q.sections in
    ext_get_or absent_section (map (opened_section image) (headers_of q)) (map (λ row. settled_section (length image) (file_bytes q row.0) row.1.header) (enumerate_from 0 q.sections)) (omega arith) (λ s h.
    let inside : s < length q.sections = omega arith in
    let row : get_or (enumerate_from 0 q.sections) s (0, absent_section) ≡ (0 + s, get_or q.sections s absent_section) = get_or-enumerate_from 0 q.sections s (0, absent_section) inside in
    let number : 0 + s ≡ s = omega arith in
    get_or-map (opened_section image) (headers_of q) s absent_section.header absent_section (omega arith)
    ∙ ap (opened_section image) (get_or-map (λ (c : Section). c.header) q.sections s absent_section absent_section.header inside)
    ∙ opened_is_settled image (file_bytes q s) (get_or q.sections s absent_section).header (raws s inside)
    ∙ sym (get_or-map (λ (r : ℕ × Section). settled_section (length image) (file_bytes q r.0) r.1.header) (enumerate_from 0 q.sections) s (0, absent_section) absent_section (omega arith)
    ∙ ap (λ (r : ℕ × Section). settled_section (length image) (file_bytes q r.0) r.1.header) row
    ∙ ap (λ (k : ℕ). settled_section (length image) (file_bytes q k) (get_or q.sections s absent_section).header) number))

begun_settles : (image : List ℕ) (q : Object) → map (opened_section image) (headers_of q) ≡ map (λ row. settled_section (length image) (file_bytes q row.0) row.1.header) (enumerate_from 0 q.sections) → begun (front_of q) image ≡ as_opened (settled_over image q)
unfolding begun front_of settled_over front_blocks standing_header written_header
begun_settles image q sections =
    ap (λ (l : List Section). record {
      header = q.header;
      pad = q.pad;
      phdrs = q.phdrs;
      sections = l;
      base = image;
      written_front = front_in_image (written_header q.header) q.pad q.phdrs (headers_of q);
      layout = false;
      fill = 0;
      marked = false;
      header_marked = false;
      segments_marked = false;
    }) sections

pub settle-dirty : (o : Object) → is_dirty o ≡ true → settle o ≡ settled_over (image o) (placed o)
unfolding settle
settle-dirty o dirty = rw dirty refl

pub settle-clean : (o : Object) → is_dirty o ≡ false → settle o ≡ o
unfolding settle
settle-clean o clean = rw clean refl

-- the image of an object, opened again, is that object settled
pub reopen_law : (reads : ReadsBack) (o : Object) → ReopenLaw o
unfolding opened
reopen_law reads o ok ranged tied passed = by_test (is_dirty o) refl
  where
    by_test : (b : Bool) → is_dirty o ≡ b → opened (image o) ≡ Ok (as_opened (settle o))
    by_test true dirty =
        let same = placed-dirty o dirty in
        let stands : StandsIn (image o) (placed_by (places_of o) o) = subst (StandsIn (image o)) same (image_stands o ok dirty passed) in
        let read = front_read reads (image o) (placed_by (places_of o) o) stands (placed_readable o ok ranged dirty passed) in
        let count = section_count-placed (places_of o) o in
        let sections = sections_settle (image o) (placed_by (places_of o) o) (λ s h. section_raw o s ok dirty passed (omega arith)) in
        let settled = settle-dirty o dirty ∙ ap (settled_over (image o)) same in
        ap (λ (r : Result Front ElfError). begun_or_refused r (image o)) read
        ∙ ap Ok (begun_settles (image o) (placed_by (places_of o) o) sections)
        ∙ sym (ap (λ (q : Object). Ok (as_opened q)) settled)
    by_test false clean =
        ap opened (image-clean o clean) ∙ tied clean ∙ sym (ap (λ (q : Object). Ok (as_opened q)) (settle-clean o clean))
