-- The object whose places are stored is an object where the update is not refused.
use Rattle.std.proofs.Common.{◌≡◌, ℕ, ◌+◌, ◌-◌, ◌^◌, ◌<◌, ◌≤◌, Bool, true, false, ◌&&◌, List, [], ◌∷◌, ◌++◌, length, get_or, Option, None, refl, sym, ap, ◌∙◌, subst, arith, lit<, ⊎_elim}
use Rattle.std.specs.Prelude.{All, IsTrue, nat_lt, if◌then◌else◌, ◌==◌, map}
use Rattle.std.specs.List.{enumerate_from, AllByRecursion}
use Rattle.std.proofs.lemmas.Bool.{cases_lt, lt-ltb, eq-eqb}
use Rattle.std.proofs.lemmas.List.{length-map, nil_from_length, length-append, get_or_append_left}
use Rattle.std.proofs.lemmas.List.FromFn.{length-map-range_with_len, get_or-map-range_with_len, length-enumerate_from, get_or-enumerate_from}
use Rattle.std.proofs.lemmas.List.Elements.{All-nil, All-cons, All-append, All-map, All-from_recursion, All-from_get_or, All-tail}
use Rattle.elf_types.specs.declared.records.Class.{Class}
use Rattle.elf_types.specs.declared.records.Class.TheVariants.{C32, C64}
use Rattle.elf_types.specs.declared.records.Ehdr.{Ehdr}
use Rattle.elf_types.specs.declared.records.Shdr.{Shdr}
use Rattle.elf_types.specs.declared.errors.ElfError.{ElfError}
use Rattle.elf_object.specs.elf_xlate.Fields.{fits}
use Rattle.elf_object.specs.elf_xlate.Headers.{ehdr_size, phdr_size, shdr_size, IsEhdr, IsShdr, ehdr_fits, shdr_fits}
use Rattle.elf_object.specs.elf_layout.declared.parts.PartAt.{PartAt}
use Rattle.elf_object.specs.elf_layout.declared.parts.Places.{Places}
use Rattle.elf_object.specs.elf_layout.Layout.{standing, positions, limit_of, places_of as parts_places}
use Rattle.elf_types.specs.Answers.{first_refusal}
use Rattle.elf_object.specs.Object.{Object, Section, section_at, absent_section, header_of, is_null, occupies_file, is_dirty}
use Rattle.elf_object.specs.Joined.{file_bytes}
use Rattle.elf_object.specs.Derived.{where_any, derived_header, numbered_shdr}
use Rattle.elf_object.specs.Layout.{header_part, segments_part, section_part, table_part, parts_of, section_numbers, places_of, segments_place, table_place, section_place, placed_header, placed_shdr, placed_section, placed_by, placed}
use Rattle.elf_object.specs.Refusal.{refusal, content_refusal, placing_refusal}
use Rattle.elf_object.specs.Calls.{update_null}
use Rattle.elf_object.specs.Image.{image_length}
use Rattle.elf_object.specs.Valid.{IsSection, IsObject, KeepsObject}
use Rattle.law_object.proofs.PlaceLaws.{AreNotTooLarge, IsFitting, not_too_large, within_limit, zero_fits, lens_limited}
use Rattle.law_object.proofs.RangeLaws.{each_made}
use Rattle.elf_object.proofs.PassedLaws.{edit_keeps, none_first, none_rest}
use Rattle.law_object.proofs.KeepLaws.{section_at_is, at_or}

-- ---- Fits of headers

both_true : (a b : Bool) → IsTrue (a && b) → IsTrue a × IsTrue b
both_true true b h = (refl, h)
both_true false b h = cc

-- what fits in a header: the three fields that the class limits
pub record EhdrFits (h : Ehdr) : Type 0 where
  pub entry : IsTrue (fits h.class h.entry)
  pub phoff : IsTrue (fits h.class h.phoff)
  pub shoff : IsTrue (fits h.class h.shoff)

pub ehdr_fits_each : (h : Ehdr) → IsTrue (ehdr_fits h) → EhdrFits h
unfolding ehdr_fits
ehdr_fits_each h all =
    let first = both_true (fits h.class h.entry && fits h.class h.phoff) (fits h.class h.shoff) all in
    let second = both_true (fits h.class h.entry) (fits h.class h.phoff) first.0 in
    record { entry = second.0; phoff = second.1; shoff = first.1 }

pub ehdr_fits_all : (h : Ehdr) → EhdrFits h → IsTrue (ehdr_fits h)
unfolding ehdr_fits
ehdr_fits_all h each = rw (each.entry, each.phoff, each.shoff) refl

pub record ShdrFits (class : Class) (h : Shdr) : Type 0 where
  pub flags : IsTrue (fits class h.flags)
  pub addr : IsTrue (fits class h.addr)
  pub offset : IsTrue (fits class h.offset)
  pub size : IsTrue (fits class h.size)
  pub addralign : IsTrue (fits class h.addralign)
  pub entsize : IsTrue (fits class h.entsize)

pub shdr_fits_each : (class : Class) (h : Shdr) → IsTrue (shdr_fits class h) → ShdrFits class h
unfolding shdr_fits
shdr_fits_each class h all =
    let five = both_true (fits class h.flags && fits class h.addr && fits class h.offset && fits class h.size && fits class h.addralign) (fits class h.entsize) all in
    let four = both_true (fits class h.flags && fits class h.addr && fits class h.offset && fits class h.size) (fits class h.addralign) five.0 in
    let three = both_true (fits class h.flags && fits class h.addr && fits class h.offset) (fits class h.size) four.0 in
    let two = both_true (fits class h.flags && fits class h.addr) (fits class h.offset) three.0 in
    let one = both_true (fits class h.flags) (fits class h.addr) two.0 in
    record { flags = one.0; addr = one.1; offset = two.1; size = three.1; addralign = four.1; entsize = five.1 }

pub shdr_fits_all : (class : Class) (h : Shdr) → ShdrFits class h → IsTrue (shdr_fits class h)
unfolding shdr_fits
shdr_fits_all class h each = rw (each.flags, each.addr, each.offset, each.size, each.addralign, each.entsize) refl

-- ---- Places fit

caller_fits : (o : Object) → IsObject o → All (λ p. IsFitting o.header.class p.at) (parts_of o)
unfolding parts_of section_part
caller_fits o ok =
    let header = ehdr_fits_each o.header ok.fitting in
    let class = o.header.class in
    All-cons (λ p. IsFitting class p.at) (header_part o) (segments_part o ∷ map (section_part o) (section_numbers o) ++ table_part o ∷ []) (zero_fits class)
    (All-cons (λ p. IsFitting class p.at) (segments_part o) (map (section_part o) (section_numbers o) ++ table_part o ∷ []) (record { range = ok.header.phoff; fits = header.phoff })
    (All-append (λ p. IsFitting class p.at) (map (section_part o) (section_numbers o)) (table_part o ∷ [])
    (each_made (λ p. IsFitting class p.at) (section_part o) (section_numbers o) (λ s. let c = section_at_is o s ok in record { range = c.header.offset; fits = (shdr_fits_each class (section_at o s).header c.fitting).offset }))
    (All-cons (λ p. IsFitting class p.at) (table_part o) [] (record { range = ok.header.shoff; fits = header.shoff }) (All-nil (λ p. IsFitting class p.at)))))

standing_fits : (layout : Bool) (class : Class) (parts : List PartAt) → All (λ p. IsFitting class p.at) parts → (layout ≡ false → AllByRecursion (λ p. p.at ≤ limit_of class) (standing parts layout)) → All (λ p. IsFitting class p.at) (standing parts layout)
unfolding standing
standing_fits true class parts caller ordered = caller
standing_fits false class parts caller ordered = All-from_recursion (λ p. IsFitting class p.at) (standing parts false) (raise (standing parts false) (ordered refl))
  where
    raise : (l : List PartAt) → AllByRecursion (λ p. p.at ≤ limit_of class) l → AllByRecursion (λ p. IsFitting class p.at) l
    raise [] each = tt
    raise (p ∷ l) each = (within_limit class p.at each.0, raise l each.1)

-- each place of an object that is not too large
pub place_fits : (o : Object) (i : ℕ) → IsObject o → AreNotTooLarge (parts_of o) o.layout (length o.base) o.header.class → IsFitting o.header.class (get_or (places_of o).at i 0)
unfolding places_of parts_places positions
place_fits o i ok small =
    let all = standing_fits o.layout o.header.class (parts_of o) (caller_fits o ok) small.places in
    at_or (IsFitting o.header.class) (map (λ p. p.at) (standing (parts_of o) o.layout)) i 0
    (All-map (IsFitting o.header.class) (λ p. p.at) (standing (parts_of o) o.layout) all) (zero_fits o.header.class)

-- ---- Sizes fit

-- a fact of each part is one of each section's part
pub part_of_section : (P : PartAt → Type 0) (o : Object) (s : ℕ) → All P (parts_of o) → 0 < s → s < length o.sections → P (section_part o s)
unfolding parts_of
part_of_section P o s each positive inside =
    let sections = map (section_part o) (section_numbers o) in
    let rest = All-tail P (segments_part o) (sections ++ table_part o ∷ []) (All-tail P (header_part o) (segments_part o ∷ sections ++ table_part o ∷ []) each) in
    let count : length sections ≡ length o.sections - 1 = length-map-range_with_len (section_part o) 1 (length o.sections - 1) in
    let whole : length (sections ++ table_part o ∷ []) ≡ length sections + 1 = length-append sections (table_part o ∷ []) in
    let among : s - 1 < length (sections ++ table_part o ∷ []) = omega arith in
    let at : get_or (sections ++ table_part o ∷ []) (s - 1) (section_part o s) ≡ section_part o s =
    get_or_append_left sections (table_part o ∷ []) (section_part o s) (s - 1) (omega arith)
    ∙ get_or-map-range_with_len (section_part o) 1 (length o.sections - 1) (s - 1) s (section_part o s) (omega arith) (omega arith) in
    subst P at (rest (s - 1) (section_part o s) among)

pub size_fits : (o : Object) (s : ℕ) → AreNotTooLarge (parts_of o) o.layout (length o.base) o.header.class → 0 < s → s < length o.sections → occupies_file (section_at o s).header ≡ true → IsFitting o.header.class (length (file_bytes o s))
unfolding section_part
size_fits o s small positive inside filled =
    let limited = lens_limited (parts_of o) o.layout (length o.base) o.header.class small in
    let each = All-from_recursion (λ p. p.filled ≡ true → p.len ≤ limit_of o.header.class) (parts_of o) limited in
    within_limit o.header.class (length (file_bytes o s))
    (part_of_section (λ p. p.filled ≡ true → p.len ≤ limit_of o.header.class) o s each positive inside filled)

-- ---- Headers with places

where_any_fits : (class : Class) (count n : ℕ) → IsFitting class n → IsFitting class (where_any count n)
where_any_fits class count n h = by_test (count == 0)
  where
    by_test : (b : Bool) → IsFitting class (if b then 0 else n)
    by_test true = zero_fits class
    by_test false = h

below_any : (bound count n : ℕ) → n < bound → where_any count n < bound
below_any bound count n h = by_test (count == 0)
  where
    by_test : (b : Bool) → (if b then 0 else n) < bound
    by_test true = omega arith
    by_test false = h

sizes_small : (class : Class) → (ehdr_size class < 2 ^ 16) × (phdr_size class < 2 ^ 16) × (shdr_size class < 2 ^ 16)
sizes_small C32 = (lit< tt, lit< tt, lit< tt)
sizes_small C64 = (lit< tt, lit< tt, lit< tt)

placed_header_is : (o : Object) (places : Places) → IsObject o → IsFitting o.header.class (segments_place places) → IsFitting o.header.class (table_place places (length o.sections)) → IsEhdr (placed_header places o) × IsTrue (ehdr_fits (placed_header places o))
unfolding placed_header derived_header header_of
placed_header_is o places ok segments table =
    let small = sizes_small o.header.class in
    let phoff = where_any_fits o.header.class (length o.phdrs) (segments_place places) segments in
    let shoff = where_any_fits o.header.class (length o.sections) (table_place places (length o.sections)) table in
    let phdr_count = ok.phdr_count in
    let section_count = ok.section_count in (
      record {
        osabi = ok.header.osabi;
        abiversion = ok.header.abiversion;
        etype = ok.header.etype;
        machine = ok.header.machine;
        version = lit< tt;
        entry = ok.header.entry;
        phoff = phoff.range;
        shoff = shoff.range;
        flags = ok.header.flags;
        ehsize = small.0;
        phentsize = below_any (2 ^ 16) (length o.phdrs) (phdr_size o.header.class) small.1;
        phnum = omega arith;
        shentsize = below_any (2 ^ 16) (length o.sections) (shdr_size o.header.class) small.2;
        shnum = omega arith;
        shstrndx = below_any (2 ^ 32) (length o.sections) o.header.shstrndx ok.header.shstrndx;
      },
      ehdr_fits_all (derived_header (segments_place places) (table_place places (length o.sections)) (header_of o)) (record {
        entry = (ehdr_fits_each o.header ok.fitting).entry;
        phoff = phoff.fits;
        shoff = shoff.fits;
      }),
    )

-- a number below 2^32 fits
word_fits : (class : Class) (n : ℕ) → n < 2 ^ 32 → IsFitting class n
word_fits C32 n h = record { range = omega arith; fits = lt-ltb n (2 ^ 32) h }
word_fits C64 n h = record { range = omega arith; fits = refl }

from_test : (P : ℕ → Type 0) (b : Bool) (m n : ℕ) → P m → P n → P (if b then m else n)
from_test P true m n a b = a
from_test P false m n a b = b

-- a header of which place and size are others
resized_is : (class : Class) (h : Shdr) (offset size : ℕ) → IsShdr h → IsTrue (shdr_fits class h) → IsFitting class offset → IsFitting class size → IsShdr (record h { offset = offset; size = size }) × IsTrue (shdr_fits class (record h { offset = offset; size = size }))
resized_is class h offset size is fitting place len =
    let each = shdr_fits_each class h fitting in (
      record {
        name = is.name;
        stype = is.stype;
        flags = is.flags;
        addr = is.addr;
        offset = place.range;
        size = len.range;
        link = is.link;
        info = is.info;
        addralign = is.addralign;
        entsize = is.entsize;
      },
      shdr_fits_all class (record h { offset = offset; size = size }) (record {
        flags = each.flags;
        addr = each.addr;
        offset = place.fits;
        size = len.fits;
        addralign = each.addralign;
        entsize = each.entsize;
      }),
    )

numbered_is : (class : Class) (h : Ehdr) (first : Shdr) → IsEhdr h → IsShdr first → IsTrue (shdr_fits class first) → IsShdr (numbered_shdr h first) × IsTrue (shdr_fits class (numbered_shdr h first))
unfolding numbered_shdr
numbered_is class h first header is fitting =
    let each = shdr_fits_each class first fitting in
    let size = from_test (IsFitting class) (nat_lt h.shnum 0xff00) 0 h.shnum (zero_fits class) (word_fits class h.shnum header.shnum) in
    let link = from_test (λ n. n < 2 ^ 32) (nat_lt h.shstrndx 0xff00) 0 h.shstrndx (lit< tt) header.shstrndx in
    let info = from_test (λ n. n < 2 ^ 32) (nat_lt h.phnum 0xffff) 0 h.phnum (lit< tt) header.phnum in (
      record {
        name = is.name;
        stype = is.stype;
        flags = is.flags;
        addr = is.addr;
        offset = is.offset;
        size = size.range;
        link = link;
        info = info;
        addralign = is.addralign;
        entsize = is.entsize;
      },
      shdr_fits_all class (record first {
        size = if nat_lt h.shnum 0xff00 then 0 else h.shnum;
        link = if nat_lt h.shstrndx 0xff00 then 0 else h.shstrndx;
        info = if nat_lt h.phnum 0xffff then 0 else h.phnum;
      }) (record {
        flags = each.flags;
        addr = each.addr;
        offset = each.offset;
        size = size.fits;
        addralign = each.addralign;
        entsize = each.entsize;
      }),
    )

-- ---- The placed object

placed_shdr_is : (o : Object) (places : Places) (s : ℕ) (h : Shdr) → IsEhdr (placed_header places o) → IsShdr h → IsTrue (shdr_fits o.header.class h) → IsFitting o.header.class (section_place places s) → (0 < s → occupies_file h ≡ true → IsFitting o.header.class (length (file_bytes o s))) → IsShdr (placed_shdr places o s h) × IsTrue (shdr_fits o.header.class (placed_shdr places o s h))
unfolding placed_shdr
placed_shdr_is o places s h header is fitting place size = by_test (s == 0) (is_null h) (occupies_file h) refl refl refl
  where
    by_test : (first empty filled : Bool) → (s == 0) ≡ first → is_null h ≡ empty → occupies_file h ≡ filled → IsShdr (if first then numbered_shdr (placed_header places o) h else (if empty then h else (record h { offset = section_place places s; size = if filled then length (file_bytes o s) else h.size }))) × IsTrue (shdr_fits o.header.class (if first then numbered_shdr (placed_header places o) h else (if empty then h else (record h { offset = section_place places s; size = if filled then length (file_bytes o s) else h.size }))))
    by_test true empty filled a b c = numbered_is o.header.class (placed_header places o) h header is fitting
    by_test false true filled a b c = (is, fitting)
    by_test false false true a b c =
        let positive : 0 < s = ⊎_elim (λ h. h) (λ h. let none : (s == 0) ≡ true = eq-eqb s 0 (omega arith) in absurd (let clash : true ≡ false = sym none ∙ a in cc)) (cases_lt 0 s) in
        resized_is o.header.class h (section_place places s) (length (file_bytes o s)) is fitting place (size positive c)
    by_test false false false a b c = resized_is o.header.class h (section_place places s) h.size is fitting place (record { range = is.size; fits = (shdr_fits_each o.header.class h fitting).size })

with_header_is : (class : Class) (c : Section) (h : Shdr) → IsSection class c → IsShdr h → IsTrue (shdr_fits class h) → IsSection class (record c { header = h })
with_header_is class c h is header fitting = record {
  header = header;
  fitting = fitting;
  home = is.home;
  pieces = is.pieces;
  others = is.others;
  piece_count = is.piece_count;
}

-- a fact of each row of a list with its index
pub each_row : {X : Type 0} (P : ℕ × X → Type 0) (l : List X) (d : X) → ((i : ℕ) → i < length l → P (i, get_or l i d)) → All P (enumerate_from 0 l)
each_row P l d holds =
    All-from_get_or P (enumerate_from 0 l) (0, d) (λ i h.
    let count = length-enumerate_from 0 l in
    let inside : i < length l = omega arith in
    let row : get_or (enumerate_from 0 l) i (0, d) ≡ (0 + i, get_or l i d) = get_or-enumerate_from 0 l i (0, d) inside in
    let at : 0 + i ≡ i = omega arith in
    subst P (sym row) (subst (λ (k : ℕ). P (k, get_or l i d)) (sym at) (holds i inside)))

no_index : (o : Object) (places : Places) → o.sections ≡ [] → (placed_header places o).shstrndx ≡ 0
unfolding placed_header derived_header header_of
no_index o places none = rw none refl

pub placed_by_is : (o : Object) → IsObject o → AreNotTooLarge (parts_of o) o.layout (length o.base) o.header.class → IsObject (placed_by (places_of o) o)
unfolding placed_by section_at placed_section placed_header derived_header header_of
placed_by_is o ok small =
    let places = places_of o in
    let segments = place_fits o 1 ok small in
    let table = place_fits o (length o.sections - 1 + 2) ok small in
    let header = placed_header_is o places ok segments table in
    let row : (i : ℕ) → i < length o.sections → IsSection o.header.class (placed_section places o i (get_or o.sections i absent_section)) = λ i h.
    let is = section_at_is o i ok in
    let each = placed_shdr_is o places i (section_at o i).header header.0 is.header is.fitting (place_fits o (i + 1) ok small) (λ positive filled. size_fits o i small positive h filled) in
    with_header_is o.header.class (section_at o i) (placed_shdr places o i (section_at o i).header) is each.0 each.1 in
    record {
      header = header.0;
      fitting = header.1;
      phnum = refl;
      shnum = sym (length-map (enumerate_from 0 o.sections) (λ r. placed_section places o r.0 r.1) ∙ length-enumerate_from 0 o.sections);
      pad = ok.pad;
      pad_bytes = ok.pad_bytes;
      phdr_count = ok.phdr_count;
      sections = All-map (IsSection o.header.class) (λ r. placed_section places o r.0 r.1) (enumerate_from 0 o.sections)
          (each_row (λ r. IsSection o.header.class (placed_section places o r.0 r.1)) o.sections absent_section row);
      section_count = rw (length-map, length-enumerate_from) (ok.section_count);
      string_index = λ none. no_index o places (nil_from_length o.sections (sym (length-map (enumerate_from 0 o.sections) (λ r. placed_section places o r.0 r.1) ∙ length-enumerate_from 0 o.sections) ∙ ap length none));
      base = ok.base;
      base_length = ok.base_length;
      fill = ok.fill;
    }

-- the causes that did not come
not_refused_places : (b : Bool) (r s : Option ElfError) → (if b then first_refusal (r ∷ s ∷ []) else None) ≡ None → b ≡ true → (r ≡ None) × (s ≡ None)
not_refused_places true r s h e = (none_first r (s ∷ []) h, none_first s [] (none_rest r (s ∷ []) h))
not_refused_places false r s h e = cc

-- an update that is not refused has a content and places
pub update_passes : (o : Object) → is_dirty o ≡ true → refusal o ≡ None → (content_refusal o ≡ None) × (placing_refusal o ≡ None)
unfolding refusal
update_passes o dirty passed = not_refused_places (is_dirty o) (content_refusal o) (placing_refusal o) passed dirty

pub placed_is : (o : Object) → IsObject o → refusal o ≡ None → IsObject (placed o)
unfolding placed placing_refusal
placed_is o ok passed = by_test (is_dirty o) refl
  where
    by_test : (b : Bool) → is_dirty o ≡ b → IsObject (if b then placed_by (places_of o) o else o)
    by_test true e =
        let both = update_passes o e passed in
        placed_by_is o ok (not_too_large (parts_of o) o.layout (length o.base) o.header.class both.1)
    by_test false e = ok

pub update_null_keeps : KeepsObject update_null
update_null_keeps = edit_keeps IsObject _ refusal image_length placed (λ o ok passed. placed_is o ok passed)
