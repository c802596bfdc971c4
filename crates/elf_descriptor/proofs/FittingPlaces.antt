-- Places at which each part of an object fits the class: those that an update gives it are such,
-- and headers with such places and with the sizes stored in them fit the class too.
use Rattle.std.proofs.Common.{◌≡◌, ◌∙◌, ℕ, ◌+◌, ◌-◌, ◌^◌, ◌<◌, ◌≤◌, Bool, true, false, ◌&&◌, List, [], ◌∷◌, length, get_or, Option, None, refl, sym, ap, subst, arith, lit<, ⊎_elim}
use Rattle.std.specs.Prelude.{All, IsTrue, nat_lt, min, ◌==◌, if◌then◌else◌, slice_index}
use Rattle.std.specs.List.{AllZip, AllByRecursion, enumerate_from}
use Rattle.std.proofs.lemmas.Bool.{cases_lt, lt-ltb, ltb-true}
use Rattle.std.proofs.lemmas.List.Elements.{All-map, All-from_recursion, All-from_get_or, recursion_from_All}
use Rattle.std.proofs.lemmas.Slice.Zip.{AllZip-long}
use Rattle.elf_types.specs.declared.records.Class.{Class}
use Rattle.elf_types.specs.declared.records.Class.TheVariants.{C32, C64}
use Rattle.elf_types.specs.declared.records.Ehdr.{Ehdr}
use Rattle.elf_types.specs.declared.records.Shdr.{Shdr}
use Rattle.elf_types.specs.declared.constants.TheConstants.{SHN_LORESERVE}
use Rattle.section_table.specs.elf_xlate.Fields.{fits}
use Rattle.section_table.specs.elf_xlate.Headers.{ehdr_fits, shdr_fits}
use Rattle.section_table.specs.elf_layout.declared.parts.PartAt.{PartAt}
use Rattle.section_table.specs.elf_layout.declared.parts.Places.{Places}
use Rattle.section_table.specs.elf_layout.Layout.{positions, in_order_from, end_after, standing, length_of, limit_of, places_of as parts_places}
use Rattle.section_table.specs.elf_layout.Meeting.{has_bytes, end_of}
use Rattle.section_table.specs.elf_object.Object.{Object, is_null, occupies_file, is_dirty}
use Rattle.section_table.specs.elf_object.Joined.{file_bytes}
use Rattle.section_table.specs.elf_object.Derived.{derived_header, numbered_shdr}
use Rattle.section_table.specs.elf_object.Layout.{parts_of, places_of, section_part, segments_place, section_place, table_place}
use Rattle.section_table.specs.elf_object.Refusal.{refusal}
use Rattle.section_table.specs.elf_object.Valid.{IsObject, IsSection}
use Rattle.law_object.specs.Laws.{SizesAreLengths}
use Rattle.law_object.proofs.KeepLaws.{at_or, section_at_is}
use Rattle.law_object.proofs.PlaceLaws.{IsFitting, zero_fits, ends_within}
use Rattle.law_object.proofs.PlacedLaws.{ehdr_fits_each, ehdr_fits_all, shdr_fits_each, shdr_fits_all, part_of_section, place_fits, each_row}
use Rattle.law_object.proofs.PartLaws.{length-parts_of}
use Rattle.section_table.specs.section_data.Sizes.{data_size}
use Rattle.section_table.specs.Sections.{absent_scn}
use Rattle.elf_descriptor.specs.declared.body.Body.{Body}
use Rattle.elf_descriptor.specs.Views.{object_of, section_of, scn_at}
use Rattle.elf_descriptor.specs.Sound.{IsElf}
use Rattle.elf_descriptor.specs.Fronts.{stored_shdrs}
use Rattle.elf_descriptor.specs.Places.{HasPlaces, FitsAt, PartsFitAt, place_bound, shdr_to_store, stored_header, stored_shdr, stored_size}
use Rattle.elf_descriptor.proofs.Objects.{section_is, section_count_is}
use Rattle.elf_descriptor.proofs.Placing.{HasFittingSizes, limited, size_fitting, size_same}

-- ---- Numbers that fit

below_fits : (class : Class) (n : ℕ) → n < place_bound class → IsFitting class n
unfolding place_bound
below_fits C32 n h =
    let small : n < 2 ^ 32 = h in
    record { range = omega (arith, small); fits = lt-ltb n (2 ^ 32) small }
below_fits C64 n h = record { range = h; fits = refl }

fits_below : (class : Class) (n : ℕ) → IsFitting class n → n < place_bound class
unfolding place_bound
fits_below C32 n is = ltb-true n (2 ^ 32) is.fits
fits_below C64 n is = is.range

limit_below : (class : Class) → limit_of class < place_bound class
unfolding limit_of place_bound
limit_below C32 = lit< tt
limit_below C64 = lit< tt

word_fits : (class : Class) (n : ℕ) → n < 2 ^ 32 → IsTrue (fits class n)
word_fits C32 n h = lt-ltb n (2 ^ 32) h
word_fits C64 n h = refl

either_fits : (class : Class) (b : Bool) (m n : ℕ) → IsTrue (fits class m) → IsTrue (fits class n)
    → IsTrue (fits class (if b then m else n))
either_fits class true m n first second = first
either_fits class false m n first second = second

-- ---- Places and sizes

pub fitting_count : (image : Option (List ℕ)) (size : ℕ) (b : Body) (places : Places)
    → PartsFitAt (object_of image size b) places → HasPlaces places (length b.sections)
fitting_count image size b places fit =
    let o = object_of image size b in
    AllZip-long (FitsAt o.header.class) (parts_of o) places.at fit
    ∙ length-parts_of o
    ∙ ap (λ (n : ℕ). n - 1 + 3) (section_count_is image size b)

each_place : (class : Class) (ps : List PartAt) (at : List ℕ) → AllZip (FitsAt class) ps at
    → AllByRecursion (IsFitting class) at
each_place class [] [] fit = tt
each_place class [] (k ∷ at) fit = absurd fit
each_place class (p ∷ ps) [] fit = tt
each_place class (p ∷ ps) (k ∷ at) fit =
    let here = fit.0 in
    (below_fits class k here.place, each_place class ps at fit.1)

len_fits : (class : Class) (p : PartAt) (at : ℕ) → FitsAt class p at → p.filled ≡ true
    → IsFitting class p.len
unfolding has_bytes
len_fits class p at fit filled = ⊎_elim
    (λ h.
    let some : (p.filled && nat_lt 0 p.len) ≡ true = rw (filled, lt-ltb 0 p.len h) refl in
    let end = fit.end some in
    below_fits class p.len (omega (arith, end)))
    (λ h. let none : 0 ≡ p.len = omega (arith, h) in subst (IsFitting class) none (zero_fits class))
    (cases_lt 0 p.len)

each_len : (class : Class) (ps : List PartAt) (at : List ℕ) → AllZip (FitsAt class) ps at
    → AllByRecursion (λ p. p.filled ≡ true → IsFitting class p.len) ps
each_len class [] at fit = tt
each_len class (p ∷ ps) [] fit = absurd fit
each_len class (p ∷ ps) (k ∷ at) fit =
    (len_fits class p k fit.0, each_len class ps at fit.1)

pub fitting_sizes : (o : Object) (places : Places) → PartsFitAt o places → HasFittingSizes o
unfolding section_part
fitting_sizes o places fit =
    λ s positive inside filled.
    let class = o.header.class in
    let lens = each_len class (parts_of o) places.at fit in
    part_of_section (λ p. p.filled ≡ true → IsFitting class p.len) o s
    (All-from_recursion (λ p. p.filled ≡ true → IsFitting class p.len) (parts_of o) lens)
    positive inside filled

-- ---- The places that an update gives

-- a part with bytes ends within a length
abbrev EndsWithin : ℕ → PartAt → ℕ → Type 0
EndsWithin n p at = has_bytes p ≡ true → at + p.len ≤ n

ordered_ends : (n end : ℕ) (ps : List PartAt)
    → AllByRecursion (λ p. has_bytes p ≡ true → end_of p ≤ n) (in_order_from end ps)
    → AllZip (EndsWithin n) ps (positions (in_order_from end ps))
unfolding in_order_from positions has_bytes end_of
ordered_ends n end [] each = tt
ordered_ends n end (p ∷ ps) each = (each.0, ordered_ends n (end_after end p) ps each.1)

caller_ends : (n : ℕ) (ps : List PartAt)
    → AllByRecursion (λ p. has_bytes p ≡ true → end_of p ≤ n) ps
    → AllZip (EndsWithin n) ps (positions ps)
unfolding positions end_of
caller_ends n [] each = tt
caller_ends n (p ∷ ps) each = (each.0, caller_ends n ps each.1)

standing_ends : (n : ℕ) (ps : List PartAt) (layout : Bool)
    → AllByRecursion (λ p. has_bytes p ≡ true → end_of p ≤ n) (standing ps layout)
    → AllZip (EndsWithin n) ps (positions (standing ps layout))
unfolding standing
standing_ends n ps true each = caller_ends n ps each
standing_ends n ps false each = ordered_ends n 0 ps each

each_fits : (class : Class) (n : ℕ) (ps : List PartAt) (at : List ℕ) → n < place_bound class
    → AllByRecursion (λ k. k < place_bound class) at
    → AllZip (EndsWithin n) ps at → AllZip (FitsAt class) ps at
each_fits class n [] [] small places ends = tt
each_fits class n [] (k ∷ at) small places ends = absurd ends
each_fits class n (p ∷ ps) [] small places ends = absurd ends
each_fits class n (p ∷ ps) (k ∷ at) small places ends =
    let here : FitsAt class p k = record {
      place = places.0;
      end = λ some. let end = ends.0 some in omega (arith, end, small);
    } in
    (here, each_fits class n ps at small places.1 ends.1)

pub updated_places : (o : Object) → IsObject o → is_dirty o ≡ true → refusal o ≡ None
    → PartsFitAt o (places_of o)
unfolding places_of parts_places length_of
updated_places o ok dirty passed =
    let class = o.header.class in
    let parts = parts_of o in
    let at = positions (standing parts o.layout) in
    let n = length_of parts o.layout (length o.base) in
    let start : ℕ = if o.layout then length o.base else 0 in
    let small = limited o dirty passed in
    let long : n ≤ limit_of class = small.length in
    let limit = limit_below class in
    each_fits class n parts at (omega (arith, long, limit))
    (recursion_from_All (λ k. k < place_bound class) at
    (All-from_get_or (λ k. k < place_bound class) at 0
    (λ i there. fits_below class (get_or at i 0) (place_fits o i ok small))))
    (standing_ends n parts o.layout (ends_within start (standing parts o.layout)))

-- ---- Headers with places stored in them

derived_fits : (h : Ehdr) (phoff shoff : ℕ) → IsTrue (ehdr_fits h) → IsFitting h.class phoff
    → IsFitting h.class shoff → IsTrue (ehdr_fits (derived_header phoff shoff h))
unfolding derived_header
derived_fits h phoff shoff all segments table =
    let zero = (zero_fits h.class).fits in
    ehdr_fits_all (derived_header phoff shoff h) (record {
      entry = (ehdr_fits_each h all).entry;
      phoff = either_fits h.class (h.phnum == 0) 0 phoff zero segments.fits;
      shoff = either_fits h.class (h.shnum == 0) 0 shoff zero table.fits;
    })

-- the three numbers of section 0 fit fields of four bytes; the class bounds sh_size alone
numbered_fits : (class : Class) (h : Ehdr) (first : Shdr) → h.shnum < 2 ^ 32
    → IsTrue (shdr_fits class first) → IsTrue (shdr_fits class (numbered_shdr h first))
unfolding numbered_shdr
numbered_fits class h first few all =
    let each = shdr_fits_each class first all in
    let zero = (zero_fits class).fits in
    let count = word_fits class h.shnum few in
    shdr_fits_all class (numbered_shdr h first) (record {
      flags = each.flags;
      addr = each.addr;
      offset = each.offset;
      size = either_fits class (nat_lt h.shnum SHN_LORESERVE) 0 h.shnum zero count;
      addralign = each.addralign;
      entsize = each.entsize;
    })

stored_fits : (class : Class) (h : Ehdr) (s at size : ℕ) (header : Shdr) → h.shnum < 2 ^ 32
    → IsTrue (shdr_fits class header) → IsFitting class at
    → ((s == 0) ≡ false → IsFitting class size)
    → IsTrue (shdr_fits class (shdr_to_store h s at size header))
stored_fits class h s at size header few all place sized =
    by_test (s == 0) (is_null header) refl
  where
    by_test : (first empty : Bool) → (s == 0) ≡ first
        → IsTrue (shdr_fits class (if first then numbered_shdr h header
        else (if empty then header else (record header { offset = at; size = size }))))
    by_test true empty e = numbered_fits class h header few all
    by_test false true e = all
    by_test false false e =
        let each = shdr_fits_each class header all in
        let long = sized e in
        shdr_fits_all class (record header { offset = at; size = size }) (record {
          flags = each.flags;
          addr = each.addr;
          offset = place.fits;
          size = long.fits;
          addralign = each.addralign;
          entsize = each.entsize;
        })

module _ (image : Option (List ℕ)) (size : ℕ) (b : Body) (is : IsElf image size b)
    (lengths : SizesAreLengths) (places : Places)
    (fit : PartsFitAt (object_of image size b) places) where
  abbrev o : Object
  o = object_of image size b

  place_at : (i : ℕ) → IsFitting o.header.class (slice_index places.at i)
  place_at i =
      let class = o.header.class in
      at_or (IsFitting class) places.at i 0
      (All-from_recursion (IsFitting class) places.at (each_place class (parts_of o) places.at fit))
      (zero_fits class)

  scn_is : (i : ℕ) → IsSection o.header.class (section_of image (scn_at b i))
  scn_is i =
      subst (IsSection o.header.class) (section_is image size b i)
      (section_at_is o i is.sound.object)

  pub header_fits : IsTrue (ehdr_fits (stored_header places b))
  unfolding object_of
  header_fits =
      derived_fits b.header (segments_place places) (table_place places (length b.sections))
      is.sound.object.fitting (place_at 1) (place_at (length b.sections - 1 + 2))

  size_fits_at : (i : ℕ) → i < length b.sections → (i == 0) ≡ false
      → IsFitting b.header.class (stored_size b.header.class (scn_at b i))
  unfolding object_of section_of stored_size
  size_fits_at i there first =
      let x = scn_at b i in
      let class = b.header.class in
      let sizes = fitting_sizes o places fit in
      let own = scn_is i in
      let caller : IsFitting class x.header.size = record {
        range = own.header.size;
        fits = (shdr_fits_each class x.header own.fitting).size;
      } in
      by_filled (occupies_file x.header) x.header.size
      (min (data_size class x.cell) (2 ^ 64 - 1)) (length (file_bytes o i)) refl
      (size_same image size b is lengths sizes i x there refl first)
      (size_fitting image size b is lengths sizes i x there refl first) caller
    where
      by_filled : (f : Bool) (own stored whole : ℕ) → occupies_file (scn_at b i).header ≡ f
          → (occupies_file (scn_at b i).header ≡ true → stored ≡ whole)
          → (occupies_file (scn_at b i).header ≡ true → IsFitting b.header.class whole)
          → IsFitting b.header.class own → IsFitting b.header.class (if f then stored else own)
      by_filled true own stored whole e same fitting caller =
          subst (IsFitting b.header.class) (sym (same e)) (fitting e)
      by_filled false own stored whole e same fitting caller = caller

  shdr_fits_at : (i : ℕ) → i < length b.sections
      → IsTrue (shdr_fits b.header.class
      (stored_shdr (stored_header places b) i (section_place places i) (scn_at b i)))
  unfolding object_of section_of stored_shdr derived_header
  shdr_fits_at i there =
      let own = scn_is i in
      stored_fits b.header.class (stored_header places b) i (section_place places i)
      (stored_size b.header.class (scn_at b i)) (scn_at b i).header is.sound.object.header.shnum
      own.fitting (place_at (i + 1)) (λ first. size_fits_at i there first)

  pub shdrs_fit : All (λ k. IsTrue (shdr_fits b.header.class k))
      (stored_shdrs places (stored_header places b) b)
  unfolding scn_at
  shdrs_fit =
      let class = b.header.class in
      let h = stored_header places b in
      All-map (λ k. IsTrue (shdr_fits class k))
      (λ row. stored_shdr h row.0 (section_place places row.0) row.1)
      (enumerate_from 0 b.sections)
      (each_row (λ row. IsTrue (shdr_fits class
      (stored_shdr h row.0 (section_place places row.0) row.1))) b.sections absent_scn
      (λ i there. shdr_fits_at i there))
