-- Whether a part of the front is the one that stands in the image, as the plain object says it.
use Rattle.std.proofs.Common.{◌≡◌, ◌∙◌, ℕ, zero, suc, ◌+◌, ◌*◌, ◌<◌, Bool, true, false, ◌&&◌, ◌||◌, List, [], ◌∷◌, length, map, Option, Some, None, refl, sym, ap, subst, arith}
use Rattle.std.specs.Prelude.{All, IsTrue, IfSome, not, cond, ◌==◌}
use Rattle.std.specs.List.{AllByRecursion, position, position_from}
use Rattle.std.specs.Option.{option_map}
use Rattle.std.proofs.lemmas.Bool.{ne_eqb}
use Rattle.std.proofs.lemmas.Iterator.Adapters.{position_from-zero}
use Rattle.std.proofs.lemmas.List.{length-map}
use Rattle.std.proofs.lemmas.List.Elements.{All-from_recursion}
use Rattle.elf_types.specs.declared.records.Class.{Class}
use Rattle.elf_types.specs.declared.records.Class.TheVariants.{C32, C64}
use Rattle.elf_types.specs.declared.records.Order.{Order}
use Rattle.elf_types.specs.declared.records.Ehdr.{Ehdr}
use Rattle.elf_types.specs.declared.records.Phdr.{Phdr}
use Rattle.elf_types.specs.declared.records.Shdr.{Shdr}
use Rattle.elf_types.specs.declared.records.Part.{Part}
use Rattle.elf_types.specs.declared.records.Part.TheVariants as part
use Rattle.elf_types.specs.declared.errors.ElfError.TheVariants.{Unfit}
use Rattle.section_table.specs.elf_xlate.Headers.{ehdr_size, ehdr_bytes, ehdr_fits, phdr_size, phdr_fits, shdr_size, shdr_fits}
use Rattle.section_table.specs.elf_layout.declared.parts.Places.{Places}
use Rattle.section_table.specs.elf_object.Blocks.{Block, same_block, same_extent}
use Rattle.section_table.specs.elf_object.Object.{Object, Section, WrittenFront}
use Rattle.section_table.specs.elf_object.Open.{no_block, no_front, front_in_image, phdrs_bytes, shdrs_bytes}
use Rattle.section_table.specs.elf_object.Derived.{derived_header, written_header}
use Rattle.section_table.specs.elf_object.Layout.{placed_by, placed_header}
use Rattle.section_table.specs.elf_object.Image.{front_blocks}
use Rattle.section_table.specs.elf_object.Refusal.{content_refusal, unfit_segment}
use Rattle.section_table.specs.elf_object.Changed.{front_differs, block_of}
use Rattle.section_table.proofs.elf_object.PassedLaws.{not_not}
use Rattle.law_object.specs.Laws.{SizesAreLengths}
use Rattle.law_object.proofs.LengthLaws.{length-ehdr_bytes, length-phdrs_bytes, length-shdrs_bytes}
use Rattle.law_object.proofs.StandLaws.{section_count-placed}
use Rattle.law_object.proofs.PlacedLaws.{ehdr_fits_each, ehdr_fits_all}
use Rattle.law_object.proofs.SettledLaws.{unrefused}
use Rattle.elf_descriptor.specs.declared.body.Written.{Written}
use Rattle.elf_descriptor.specs.declared.body.Body.{Body}
use Rattle.elf_descriptor.specs.Views.{object_of, written_of}
use Rattle.elf_descriptor.specs.Sound.{IsElf, IsStanding}
use Rattle.elf_descriptor.specs.Places.{PartsFitAt, stored_header}
use Rattle.elf_descriptor.specs.Fronts.{TellsHeader, TellsSegments, TellsTable, segments_block, table_block, stored_shdrs}
use Rattle.elf_descriptor.proofs.Objects.{section_count_is}
use Rattle.elf_descriptor.proofs.Placing.{header_same, headers_same}
use Rattle.elf_descriptor.proofs.FittingPlaces.{fitting_sizes, header_fits, shdrs_fit}

-- ---- Program headers that fit

none_first : {X : Type 0} (test : X → Bool) (i : ℕ) (x : X) (others : Option ℕ) (Rest : Type 0)
    (b : Bool) → not (test x) ≡ b → cond b (Some i) others ≡ None → (others ≡ None → Rest)
    → IsTrue (test x) × Rest
none_first test i x others Rest true e g rest = cc
none_first test i x others Rest false e g rest = (not_not (test x) e, rest g)

none_from : {X : Type 0} (test : X → Bool) (i : ℕ) (l : List X)
    → position_from (λ x. not (test x)) i l ≡ None → AllByRecursion (λ x. IsTrue (test x)) l
none_from test i [] h = tt
none_from test i (x ∷ l) h =
    none_first test i x (position_from (λ y. not (test y)) (i + 1) l)
    (AllByRecursion (λ y. IsTrue (test y)) l) (not (test x)) refl h (none_from test (i + 1) l)

none_mapped : {X Y : Type 0} (f : X → Y) (o : Option X) → option_map f o ≡ None → o ≡ None
none_mapped f None h = refl
none_mapped f (Some x) h = cc

abbrev unfit : Class → Phdr → Bool
unfit class p = not (phdr_fits class p)

segments_fit : (o : Object) → content_refusal o ≡ None
    → All (λ p. IsTrue (phdr_fits o.header.class p)) o.phdrs
unfolding unfit_segment
segments_fit o passed =
    let class = o.header.class in
    let none =
    none_mapped (Unfit part.Segments) (position (unfit class) o.phdrs)
    (unrefused o passed).segment in
    let from_zero = sym (position_from-zero (unfit class) o.phdrs) ∙ none in
    All-from_recursion (λ p. IsTrue (phdr_fits class p)) o.phdrs
    (none_from (phdr_fits class) 0 o.phdrs from_zero)

-- ---- A front that stands in the image

module _ (image : Option (List ℕ)) (size : ℕ) (b : Body) (is : IsElf image size b)
    (lengths : SizesAreLengths) (places : Places) (w : Written) (written : b.written ≡ Some w)
    (passed : content_refusal (object_of image size b) ≡ None)
    (fit : PartsFitAt (object_of image size b) places) where
  abbrev o : Object
  o = object_of image size b

  -- the placed object, its header and its section headers, as they are worked out
  abbrev q : Object
  q = placed_by places o

  abbrev h : Ehdr
  h = stored_header places b

  abbrev rows : List Shdr
  rows = stored_shdrs places h b

  standing : IsStanding b.header.class b.header.order w
  standing =
      subst (λ (f : Option Written). IfSome f (IsStanding b.header.class b.header.order)) written
      is.written

  header : h ≡ placed_header places o
  header = header_same image size b is lengths places

  headers : rows ≡ map (λ c. c.header) q.sections
  headers = headers_same image size b is lengths (fitting_sizes o places fit) places

  -- the class and the order of the header that is stored
  stored_class : h.class ≡ b.header.class
  unfolding derived_header
  stored_class = refl

  stored_order : h.order ≡ b.header.order
  unfolding derived_header
  stored_order = refl

  fits : IsTrue (ehdr_fits h)
  fits = header_fits image size b is lengths places fit

  written_fits : (k : Ehdr) → IsTrue (ehdr_fits k) → IsTrue (ehdr_fits (written_header k))
  unfolding written_header
  written_fits k all =
      let each = ehdr_fits_each k all in
      ehdr_fits_all (written_header k)
      (record { entry = each.entry; phoff = each.phoff; shoff = each.shoff })

  -- the front of the placed object, by what the program keeps
  abbrev now : WrittenFront
  now = front_in_image (written_header h) b.pad b.phdrs rows

  abbrev before : WrittenFront
  before = front_in_image w.header w.pad w.phdrs w.shdrs

  front_now : front_blocks q ≡ now
  unfolding front_blocks placed_by object_of
  front_now =
      let stored = placed_header places o in
      ap (λ (l : List Shdr). front_in_image (written_header stored) b.pad b.phdrs l) (sym headers)
      ∙ ap (λ (k : Ehdr). front_in_image (written_header k) b.pad b.phdrs rows) (sym header)

  front_before : o.written_front ≡ before
  unfolding object_of
  front_before = ap written_of written

  differs_is : (p : Part)
      → front_differs places o p ≡ not (same_block (block_of p now) (block_of p before))
  unfolding front_differs
  differs_is p =
      ap (λ (f : WrittenFront). not (same_block (block_of p f) (block_of p o.written_front)))
      front_now
      ∙ ap (λ (f : WrittenFront). not (same_block (block_of p now) (block_of p f))) front_before

  header_differs : (r : Bool) → TellsHeader r (written_header h) b.pad w
      → not r ≡ front_differs places o part.Header
  unfolding front_in_image written_header object_of
  header_differs r tells =
      let class = stored_class ∙ sym standing.class_is in
      let order = stored_order ∙ sym standing.order_is in
      ap not (tells (written_fits h fits) is.sound.object.pad class order standing.header)
      ∙ sym (differs_is part.Header)

  segments_differ : (r : Bool) → TellsSegments r h.phoff b.phdrs w
      → not r ≡ front_differs places o part.Segments
  unfolding front_in_image written_header object_of
  segments_differ r tells =
      let class = b.header.class in
      let order = b.header.order in
      let new : Class → Order → Block = λ c d. segments_block c d h.phoff b.phdrs in
      let old : Class → Order → Block = λ c d. segments_block c d w.header.phoff w.phdrs in
      let told = tells class order (segments_fit o passed) standing.phdrs in
      ap not told
      ∙ ap (λ (c : Class). not (same_block (new c order) (old class order))) (sym stored_class)
      ∙ ap (λ (d : Order). not (same_block (new h.class d) (old class order))) (sym stored_order)
      ∙ ap (λ (c : Class). not (same_block (new h.class h.order) (old c order)))
      (sym standing.class_is)
      ∙ ap (λ (d : Order). not (same_block (new h.class h.order) (old w.header.class d)))
      (sym standing.order_is)
      ∙ sym (differs_is part.Segments)

  table_fits : All (λ k. IsTrue (shdr_fits b.header.class k)) rows
  table_fits = shdrs_fit image size b is lengths places fit

  table_differs : (r : Bool) → TellsTable r h.shoff rows w
      → not r ≡ front_differs places o part.Table
  unfolding front_in_image written_header object_of
  table_differs r tells =
      let class = b.header.class in
      let order = b.header.order in
      let new : Class → Order → Block = λ c d. table_block c d h.shoff rows in
      let old : Class → Order → Block = λ c d. table_block c d w.header.shoff w.shdrs in
      let told = tells class order table_fits standing.shdrs in
      ap not told
      ∙ ap (λ (c : Class). not (same_block (new c order) (old class order))) (sym stored_class)
      ∙ ap (λ (d : Order). not (same_block (new h.class d) (old class order))) (sym stored_order)
      ∙ ap (λ (c : Class). not (same_block (new h.class h.order) (old c order)))
      (sym standing.class_is)
      ∙ ap (λ (d : Order). not (same_block (new h.class h.order) (old w.header.class d)))
      (sym standing.order_is)
      ∙ sym (differs_is part.Table)

  at_part : (p k : Part) → p ≡ k → (r : Bool) → not r ≡ front_differs places o k
      → not r ≡ front_differs places o p
  at_part p k e r differs = differs ∙ ap (front_differs places o) (sym e)

  -- of a header that is the stored one
  pub header_told : (p : Part) → p ≡ part.Header → (g k : Ehdr) → g ≡ h → k ≡ written_header g
      → (r : Bool) → TellsHeader r k b.pad w → not r ≡ front_differs places o p
  header_told p is_part g k e f r tells =
      at_part p part.Header is_part r
      (header_differs r
      (subst (λ (x : Ehdr). TellsHeader r x b.pad w) (f ∙ ap written_header e) tells))

  pub segments_told : (p : Part) → p ≡ part.Segments → (g : Ehdr) → g ≡ h
      → (r : Bool) → TellsSegments r g.phoff b.phdrs w → not r ≡ front_differs places o p
  segments_told p is_part g e r tells =
      at_part p part.Segments is_part r
      (segments_differ r (subst (λ (x : Ehdr). TellsSegments r x.phoff b.phdrs w) e tells))

  pub table_told : (p : Part) → p ≡ part.Table → (g : Ehdr) → g ≡ h
      → (r : Bool) → TellsTable r g.shoff (stored_shdrs places g b) w
      → not r ≡ front_differs places o p
  table_told p is_part g e r tells =
      at_part p part.Table is_part r
      (table_differs r
      (subst (λ (x : Ehdr). TellsTable r x.shoff (stored_shdrs places x b) w) e tells))

-- ---- No front stands in an image

none_scaled : (size n : ℕ) → 0 < size → (n * size == 0) ≡ (n == 0)
none_scaled size zero some =
    let none : 0 * size ≡ 0 = omega arith in
    ap (λ (k : ℕ). k == 0) none
none_scaled zero (suc n) some = absurd (omega (arith, some))
none_scaled (suc size) (suc n) some =
    ne_eqb (suc n * suc size) 0 (λ e. positive n size e)
    ∙ sym (ne_eqb (suc n) 0 (λ e. omega (arith, e)))
  where
    positive : (k m : ℕ) → suc k * suc m ≡ 0 → ⊥
    positive k m e =
        let whole : suc k * suc m ≡ suc m + k * suc m = omega arith in
        omega (arith, e, whole)

phdrs_none : (class : Class) (n : ℕ) → (n * phdr_size class == 0) ≡ (n == 0)
phdrs_none C32 n = none_scaled 32 n (omega arith)
phdrs_none C64 n = none_scaled 56 n (omega arith)

shdrs_none : (class : Class) (n : ℕ) → (n * shdr_size class == 0) ≡ (n == 0)
shdrs_none C32 n = none_scaled 40 n (omega arith)
shdrs_none C64 n = none_scaled 64 n (omega arith)

ehdr_some : (class : Class) → (ehdr_size class == 0) ≡ (1 == 0)
ehdr_some C32 = refl
ehdr_some C64 = refl

-- a block differs from none where it has bytes
block_or_none : (at : ℕ) (bytes : List ℕ) (n : ℕ) → (length bytes == 0) ≡ (n == 0)
    → not (n == 0) ≡ not (same_block (record { at = at; bytes = bytes }) no_block)
unfolding same_block same_extent
block_or_none at [] n e = ap not (sym e) ∙ ap not (empty (at == 0))
  where
    empty : (t : Bool) → true ≡ ((t && true) || true) && true
    empty true = refl
    empty false = refl
block_or_none at (x ∷ l) n e =
    let some : (length (x ∷ l) == 0) ≡ false =
    ne_eqb (length (x ∷ l)) 0 (λ h. omega (arith, h)) in
    ap not (sym e ∙ some ∙ neither (same_extent at (length (x ∷ l)) 0 0))
  where
    neither : (t : Bool) → false ≡ (t && false)
    neither true = refl
    neither false = refl

module _ (image : Option (List ℕ)) (size : ℕ) (b : Body) (is : IsElf image size b)
    (places : Places) (written : b.written ≡ None) where
  abbrev created : Object
  created = object_of image size b

  abbrev stored : Object
  stored = placed_by places created

  none_before : created.written_front ≡ no_front
  unfolding object_of
  none_before = ap written_of written

  differs_from_none : (p k : Part) → p ≡ k
      → not (same_block (block_of k (front_blocks stored)) (block_of k no_front))
      ≡ front_differs places created p
  unfolding front_differs
  differs_from_none p k e =
      let test : WrittenFront → Bool =
      λ f. not (same_block (block_of k (front_blocks stored)) (block_of k f)) in
      ap test (sym none_before) ∙ ap (front_differs places created) (sym e)

  pub segments_of_none : (p : Part) → p ≡ part.Segments → (r : Bool)
      → r ≡ not (b.header.phnum == 0) → r ≡ front_differs places created p
  unfolding front_blocks front_in_image written_header placed_by object_of
  segments_of_none p is_part r is_some =
      let class = stored.header.class in
      let bytes = phdrs_bytes class stored.header.order b.phdrs in
      let long = length-phdrs_bytes class stored.header.order b.phdrs in
      let count =
      ap (λ (n : ℕ). n == 0) long
      ∙ phdrs_none class (length b.phdrs)
      ∙ ap (λ (n : ℕ). n == 0) (sym is.counts.phnum) in
      is_some
      ∙ block_or_none (written_header stored.header).phoff bytes b.header.phnum count
      ∙ differs_from_none p part.Segments is_part

  pub table_of_none : (p : Part) → p ≡ part.Table → (r : Bool)
      → r ≡ not (b.header.shnum == 0) → r ≡ front_differs places created p
  unfolding front_blocks front_in_image written_header placed_by object_of
  table_of_none p is_part r is_some =
      let class = stored.header.class in
      let rows = map (λ c. c.header) stored.sections in
      let bytes = shdrs_bytes class stored.header.order rows in
      let long = length-shdrs_bytes class stored.header.order rows in
      let same : length rows ≡ b.header.shnum =
      length-map stored.sections (λ (c : Section). c.header)
      ∙ section_count-placed places created
      ∙ section_count_is image size b
      ∙ sym is.counts.shnum in
      let count =
      ap (λ (n : ℕ). n == 0) long
      ∙ shdrs_none class (length rows)
      ∙ ap (λ (n : ℕ). n == 0) same in
      is_some
      ∙ block_or_none (written_header stored.header).shoff bytes b.header.shnum count
      ∙ differs_from_none p part.Table is_part

  pub header_of_none : (p : Part) → p ≡ part.Header → true ≡ front_differs places created p
  unfolding front_blocks front_in_image written_header placed_by object_of
  header_of_none p is_part =
      let bytes = ehdr_bytes (written_header stored.header) b.pad in
      let long = length-ehdr_bytes (written_header stored.header) b.pad is.sound.object.pad in
      let count = ap (λ (n : ℕ). n == 0) long ∙ ehdr_some stored.header.class in
      block_or_none 0 bytes 1 count ∙ differs_from_none p part.Header is_part
