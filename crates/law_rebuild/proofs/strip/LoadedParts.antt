-- Each part of what strip makes of a program has the program's bytes before the tail: where a part
-- has a byte there, and where none does.
use Rattle.std.proofs.Common.{◌≡◌, ℕ, zero, suc, ◌+◌, ◌-◌, ◌<◌, ◌≤◌, Bool, true, false, List, [], ◌∷◌, ◌++◌, length, get_or, Option, Some, None, refl, sym, ap, ◌∙◌, subst, arith}
use Rattle.std.specs.Prelude.{nat_lt, nat_le, slice_index, if◌then◌else◌, ◌==◌, map}
use Rattle.std.specs.List.{range_with_len}
use Rattle.std.proofs.lemmas.Bool.{lt-ltb, ne_eqb}
use Rattle.std.proofs.lemmas.List.{length-map, length-take-le, get_or-take}
use Rattle.elf_types.specs.Answers.{first_refusal}
use Rattle.elf_types.specs.declared.records.Class.{Class}
use Rattle.elf_types.specs.declared.records.Order.{Order}
use Rattle.elf_types.specs.declared.records.Phdr.{Phdr}
use Rattle.elf_types.specs.declared.records.Shdr.{Shdr}
use Rattle.elf_types.specs.declared.constants.TheConstants.{PN_XNUM}
use Rattle.hash_model.specs.elf_xlate.declared.content.Items.{Items}
use Rattle.hash_model.specs.elf_xlate.Headers.{ehdr_size, shdr_size, ehdr_bytes}
use Rattle.hash_model.specs.elf_xlate.Translation.{encoded}
use Rattle.hash_model.specs.elf_ident.declared.fronts.Front.{Front}
use Rattle.hash_model.specs.elf_ident.Reading.{IsFittingFront}
use Rattle.hash_model.specs.elf_object.Blocks.{Block, block_covers, byte_over}
use Rattle.hash_model.specs.elf_object.Object.{Object, Section, section_at, has_file_bytes, occupies_file, is_null, header_of, is_dirty}
use Rattle.hash_model.specs.elf_object.Open.{phdrs_bytes, shdrs_bytes, front_in_image, standing_header, opened_section, begun}
use Rattle.hash_model.specs.elf_object.Joined.{file_bytes}
use Rattle.hash_model.specs.elf_object.Derived.{where_any, derived_header, written_header}
use Rattle.hash_model.specs.elf_object.Layout.{places_of, table_place, placed_header, placed_by, placed}
use Rattle.hash_model.specs.elf_object.Image.{front_blocks, section_block, part_blocks, kept_base, uncovered_byte, image_length, image as image_of}
use Rattle.hash_model.specs.elf_object.Valid.{IsObject}
use Rattle.law_object.proofs.BlockLaws.{get_or-spread}
use Rattle.law_object.proofs.ImageLaws.{image-dirty, placed-dirty, length-image, joined-none, file_bytes_from, not_null}
use Rattle.law_object.proofs.KeepLaws.{section_at_is}
use Rattle.law_object.proofs.LengthLaws.{length-ehdr_bytes, length-shdrs_bytes}
use Rattle.law_object.proofs.OpenLaws.{IsFrontOf}
use Rattle.law_object.proofs.StandLaws.{covered_from, where_some, some_of, section_count-placed, joined-placed, offset-placed}
use Rattle.law_object.specs.Writing.Based.{IsBased}
use Rattle.law_object.specs.Writing.Lines.{StandsAt}
use Rattle.law_object.proofs.writing.HeldLaws.{stands_byte, held_byte}
use Rattle.hash_model.specs.elf_object.Sections.{is_allocated, is_among, header_at}
use Rattle.rebuild_model.specs.Followed.{kept_from_1}
use Rattle.rebuild_model.specs.Arranged.{place_from, section_from}
use Rattle.rebuild_model.specs.Rebuilt.{kept_refusal, rebuilt_items, rebuilt_header, rebuilt_sections, made_section}
use Rattle.rebuild_model.specs.Laws.{IsUsual, may_change}
use Rattle.law_rebuild.proofs.strip.HeaderBytes.{header_byte}
use Rattle.law_rebuild.proofs.strip.PlaceLaws.{section_place_stays, table_place_stays, base_reached, moved_behind, table_behind, unmoved_allocated}
use Rattle.law_rebuild.proofs.strip.MadeObject.{made_over, stripped_over, front_kept, length-stripped, shoff-stripped}
use Rattle.law_rebuild.proofs.strip.MadeSections.{IsMadeFrom, section_placed, section_unmoved, section_moved, length-made, offset_kept, allocated_kept, header_made, kept_at, made_bytes, allocated_items, raw_stands, bytes_encoded}
use Rattle.law_rebuild.proofs.strip.MadeFront.{header_agrees}

-- ---- The first block that has a byte

over_first : (otherwise : ℕ → ℕ) (b : Block) (bs : List Block) (k n : ℕ)
    → (block_covers b k ≡ true → get_or b.bytes (k - b.at) 0 ≡ n)
    → byte_over otherwise bs k ≡ n → byte_over otherwise (b ∷ bs) k ≡ n
unfolding byte_over
over_first otherwise b bs k n here rest = by_test (block_covers b k) refl
  where
    by_test : (c : Bool) → block_covers b k ≡ c
        → (if c then get_or b.bytes (k - b.at) 0 else byte_over otherwise bs k) ≡ n
    by_test true e = here e
    by_test false e = rest

over_row : (otherwise : ℕ → ℕ) (f : ℕ → Block) (last : List Block) (a m k n : ℕ)
    → ((s : ℕ) → a ≤ s → s < a + m → block_covers (f s) k ≡ true
    → get_or (f s).bytes (k - (f s).at) 0 ≡ n)
    → byte_over otherwise last k ≡ n
    → byte_over otherwise (map f (range_with_len a m) ++ last) k ≡ n
over_row otherwise f last a zero k n each rest = rest
over_row otherwise f last a (suc m) k n each rest =
    over_first otherwise (f a) (map f (range_with_len (a + 1) m) ++ last) k n
    (each a (omega arith) (omega arith))
    (over_row otherwise f last (a + 1) m k n
    (λ s from below. each s (omega arith) (omega arith)) rest)

-- ---- The case

-- what strip makes of a program, and the same with its places stored
abbrev pub stripped_from : Front → List ℕ → List ℕ → ℕ → Object
stripped_from f image removed tail = stripped_over (begun f image) removed tail

abbrev stored_from : Front → List ℕ → List ℕ → ℕ → Object
stored_from f image removed tail =
    placed_by (places_of (stripped_from f image removed tail)) (stripped_from f image removed tail)

-- a place before the tail, and what is known of the program and of what is made of it
pub record IsCase (f : Front) (image removed : List ℕ) (tail k : ℕ) : Type 0 where
  pub ok : IsObject (begun f image)
  pub based : IsBased (begun f image)
  pub front : IsFrontOf image f
  pub fit : IsFittingFront f
  pub usual : IsUsual f
  pub stays : is_among removed 0 ≡ false
  pub few : nat_le PN_XNUM (length f.phdrs) ≡ false
  pub kept : first_refusal (map (kept_refusal (begun f image) removed)
      (kept_from_1 (begun f image) removed)) ≡ None
  pub some : 0 < length f.phdrs
  pub dirty : is_dirty (stripped_from f image removed tail) ≡ true
  pub before : k < tail
  pub within : tail ≤ length image
  pub fixed : may_change f.ehdr.class k ≡ false

-- where a block has the byte, it has the image's
abbrev HasByte : List ℕ → ℕ → Block → Type 0
HasByte image k b = block_covers b k ≡ true → get_or b.bytes (k - b.at) 0 ≡ get_or image k 0

-- ---- The ELF header

header_case : (f : Front) (image removed : List ℕ) (tail k : ℕ)
    → IsCase f image removed tail k
    → HasByte image k (front_blocks (stored_from f image removed tail)).header
unfolding front_blocks front_in_image placed_by begun standing_header
header_case f image removed tail k c cover =
    let q = stripped_from f image removed tail in
    let h = written_header (placed_header (places_of q) q) in
    let kept = front_kept (begun f image) removed tail in
    let same =
    header_agrees f image removed tail c.front c.fit c.usual c.stays c.few c.some in
    let pad = kept.pad ∙ sym c.usual.pad in
    let over = covered_from (front_blocks (stored_from f image removed tail)).header k cover in
    let below : k < 0 + length (ehdr_bytes h q.pad) = over.below in
    let padded : length (ehdr_bytes h q.pad) ≡ length (ehdr_bytes h f.pad) =
    ap (λ (l : List ℕ). length (ehdr_bytes h l)) pad in
    let sized : ehdr_size (standing_header f).class ≡ ehdr_size h.class =
    ap (λ (x : Class). ehdr_size x) same.class in
    let inside : k < length (ehdr_bytes (standing_header f) f.pad) =
    omega (
      arith,
      below,
      padded,
      sized,
      length-ehdr_bytes h f.pad c.fit.pad,
      length-ehdr_bytes (standing_header f) f.pad c.fit.pad,
    ) in
    let place : k - 0 ≡ k = omega arith in
    let start : 0 + k ≡ k = omega arith in
    ap (λ (j : ℕ). get_or (ehdr_bytes h q.pad) j 0) place
    ∙ ap (λ (l : List ℕ). get_or (ehdr_bytes h l) k 0) pad
    ∙ sym (header_byte (standing_header f) h f.pad k c.fit.pad same c.fixed)
    ∙ stands_byte image 0 (ehdr_bytes (standing_header f) f.pad) k (c.based.header refl) inside
    ∙ ap (λ (j : ℕ). get_or image j 0) start

-- ---- The program headers

segments_case : (f : Front) (image removed : List ℕ) (tail k : ℕ)
    → IsCase f image removed tail k
    → HasByte image k (front_blocks (stored_from f image removed tail)).segments
unfolding front_blocks front_in_image placed_by begun
segments_case f image removed tail k c cover =
    let q = stripped_from f image removed tail in
    let h = written_header (placed_header (places_of q) q) in
    let kept = front_kept (begun f image) removed tail in
    let same =
    header_agrees f image removed tail c.front c.fit c.usual c.stays c.few c.some in
    let bytes : phdrs_bytes (standing_header f).class (standing_header f).order f.phdrs
    ≡ phdrs_bytes h.class h.order q.phdrs =
    ap (λ (x : Class). phdrs_bytes x (standing_header f).order f.phdrs) same.class
    ∙ ap (λ (x : Order). phdrs_bytes h.class x f.phdrs) same.order
    ∙ ap (λ (l : List Phdr). phdrs_bytes h.class h.order l) (sym kept.phdrs) in
    let stood : StandsAt image (standing_header f).phoff
    (phdrs_bytes (standing_header f).class (standing_header f).order f.phdrs) =
    c.based.segments refl in
    let moved : StandsAt image h.phoff
    (phdrs_bytes (standing_header f).class (standing_header f).order f.phdrs) =
    subst (λ (n : ℕ). StandsAt image n
    (phdrs_bytes (standing_header f).class (standing_header f).order f.phdrs)) same.phoff stood in
    let stands : StandsAt image h.phoff (phdrs_bytes h.class h.order q.phdrs) =
    subst (λ (l : List ℕ). StandsAt image h.phoff l) bytes moved in
    held_byte image (front_blocks (stored_from f image removed tail)).segments k stands cover

-- ---- The section header table stands behind

table_case : (f : Front) (image removed : List ℕ) (tail k : ℕ)
    → IsCase f image removed tail k
    → HasByte image k (front_blocks (stored_from f image removed tail)).table
unfolding front_blocks front_in_image placed_by written_header placed_header derived_header header_of
table_case f image removed tail k c cover =
    let q = stripped_from f image removed tail in
    let headers = map (λ (x : Section). x.header) (stored_from f image removed tail).sections in
    let over = covered_from (front_blocks (stored_from f image removed tail)).table k cover in
    let from : where_any (length q.sections) (table_place (places_of q) (length q.sections)) ≤ k =
    over.from in
    let below : k < where_any (length q.sections) (table_place (places_of q) (length q.sections))
    + length (shdrs_bytes q.header.class q.header.order headers) =
    over.below in
    let kept = front_kept (begun f image) removed tail in
    let size = length-shdrs_bytes q.header.class q.header.order headers in
    let count : length headers ≡ length q.sections =
    length-map (stored_from f image removed tail).sections (λ (x : Section). x.header)
    ∙ section_count-placed (places_of q) q in
    let made = length-stripped (begun f image) removed tail in
    let some : 0 < length headers =
    some_of (length headers) (shdr_size q.header.class)
    (omega (arith, from, below, size)) in
    let any : 0 < length q.sections = omega (arith, some, count) in
    let sections : 0 < length (rebuilt_sections (begun f image) removed) =
    omega (arith, any, made) in
    let there : (length (rebuilt_sections (begun f image) removed) == 0) ≡ false =
    ne_eqb (length (rebuilt_sections (begun f image) removed)) 0
    (λ none. omega (arith, sections, none)) in
    let at = where_some (length q.sections) (table_place (places_of q) (length q.sections)) any
    ∙ table_place_stays q kept.layout ∙ shoff-stripped (begun f image) removed tail there in
    let behind = table_behind (made_over (begun f image) removed tail) tail
    (omega (arith, sections, length-made (begun f image) removed tail)) in
    absurd (omega (arith, from, at, behind, c.before))

shdrs_below : (f : Front) (image : List ℕ) (s : ℕ) → s < length (begun f image).sections
    → s < length f.shdrs
unfolding begun
shdrs_below f image s below = omega (arith, below, length-map f.shdrs (opened_section image))

-- ---- A section: its home's bytes where it is loaded, and else behind

section_case : (f : Front) (image removed : List ℕ) (tail k s : ℕ)
    → IsCase f image removed tail k → 0 < s
    → s < length (stripped_from f image removed tail).sections
    → HasByte image k (section_block (stored_from f image removed tail) s)
unfolding section_block
section_case f image removed tail k s c from inside cover =
    by_bytes (has_file_bytes s (section_at (stripped_from f image removed tail) s)) refl
  where
    bytes : file_bytes (stored_from f image removed tail) s
        ≡ file_bytes (stripped_from f image removed tail) s
    bytes = joined-placed (places_of (stripped_from f image removed tail))
        (stripped_from f image removed tail) s

    sections : length (made_over (begun f image) removed tail).sections
        ≡ length (stripped_from f image removed tail).sections
    sections = length-made (begun f image) removed tail
        ∙ sym (length-stripped (begun f image) removed tail)

    below : s < length (made_over (begun f image) removed tail).sections
    below = omega (arith, inside, sections)

    placed_as : section_at (stripped_from f image removed tail) s
        ≡ section_from (made_over (begun f image) removed tail) tail s
        (section_at (made_over (begun f image) removed tail) s)
    placed_as = section_placed (made_over (begun f image) removed tail) tail s below

    kept : IsMadeFrom (begun f image) removed tail s
    kept = kept_at (begun f image) removed tail s c.kept c.stays from
        (omega (arith, below, length-made (begun f image) removed tail))

    from_k : (section_at (stored_from f image removed tail) s).header.offset ≤ k
    from_k = (covered_from (record {
      at = (section_at (stored_from f image removed tail) s).header.offset;
      bytes = file_bytes (stored_from f image removed tail) s;
    }) k cover).from

    below_k : k < (section_at (stored_from f image removed tail) s).header.offset
        + length (file_bytes (stored_from f image removed tail) s)
    below_k = (covered_from (record {
      at = (section_at (stored_from f image removed tail) s).header.offset;
      bytes = file_bytes (stored_from f image removed tail) s;
    }) k cover).below

    unmoved : has_file_bytes s (section_at (stripped_from f image removed tail) s) ≡ true
        → (section_at (stored_from f image removed tail) s).header.offset
        ≡ (section_at (stripped_from f image removed tail) s).header.offset
        → place_from (made_over (begun f image) removed tail) tail s ≡ None
        → StandsAt image (section_at (stored_from f image removed tail) s).header.offset
        (file_bytes (stored_from f image removed tail) s)
    unmoved filled at stays =
        let n = kept.number in
        let header = rebuilt_header (begun f image) removed n in
        let owned = rebuilt_items (begun f image) removed n in
        let whole : section_at (stripped_from f image removed tail) s ≡ made_section header owned =
        placed_as
        ∙ section_unmoved (made_over (begun f image) removed tail) tail s
        (section_at (made_over (begun f image) removed tail) s) stays
        ∙ kept.is in
        let same : (section_at (stripped_from f image removed tail) s).header ≡ header =
        ap (λ (x : Section). x.header) whole ∙ header_made header owned in
        let made_same : (section_at (made_over (begun f image) removed tail) s).header ≡ header =
        ap (λ (x : Section). x.header) kept.is ∙ header_made header owned in
        let occupies : occupies_file header ≡ true =
        ap (λ (x : Shdr). occupies_file x) (sym same)
        ∙ (file_bytes_from s (section_at (stripped_from f image removed tail) s) filled).1 in
        let full : is_null (section_at (made_over (begun f image) removed tail) s).header
        ≡ false =
        ap (λ (x : Shdr). is_null x) made_same ∙ not_null header occupies in
        let loaded : is_allocated (header_at (begun f image) n) ≡ true =
        sym (allocated_kept (begun f image) removed n)
        ∙ ap (λ (x : Shdr). is_allocated x) (sym made_same)
        ∙ unmoved_allocated (made_over (begun f image) removed tail) tail s stays from below full in
        let class = (stripped_from f image removed tail).header.class in
        let order = (stripped_from f image removed tail).header.order in
        let raw = (section_at (begun f image) n).raw in
        let all : file_bytes (stored_from f image removed tail) s
        ≡ (section_at (begun f image) n).raw =
        bytes
        ∙ made_bytes (stripped_from f image removed tail) s header owned whole from occupies
        ∙ ap (λ (x : Items). encoded class order x)
        (allocated_items (begun f image) removed n loaded)
        ∙ bytes_encoded class order raw (section_at_is (begun f image) n c.ok).home.bytes in
        let place : (section_at (stored_from f image removed tail) s).header.offset
        ≡ (header_at (begun f image) n).offset =
        at ∙ ap (λ (x : Shdr). x.offset) same ∙ offset_kept (begun f image) removed n in
        let small = shdrs_below f image n kept.below in
        subst (λ (a : ℕ). StandsAt image a (file_bytes (stored_from f image removed tail) s))
        (sym place)
        (subst (λ (l : List ℕ). StandsAt image (header_at (begun f image) n).offset l) (sym all)
        (raw_stands f image n small kept.passed))

    by_place : (place : Option ℕ)
        → place_from (made_over (begun f image) removed tail) tail s ≡ place
        → has_file_bytes s (section_at (stripped_from f image removed tail) s) ≡ true
        → (section_at (stored_from f image removed tail) s).header.offset
        ≡ (section_at (stripped_from f image removed tail) s).header.offset
        → get_or (file_bytes (stored_from f image removed tail) s)
        (k - (section_at (stored_from f image removed tail) s).header.offset) 0
        ≡ get_or image k 0
    by_place None e filled at =
        held_byte image (record {
          at = (section_at (stored_from f image removed tail) s).header.offset;
          bytes = file_bytes (stored_from f image removed tail) s;
        }) k (unmoved filled at e) cover
    by_place (Some place) e filled at =
        let moved : (section_at (stripped_from f image removed tail) s).header.offset ≡ place =
        ap (λ (x : Section). x.header.offset) placed_as
        ∙ section_moved (made_over (begun f image) removed tail) tail s place
        (section_at (made_over (begun f image) removed tail) s) e in
        absurd (omega (
          arith,
          c.before,
          from_k,
          at,
          moved,
          moved_behind (made_over (begun f image) removed tail) tail s place e,
        ))

    by_bytes : (b : Bool)
        → has_file_bytes s (section_at (stripped_from f image removed tail) s) ≡ b
        → get_or (file_bytes (stored_from f image removed tail) s)
        (k - (section_at (stored_from f image removed tail) s).header.offset) 0
        ≡ get_or image k 0
    by_bytes true e =
        by_place (place_from (made_over (begun f image) removed tail) tail s) refl e
        (offset-placed (places_of (stripped_from f image removed tail))
        (stripped_from f image removed tail) s inside e
        ∙ section_place_stays (stripped_from f image removed tail) s
        (front_kept (begun f image) removed tail).layout from inside)
    by_bytes false e =
        let none : length (file_bytes (stored_from f image removed tail) s) ≡ 0 =
        ap length (bytes ∙ joined-none (stripped_from f image removed tail) s e) in
        absurd (omega (arith, from_k, below_k, none))

-- ---- Where no part stands

base_long : (f : Front) (image removed : List ℕ) (tail : ℕ) → tail ≤ length image
    → length (stripped_from f image removed tail).base ≡ tail
unfolding begun
base_long f image removed tail within =
    ap length (front_kept (begun f image) removed tail).base ∙ length-take-le tail image within

uncovered_case : (f : Front) (image removed : List ℕ) (tail k : ℕ) → k < tail
    → tail ≤ length image
    → uncovered_byte (stripped_from f image removed tail) k ≡ get_or image k 0
unfolding uncovered_byte kept_base begun
uncovered_case f image removed tail k before within =
    let q = stripped_from f image removed tail in
    let kept = front_kept (begun f image) removed tail in
    let long = base_long f image removed tail within in
    ap (λ (b : Bool).
    if nat_lt k (if b then length q.base else 0) then slice_index q.base k else q.fill)
    kept.layout
    ∙ ap (λ (b : Bool). if b then slice_index q.base k else q.fill)
    (lt-ltb k (length q.base) (omega (arith, before, long)))
    ∙ ap (λ (l : List ℕ). get_or l k 0) kept.base
    ∙ get_or-take tail image k 0 before

-- ---- All parts

over_parts : (f : Front) (image removed : List ℕ) (tail k : ℕ)
    → IsCase f image removed tail k
    → byte_over (uncovered_byte (stripped_from f image removed tail))
    (part_blocks (stored_from f image removed tail)) k ≡ get_or image k 0
unfolding part_blocks byte_over
over_parts f image removed tail k c =
    let q = stripped_from f image removed tail in
    let stored = stored_from f image removed tail in
    let count = section_count-placed (places_of q) q in
    let other = uncovered_byte q in
    let sections = map (section_block stored) (range_with_len 1 (length stored.sections - 1)) in
    let last = (front_blocks stored).table ∷ [] in
    over_first other (front_blocks stored).header
    ((front_blocks stored).segments ∷ sections ++ last) k (get_or image k 0)
    (header_case f image removed tail k c)
    (over_first other (front_blocks stored).segments (sections ++ last) k (get_or image k 0)
    (segments_case f image removed tail k c)
    (over_row other (section_block stored) last 1 (length stored.sections - 1) k
    (get_or image k 0)
    (λ s from below.
    section_case f image removed tail k s c (omega (arith, from))
    (omega (arith, from, below, count)))
    (over_first other (front_blocks stored).table [] k (get_or image k 0)
    (table_case f image removed tail k c)
    (uncovered_case f image removed tail k c.before c.within))))

-- what an update writes has the byte
pub made_byte : (f : Front) (image removed : List ℕ) (tail k : ℕ) → IsCase f image removed tail k
    → (k < length (image_of (stripped_from f image removed tail)))
    × (get_or (image_of (stripped_from f image removed tail)) k 0 ≡ get_or image k 0)
made_byte f image removed tail k c =
    let q = stripped_from f image removed tail in
    let kept = front_kept (begun f image) removed tail in
    let inside : k < image_length (stripped_from f image removed tail) =
    omega (
      arith,
      c.before,
      base_long f image removed tail c.within,
      base_reached (stripped_from f image removed tail) kept.layout c.dirty,
    ) in (
      omega (arith, inside, length-image (stripped_from f image removed tail)),
      ap (λ (l : List ℕ). get_or l k 0) (image-dirty q c.dirty)
          ∙ get_or-spread (image_length q) (uncovered_byte q) (part_blocks (placed q)) k inside
          ∙ ap (λ (x : Object). byte_over (uncovered_byte q) (part_blocks x) k)
          (placed-dirty q c.dirty)
          ∙ over_parts f image removed tail k c,
    )
