-- A placed object stays, and an object whose write failed has the same image.
use Rattle.std.proofs.Common.{◌≡◌, ℕ, ◌+◌, ◌<◌, ◌≤◌, Bool, true, false, not, ◌&&◌, ◌||◌, List, [], ◌∷◌, length, get_or, Option, Some, None, refl, sym, ap, ◌∙◌, subst, arith, ⊎_elim}
use Rattle.std.specs.Prelude.{nat_lt, if◌then◌else◌, ◌==◌, map}
use Rattle.std.specs.List.{enumerate_from, list_any}
use Rattle.std.proofs.lemmas.Bool.{cases_lt, ltb-true, le-ltb}
use Rattle.std.proofs.lemmas.List.{length-map, get_or-map, ext_get_or}
use Rattle.std.proofs.lemmas.List.FromFn.{length-enumerate_from, get_or-enumerate_from}
use Rattle.elf_types.specs.declared.records.Class.{Class}
use Rattle.elf_types.specs.declared.records.Order.{Order}
use Rattle.elf_types.specs.declared.records.Ehdr.{Ehdr}
use Rattle.elf_types.specs.declared.records.Shdr.{Shdr}
use Rattle.elf_types.specs.declared.errors.ElfError.{ElfError}
use Rattle.elf_object.specs.elf_xlate.Translation.{encoded}
use Rattle.elf_object.specs.elf_layout.declared.parts.Places.{Places}
use Rattle.elf_object.specs.elf_layout.Layout.{length_from, length_of, standing, places_of as parts_places}
use Rattle.elf_types.specs.Answers.{first_refusal}
use Rattle.elf_object.specs.Blocks.{spread, is_covered, stacked, last_end}
use Rattle.law_object.proofs.BlockLaws.{get_or-spread, byte_over-uncovered}
use Rattle.elf_object.specs.Object.{Object, Home, Section, absent_section, section_at, has_file_bytes, is_dirty, some_section_marked, some_piece_marked}
use Rattle.elf_object.specs.Joined.{piece_bytes, aligned_pieces, piece_blocks, pieces_end, file_bytes}
use Rattle.elf_object.specs.Layout.{parts_of, places_of, placed_header, placed_shdr, placed_section, placed_by, placed}
use Rattle.elf_object.specs.Image.{part_blocks, uncovered_byte, kept_base, image_length, image}
use Rattle.elf_object.specs.Refusal.{content_refusal, placing_refusal, refusal}
use Rattle.elf_object.specs.Changed.{is_moved, marked_piece, torn_section, torn_over, torn}
use Rattle.law_object.proofs.ImageLaws.{section_at-placed, placed-dirty, placed-clean, image-dirty, length-image}
use Rattle.law_object.proofs.PlaceLaws.{length_from-ge}
use Rattle.law_object.proofs.StandLaws.{section_count-placed, joined-placed, section_at-past}
use Rattle.law_object.proofs.AgainLaws.{SameFront, SameGround, section_again_at, image-again, placing-again, header_again, class-placed, phdrs-placed, stype-placed}
use Rattle.law_object.proofs.ContentLaws.{SameContent, owns, content-again}
use Rattle.law_object.specs.Laws.{IsTornImage, PlacedStays, TornLaw}

-- ---- Marks

marks_rows : {X : Type 0} (f : X → Bool) (g : ℕ → X → X) (n : ℕ) (l : List X) → ((i : ℕ) (x : X) → f (g i x) ≡ f x) → list_any f (map (λ r. g r.0 r.1) (enumerate_from n l)) ≡ list_any f l
marks_rows f g n [] same = refl
marks_rows f g n (x ∷ l) same =
    let here = same n x in let rest = marks_rows f g (n + 1) l same in cc

pub dirty-placed : (places : Places) (o : Object) → is_dirty (placed_by places o) ≡ is_dirty o
unfolding is_dirty some_section_marked placed_by placed_section some_piece_marked
dirty-placed places o =
    ap (λ (b : Bool). o.marked || o.header_marked || o.segments_marked || b)
    (marks_rows (λ c. c.marked || list_any (λ p. p.marked) c.pieces) (placed_section places o) 0 o.sections (λ i x. refl))

-- ---- A placed object

front_placed : (o : Object) → SameFront (placed_by (places_of o) o) o
unfolding placed_by
front_placed o = record {
  layout = refl;
  header = refl;
  pad = refl;
  phdrs = refl;
  count = section_count-placed (places_of o) o;
  headers = λ s. refl;
  bytes = joined-placed (places_of o) o;
}

section_facts : {A : Type 0} (f : Section → A) (places : Places) (o : Object) (s : ℕ) → ((c : Section) → f (placed_section places o s c) ≡ f c) → f (section_at (placed_by places o) s) ≡ f (section_at o s)
section_facts f places o s same = ⊎_elim
    (λ h. ap f (section_at-placed places o s h) ∙ same (section_at o s))
    (λ h. let count = section_count-placed places o in ap f (section_at-past (placed_by places o) s (omega arith) ∙ sym (section_at-past o s h)))
    (cases_lt s (length o.sections))

content_placed : (o : Object) → SameContent (placed_by (places_of o) o) o
unfolding placed_section
content_placed o = record {
  class = class-placed (places_of o) o;
  phdrs = phdrs-placed (places_of o) o;
  count = section_count-placed (places_of o) o;
  stype = stype-placed (places_of o) o;
  pieces = λ s. section_facts (λ c. owns c.pieces) (places_of o) o s (λ c. refl);
  out = λ s. section_facts (λ c. c.home.out) (places_of o) o s (λ c. refl);
}

refusal-dirty : (o : Object) → is_dirty o ≡ true → refusal o ≡ first_refusal (content_refusal o ∷ placing_refusal o ∷ [])
unfolding refusal
refusal-dirty o h = rw h refl

-- an update of the same front and content is refused alike
refusal_again : (t o : Object) → is_dirty t ≡ true → is_dirty o ≡ true → SameFront t o → SameContent t o → (o.layout ≡ true → length t.base ≡ length o.base) → refusal t ≡ refusal o
refusal_again t o dirty other front content base =
    refusal-dirty t dirty
    ∙ ap (λ (r : Option ElfError). first_refusal (r ∷ placing_refusal t ∷ [])) (content-again t o content)
    ∙ ap (λ (r : Option ElfError). first_refusal (content_refusal o ∷ r ∷ [])) (placing-again t o front base)
    ∙ sym (refusal-dirty o other)

-- a section of the placed object that is placed again
section_stays : (o : Object) (s : ℕ) → s < length o.sections → placed_section (places_of (placed_by (places_of o) o)) (placed_by (places_of o) o) s (section_at (placed_by (places_of o) o) s) ≡ section_at (placed_by (places_of o) o) s
unfolding placed_section
section_stays o s h =
    let q = placed_by (places_of o) o in
    let at : section_at (placed_by (places_of o) o) s ≡ record (section_at o s) { header = placed_shdr (places_of o) o s (section_at o s).header } = section_at-placed (places_of o) o s h in
    let again = section_again_at (placed_by (places_of o) o) o s (front_placed o) h in
    let R : Section → Type 0 = λ c. record c { header = placed_shdr (places_of (placed_by (places_of o) o)) (placed_by (places_of o) o) s c.header } ≡ c in
    subst R (sym at) (ap (λ (x : Shdr). record (section_at o s) { header = x }) again)

rows_stay : {X : Type 0} (g : ℕ → X → X) (l : List X) (d : X) → ((i : ℕ) → i < length l → g i (get_or l i d) ≡ get_or l i d) → map (λ r. g r.0 r.1) (enumerate_from 0 l) ≡ l
rows_stay {X = X} g l d each =
    let count = length-enumerate_from 0 l in
    let len : length (map (λ r. g r.0 r.1) (enumerate_from 0 l)) ≡ length l = length-map (enumerate_from 0 l) (λ r. g r.0 r.1) ∙ count in
    ext_get_or d (map (λ r. g r.0 r.1) (enumerate_from 0 l)) l len (λ i h.
    let inside : i < length l = omega arith in
    let row : get_or (enumerate_from 0 l) i (0, d) ≡ (0 + i, get_or l i d) = get_or-enumerate_from 0 l i (0, d) inside in
    let number : 0 + i ≡ i = omega arith in
    get_or-map (λ (r : ℕ × X). g r.0 r.1) (enumerate_from 0 l) i (0, d) d (omega arith)
    ∙ ap (λ (r : ℕ × X). g r.0 r.1) row
    ∙ ap (λ (k : ℕ). g k (get_or l i d)) number
    ∙ each i inside)

-- the sections of the placed object that are placed again
sections_stay : (o : Object) → map (λ r. placed_section (places_of (placed_by (places_of o) o)) (placed_by (places_of o) o) r.0 r.1) (enumerate_from 0 (placed_by (places_of o) o).sections) ≡ (placed_by (places_of o) o).sections
unfolding section_at
sections_stay o =
    let count = section_count-placed (places_of o) o in
    rows_stay (placed_section (places_of (placed_by (places_of o) o)) (placed_by (places_of o) o)) (placed_by (places_of o) o).sections absent_section (λ i h. section_stays o i (omega arith))

stored : (places : Places) (q : Object) → placed_header places q ≡ q.header → map (λ r. placed_section places q r.0 r.1) (enumerate_from 0 q.sections) ≡ q.sections → placed_by places q ≡ q
unfolding placed_by
stored places q header sections =
    ap (λ (h : Ehdr). record q { header = h; sections = map (λ r. placed_section places q r.0 r.1) (enumerate_from 0 q.sections) }) header
    ∙ ap (λ (l : List Section). record q { sections = l }) sections

placed_twice : (o : Object) → placed_by (places_of (placed_by (places_of o) o)) (placed_by (places_of o) o) ≡ placed_by (places_of o) o
placed_twice o = stored (places_of (placed_by (places_of o) o)) (placed_by (places_of o) o) (header_again (placed_by (places_of o) o) o (front_placed o)) (sections_stay o)

uncovered-placed : (places : Places) (o : Object) (k : ℕ) → uncovered_byte (placed_by places o) k ≡ uncovered_byte o k
unfolding uncovered_byte kept_base placed_by
uncovered-placed places o k = refl

base-placed : (places : Places) (o : Object) → (placed_by places o).base ≡ o.base
unfolding placed_by
base-placed places o = refl

ground_placed : (o : Object) → is_dirty o ≡ true → SameGround (placed_by (places_of o) o) o
ground_placed o dirty = record {
  dirty = dirty-placed (places_of o) o ∙ dirty;
  other_dirty = dirty;
  base = λ lay. ap length (base-placed (places_of o) o);
  bytes = λ k h none. uncovered-placed (places_of o) o k;
}

-- the places that are stored stay, and so does the image
pub placed_stays : (o : Object) → PlacedStays o
placed_stays o ok passed = by_test (is_dirty o) refl
  where
    by_test : (b : Bool) → is_dirty o ≡ b → (placed (placed o) ≡ placed o) × (refusal (placed o) ≡ None) × (image (placed o) ≡ image o)
    by_test true dirty =
        let same = placed-dirty o dirty in
        let marked : is_dirty (placed_by (places_of o) o) ≡ true = dirty-placed (places_of o) o ∙ dirty in
        let twice = placed-dirty (placed_by (places_of o) o) marked ∙ placed_twice o in
        let alike = refusal_again (placed_by (places_of o) o) o marked dirty (front_placed o) (content_placed o) (λ lay. ap length (base-placed (places_of o) o)) in
        let picture = image-again (placed_by (places_of o) o) o (front_placed o) (ground_placed o dirty) in
        (ap placed same ∙ twice ∙ sym same, ap refusal same ∙ alike ∙ passed, ap image same ∙ picture)
    by_test false clean =
        let same = placed-clean o clean in
        (ap placed same, ap refusal same ∙ passed, ap image same)

-- ---- A failed write

pub torn-is : (o : Object) (bytes : List ℕ) → is_dirty o ≡ true → torn o bytes ≡ torn_over (is_moved o) bytes (placed_by (places_of o) o)
unfolding torn
torn-is o bytes dirty = rw dirty (ap (torn_over (is_moved o) bytes) (placed-dirty o dirty))

section_count-torn : (moved : ℕ → Bool) (bytes : List ℕ) (q : Object) → length (torn_over moved bytes q).sections ≡ length q.sections
unfolding torn_over
section_count-torn moved bytes q = length-map (enumerate_from 0 q.sections) (λ row. torn_section (moved row.0) row.1) ∙ length-enumerate_from 0 q.sections

section_at-torn : (moved : ℕ → Bool) (bytes : List ℕ) (q : Object) (s : ℕ) → s < length q.sections → section_at (torn_over moved bytes q) s ≡ torn_section (moved s) (section_at q s)
unfolding torn_over section_at
section_at-torn moved bytes q s h =
    let count = length-enumerate_from 0 q.sections in
    let row : get_or (enumerate_from 0 q.sections) s (0, absent_section) ≡ (0 + s, get_or q.sections s absent_section) = get_or-enumerate_from 0 q.sections s (0, absent_section) h in
    let number : 0 + s ≡ s = omega arith in
    get_or-map (λ (r : ℕ × Section). torn_section (moved r.0) r.1) (enumerate_from 0 q.sections) s (0, absent_section) absent_section (omega arith)
    ∙ ap (λ (r : ℕ × Section). torn_section (moved r.0) r.1) row
    ∙ ap (λ (k : ℕ). torn_section (moved k) (get_or q.sections s absent_section)) number

-- what marks do not change
torn_facts : {A : Type 0} (f : Section → A) (moved : ℕ → Bool) (bytes : List ℕ) (q : Object) (s : ℕ) → ((b : Bool) (c : Section) → f (torn_section b c) ≡ f c) → f (section_at (torn_over moved bytes q) s) ≡ f (section_at q s)
torn_facts f moved bytes q s same = ⊎_elim
    (λ h. ap f (section_at-torn moved bytes q s h) ∙ same (moved s) (section_at q s))
    (λ h. let count = section_count-torn moved bytes q in ap f (section_at-past (torn_over moved bytes q) s (omega arith) ∙ sym (section_at-past q s h)))
    (cases_lt s (length q.sections))

header-torn : (b : Bool) (c : Section) → (torn_section b c).header ≡ c.header
unfolding torn_section
header-torn true c = refl
header-torn false c = refl

home-torn : (b : Bool) (c : Section) → (torn_section b c).home ≡ c.home
unfolding torn_section
home-torn true c = refl
home-torn false c = refl

map_map_same : {X Y : Type 0} (f : X → Y) (g : X → X) (l : List X) → ((x : X) → f (g x) ≡ f x) → map f (map g l) ≡ map f l
map_map_same f g [] same = refl
map_map_same f g (x ∷ l) same = let here = same x in let rest = map_map_same f g l same in cc

owns-torn : (b : Bool) (c : Section) → owns (torn_section b c).pieces ≡ owns c.pieces
unfolding torn_section
owns-torn true c = map_map_same (λ p. p.own) marked_piece c.pieces (λ p. refl)
owns-torn false c = refl

aligned-torn : (class : Class) (order : Order) (b : Bool) (c : Section) → aligned_pieces class order (torn_section b c) ≡ aligned_pieces class order c
unfolding torn_section aligned_pieces piece_bytes
aligned-torn class order true c = map_map_same (λ p. (p.align, elim (p.own) [ None ↦ c.raw | Some items ↦ encoded class order items ])) marked_piece c.pieces (λ p. refl)
aligned-torn class order false c = refl

-- the bytes of a section by what they are made of
joined_from : Class → Order → ℕ → ℕ → Section → List ℕ
joined_from class order fill s c =
    if has_file_bytes s c
    then spread (last_end 0 (stacked 0 (aligned_pieces class order c))) (λ _. fill) (stacked 0 (aligned_pieces class order c))
    else []

joined-torn : (class : Class) (order : Order) (fill s : ℕ) (b : Bool) (c : Section) → joined_from class order fill s (torn_section b c) ≡ joined_from class order fill s c
unfolding joined_from has_file_bytes
joined-torn class order fill s b c =
    let header = header-torn b c in
    ap (λ (h : Shdr). if not (s == 0) && not (h.stype == 0 || h.stype == 8) then spread (last_end 0 (stacked 0 (aligned_pieces class order (torn_section b c)))) (λ _. fill) (stacked 0 (aligned_pieces class order (torn_section b c))) else []) header
    ∙ ap (λ (l : List (ℕ × List ℕ)). if not (s == 0) && not (c.header.stype == 0 || c.header.stype == 8) then spread (last_end 0 (stacked 0 l)) (λ _. fill) (stacked 0 l) else []) (aligned-torn class order b c)

joined-torn_of : (moved : ℕ → Bool) (bytes : List ℕ) (q : Object) (s : ℕ) → file_bytes (torn_over moved bytes q) s ≡ file_bytes q s
unfolding file_bytes pieces_end piece_blocks torn_over joined_from
joined-torn_of moved bytes q s = torn_facts (joined_from q.header.class q.header.order q.fill s) moved bytes q s (joined-torn q.header.class q.header.order q.fill s)

pub torn_front : (o : Object) (moved : ℕ → Bool) (bytes : List ℕ) → SameFront (torn_over moved bytes (placed_by (places_of o) o)) o
unfolding torn_over placed_by
torn_front o moved bytes = record {
  layout = refl;
  header = refl;
  pad = refl;
  phdrs = refl;
  count = section_count-torn moved bytes (placed_by (places_of o) o) ∙ section_count-placed (places_of o) o;
  headers = λ s. torn_facts (λ c. c.header) moved bytes (placed_by (places_of o) o) s header-torn;
  bytes = λ s. joined-torn_of moved bytes (placed_by (places_of o) o) s ∙ joined-placed (places_of o) o s;
}

torn_content : (o : Object) (moved : ℕ → Bool) (bytes : List ℕ) → SameContent (torn_over moved bytes (placed_by (places_of o) o)) o
unfolding torn_over
torn_content o moved bytes =
    let content = content_placed o in
    record {
      class = content.class;
      phdrs = content.phdrs;
      count = section_count-torn moved bytes (placed_by (places_of o) o) ∙ content.count;
      stype = λ s. torn_facts (λ c. c.header.stype) moved bytes (placed_by (places_of o) o) s (λ b c. ap (λ (h : Shdr). h.stype) (header-torn b c)) ∙ content.stype s;
      pieces = λ s. torn_facts (λ c. owns c.pieces) moved bytes (placed_by (places_of o) o) s owns-torn ∙ content.pieces s;
      out = λ s. torn_facts (λ c. c.home.out) moved bytes (placed_by (places_of o) o) s (λ b c. ap (λ (h : Home). h.out) (home-torn b c)) ∙ content.out s;
    }

pub torn_dirty : (moved : ℕ → Bool) (bytes : List ℕ) (q : Object) → is_dirty (torn_over moved bytes q) ≡ true
unfolding torn_over is_dirty
torn_dirty moved bytes q = refl

-- the image is at least as long as the base that counts
base_within : (o : Object) → is_dirty o ≡ true → o.layout ≡ true → length o.base ≤ image_length o
unfolding image_length places_of parts_places length_of
base_within o dirty lay =
    let grows = length_from-ge (length o.base) (standing (parts_of o) o.layout) in
    let same : (if is_dirty o then length_from (if o.layout then length o.base else 0) (standing (parts_of o) o.layout) else length o.base) ≡ length_from (length o.base) (standing (parts_of o) o.layout) =
    ap (λ (b : Bool). if b then length_from (if o.layout then length o.base else 0) (standing (parts_of o) o.layout) else length o.base) dirty
    ∙ ap (λ (b : Bool). length_from (if b then length o.base else 0) (standing (parts_of o) o.layout)) lay in
    omega arith

torn_base : (o : Object) (bytes : List ℕ) → is_dirty o ≡ true → IsTornImage o bytes → o.layout ≡ true → length bytes ≡ length o.base
torn_base o bytes dirty is lay =
    let whole = length-image o in
    let within = base_within o dirty lay in
    ⊎_elim (λ len. len) (λ len. omega arith) is.len

-- where no part stands, the torn base has the byte that the base had
pub image_uncovered : (o : Object) (k : ℕ) → is_dirty o ≡ true → k < image_length o → is_covered (part_blocks (placed o)) k ≡ false → get_or (image o) k 0 ≡ uncovered_byte o k
image_uncovered o k dirty h none =
    ap (λ (l : List ℕ). get_or l k 0) (image-dirty o dirty)
    ∙ get_or-spread (image_length o) (uncovered_byte o) (part_blocks (placed o)) k h
    ∙ byte_over-uncovered (uncovered_byte o) (part_blocks (placed o)) k none

torn_uncovered : (o : Object) (moved : ℕ → Bool) (bytes : List ℕ) (k : ℕ) → is_dirty o ≡ true → IsTornImage o bytes → k < image_length o → is_covered (part_blocks (placed o)) k ≡ false → uncovered_byte (torn_over moved bytes (placed_by (places_of o) o)) k ≡ uncovered_byte o k
unfolding uncovered_byte kept_base torn_over placed_by
torn_uncovered o moved bytes k dirty is h none = by_test o.layout refl
  where
    by_test : (b : Bool) → o.layout ≡ b → (if nat_lt k (if o.layout then length bytes else 0) then get_or bytes k 0 else o.fill) ≡ (if nat_lt k (if o.layout then length o.base else 0) then get_or o.base k 0 else o.fill)
    by_test false plain = let none_below : nat_lt k 0 ≡ false = le-ltb k 0 (omega arith) in rw (plain, none_below) refl
    by_test true lay =
        let len = torn_base o bytes dirty is lay in
        let image_byte = image_uncovered o k dirty h none in
        rw (lay, len) (in_base (nat_lt k (length o.base)) refl len image_byte)
      where
        in_base : (b : Bool) → nat_lt k (length o.base) ≡ b → length bytes ≡ length o.base → get_or (image o) k 0 ≡ uncovered_byte o k → (if b then get_or bytes k 0 else o.fill) ≡ (if b then get_or o.base k 0 else o.fill)
        in_base false e len same = refl
        in_base true e len same =
            let below = ltb-true k (length o.base) e in
            ⊎_elim (λ old. old) (λ new. new ∙ same ∙ rw (lay, e) refl) (is.each k (omega arith))

-- a torn object is not refused and has the same image
pub torn_law : (o : Object) → TornLaw o
unfolding torn_over
torn_law o bytes ok dirty passed is =
    let t = torn_over (is_moved o) bytes (placed_by (places_of o) o) in
    let same = torn-is o bytes dirty in
    let front = torn_front o (is_moved o) bytes in
    let marked = torn_dirty (is_moved o) bytes (placed_by (places_of o) o) in
    let base = torn_base o bytes dirty is in (
      ap refusal same ∙ refusal_again (torn_over (is_moved o) bytes (placed_by (places_of o) o)) o marked dirty front (torn_content o (is_moved o) bytes) base ∙ passed,
      ap image same ∙ image-again (torn_over (is_moved o) bytes (placed_by (places_of o) o)) o front (record {
        dirty = marked;
        other_dirty = dirty;
        base = base;
        bytes = λ k h none. torn_uncovered o (is_moved o) bytes k dirty is h none;
      }),
    )
