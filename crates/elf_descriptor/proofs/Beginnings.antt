-- What the front of an image begins.
use Rattle.std.proofs.Common.{◌≡◌, ℕ, zero, suc, ◌+◌, ◌-◌, ◌^◌, ◌<◌, ◌≤◌, Bool, true, false, List, [], ◌∷◌, length, map, take, drop, Option, Some, None, Ok, refl, sym, ap, ◌∙◌, subst, arith, lit<}
use Rattle.std.specs.Prelude.{IfSome, IsSome, is_some, slice_get, if◌then◌else◌}
use Rattle.std.specs.List.{enumerate_from}
use Rattle.std.proofs.Math.ListN.{replicate}
use Rattle.std.proofs.lemmas.List.{length-map, length-replicate, drop-replicate, take-replicate}
use Rattle.std.proofs.lemmas.List.FromFn.{length-enumerate_from}
use Rattle.std.proofs.lemmas.List.Elements.{All-replicate}
use Rattle.elf_types.specs.declared.constants.TheConstants.{MAX_IMAGE}
use Rattle.elf_types.specs.declared.records.Class.{Class}
use Rattle.elf_types.specs.declared.records.Order.{Order}
use Rattle.elf_types.specs.declared.records.Shdr.{Shdr}
use Rattle.elf_types.specs.declared.records.Ehdr.{Ehdr}
use Rattle.section_table.specs.elf_xlate.Headers.{HasNarrowCounts, ehdr_fits}
use Rattle.section_table.specs.elf_outside.declared.sources.Source.{Ghosts}
use Rattle.section_table.specs.elf_ident.declared.fronts.Front.{Front}
use Rattle.section_table.specs.elf_ident.Reading.{IsFittingFront, IsCounted}
use Rattle.section_table.specs.elf_object.Object.{Object, Section, Home, home_piece}
use Rattle.section_table.specs.elf_object.Open.{standing_header, begun, opened, opened_section, home_of, home_bytes}
use Rattle.elf_types.specs.Lists.{AreBytes}
use Rattle.law_object.specs.Laws.{BegunFits, BeginningsAreTied}
use Rattle.law_object.specs.Writing.Based.{BeginningsAreBased}
use Rattle.section_table.specs.section_data.Views.{CellView, opened_cell}
use Rattle.section_table.specs.section_data.Held.{cell_is_loaded}
use Rattle.section_table.specs.section_data.Leaves.{LiesIn}
use Rattle.section_table.proofs.section_data.Loading.{opened_lies}
use Rattle.section_table.specs.Sections.{SectionView as Scn, opened_scn, opened_scns}
use Rattle.elf_descriptor.specs.declared.body.Body.{Body}
use Rattle.elf_descriptor.specs.declared.body.Base.{Base}
use Rattle.elf_descriptor.specs.declared.body.Base.TheVariants as bases
use Rattle.elf_descriptor.proofs.Objects.{whole_source}
use Rattle.elf_descriptor.specs.State.{State}
use Rattle.elf_descriptor.specs.Views.{object_of, section_of, raw_of, loaded_of, held_of, state_of, source_bytes, ready_of, room_of}
use Rattle.elf_descriptor.specs.Sound.{CellIn, IsSound, IsElf, IsStanding, source_part}
use Rattle.elf_descriptor.specs.Begun.{opened_body, none_held, begun_state, IsOpened, BegunIsSound}

-- ---- The sections, one after another

-- those with these numbers from one on
abbrev scns_from : ℕ → ℕ → List Shdr → List Scn
scns_from size n headers = map (opened_scn size) (enumerate_from n headers)

-- ---- What they stand for

abbrev zeros : ℕ → List ℕ
zeros n = replicate n 0

-- so many zeros, from a place on in zeros
zeros_at : (at len size : ℕ) → (0 < len → at + len ≤ size) → take len (drop at (zeros size)) ≡ zeros len
zeros_at at zero size inside = refl
zeros_at at (suc n) size inside =
    let lies = inside (omega arith) in
    ap (λ (l : List ℕ). take (suc n) l) (drop-replicate at size 0) ∙ take-replicate (suc n) (size - at) 0 (omega arith)

-- of a source that does not tell its bytes an unread home has those of so many zeros
raw_zeros : (c : CellView) (size : ℕ) → c.raw ≡ None → LiesIn c size → raw_of None c ≡ home_bytes c.home (replicate size 0)
unfolding raw_of home_bytes
raw_zeros c size unread lies = by_out c.home.out refl
  where
    by_out : (out : Bool) → c.home.out ≡ out → (if out then [] else zeros c.home.len) ≡ (if out then [] else take c.home.len (drop c.home.at (zeros size)))
    by_out true is = refl
    by_out false is = sym (zeros_at c.home.at c.home.len size (λ some. lies (ap (λ (r : Option (List ℕ)). is_some r) unread) is some))

abbrev section_with : Shdr → Home → List ℕ → Section
section_with h home raw = record { header = h; home = home; raw = raw; pieces = home_piece ∷ []; marked = false }

section_begun : (image : Option (List ℕ)) (size i : ℕ) (h : Shdr) → IfSome image (λ bytes. length bytes ≡ size)
    → section_of image (opened_scn size (i, h)) ≡ opened_section (source_bytes image size) h
unfolding section_of opened_section raw_of
section_begun None size i h long =
    ap (section_with h (home_of size h)) (raw_zeros (opened_cell i (home_of size h)) size refl (opened_lies i size h))
    ∙ ap (λ (n : ℕ). section_with h (home_of n h) (home_bytes (home_of n h) (replicate size 0))) (sym (length-replicate size 0))
section_begun (Some bytes) size i h long = ap (λ (n : ℕ). section_with h (home_of n h) (home_bytes (home_of n h) bytes)) (sym long)

sections_begun : (image : Option (List ℕ)) (size n : ℕ) (headers : List Shdr) → IfSome image (λ bytes. length bytes ≡ size)
    → map (section_of image) (scns_from size n headers) ≡ map (opened_section (source_bytes image size)) headers
sections_begun image size n [] long = refl
sections_begun image size n (h ∷ headers) long =
    ap (λ (c : Section). c ∷ map (section_of image) (scns_from size (n + 1) headers)) (section_begun image size n h long)
    ∙ ap (λ (l : List Section). opened_section (source_bytes image size) h ∷ l) (sections_begun image size (n + 1) headers long)

abbrev object_with : Front → List ℕ → List Section → Object
object_with f image sections = record (begun f image) { sections = sections }

object_begun : (f : Front) (size : ℕ) (v : List Scn) → v ≡ opened_scns size f.shdrs
    → (image : Option (List ℕ)) → IfSome image (λ bytes. length bytes ≡ size) → object_of image size (opened_body size f v) ≡ begun f (source_bytes image size)
unfolding object_of opened_body opened_scns begun
object_begun f size v items image long =
    ap (λ (l : List ℕ). object_with f l (map (section_of image) v)) (whole_source image size long)
    ∙ ap (λ (l : List Scn). object_with f (source_bytes image size) (map (section_of image) l)) items
    ∙ ap (λ (l : List Section). object_with f (source_bytes image size) l) (sections_begun image size 0 f.shdrs long)

-- ---- What is true of each

cells_in : (class : Class) (order : Order) (size n : ℕ) (headers : List Shdr) (i : ℕ) (s : Scn) → slice_get (scns_from size n headers) i ≡ Some s → CellIn class order (bases.Source size) (n + i) s
cells_in class order size n [] i s at = cc
cells_in class order size n (h ∷ headers) zero s at =
    let same : opened_scn size (n, h) ≡ s = cc in
    subst (λ (t : Scn). CellIn class order (bases.Source size) (n + 0) t) same (record { number = omega arith; lies = opened_lies n size h; empty = λ none. cc; items = tt {0} })
cells_in class order size n (h ∷ headers) (suc i) s at =
    let same : n + 1 + i ≡ n + suc i = omega arith in
    subst (λ (k : ℕ). CellIn class order (bases.Source size) k s) same (cells_in class order size (n + 1) headers i s at)

cells_opened : (class : Class) (order : Order) (size : ℕ) (headers : List Shdr) (scns : List Scn) → scns ≡ opened_scns size headers
    → (i : ℕ) (s : Scn) → slice_get scns i ≡ Some s → CellIn class order (bases.Source size) i s
unfolding opened_scns
cells_opened class order size headers scns is i s at =
    let same : 0 + i ≡ i = omega arith in
    subst (λ (k : ℕ). CellIn class order (bases.Source size) k s) same (cells_in class order size 0 headers i s (ap (λ (l : List Scn). slice_get l i) (sym is) ∙ at))

none_loaded : (size n : ℕ) (headers : List Shdr) → map (λ s. cell_is_loaded s.cell) (scns_from size n headers) ≡ none_held headers
none_loaded size n [] = refl
none_loaded size n (h ∷ headers) = ap (λ (l : List Bool). false ∷ l) (none_loaded size (n + 1) headers)

none_translated : (size n : ℕ) (headers : List Shdr) → map (λ s. is_some s.cell.held) (scns_from size n headers) ≡ none_held headers
none_translated size n [] = refl
none_translated size n (h ∷ headers) = ap (λ (l : List Bool). false ∷ l) (none_translated size (n + 1) headers)

none_aside : (size n : ℕ) (headers : List Shdr) → map (λ s. s.cell.room) (scns_from size n headers) ≡ none_held headers
none_aside size n [] = refl
none_aside size n (h ∷ headers) = ap (λ (l : List Bool). false ∷ l) (none_aside size (n + 1) headers)

length_from : (size n : ℕ) (headers : List Shdr) → length (scns_from size n headers) ≡ length headers
length_from size n headers = length-map (enumerate_from n headers) (opened_scn size) ∙ length-enumerate_from n headers

-- the front stands in the image as it was read, with the counts as they stand
front_stands : (f : Front) → HasNarrowCounts (standing_header f) → IsFittingFront f
    → IsStanding f.ehdr.class f.ehdr.order (record { header = standing_header f; pad = f.pad; phdrs = f.phdrs; shdrs = f.shdrs })
unfolding standing_header ehdr_fits
front_stands f narrow fitting = record {
  class_is = refl;
  order_is = refl;
  header = record {
    range = record {
      osabi = fitting.header.osabi;
      abiversion = fitting.header.abiversion;
      etype = fitting.header.etype;
      machine = fitting.header.machine;
      version = fitting.header.version;
      entry = fitting.header.entry;
      phoff = fitting.header.phoff;
      shoff = fitting.header.shoff;
      flags = fitting.header.flags;
      ehsize = fitting.header.ehsize;
      phentsize = fitting.header.phentsize;
      phnum = omega (arith, narrow.phnum);
      shentsize = fitting.header.shentsize;
      shnum = omega (arith, narrow.shnum);
      shstrndx = omega (arith, narrow.shstrndx);
    };
    fitting = fitting.fitting;
    narrow = narrow;
    pad_size = fitting.pad;
    pad_bytes = fitting.pad_bytes;
  };
  phdrs = record { counted = refl; range = fitting.phdrs; fitting = fitting.fitting_phdrs };
  shdrs = record { counted = refl; range = fitting.shdrs; fitting = fitting.fitting_shdrs };
}

opened_is : (f : Front) (size : ℕ) (v : List Scn) → IsCounted f
    → HasNarrowCounts (standing_header f) → v ≡ opened_scns size f.shdrs
    → IsOpened f size (opened_body size f v)
unfolding opened_body opened_scns loaded_of held_of room_of
opened_is f size v counted narrow items = record {
  object = object_begun f size v items;
  counts = record {
    phnum = sym counted.phnum;
    shnum = sym counted.shnum ∙ sym (length_from size 0 f.shdrs) ∙ ap (λ (l : List Scn). length l) (sym items);
  };
  cells = cells_opened f.ehdr.class f.ehdr.order size f.shdrs v items;
  loaded = ap (λ (l : List Scn). map (λ s. cell_is_loaded s.cell) l) items ∙ none_loaded size 0 f.shdrs;
  held = ap (λ (l : List Scn). map (λ s. is_some s.cell.held) l) items ∙ none_translated size 0 f.shdrs;
  room = ap (λ (l : List Scn). map (λ s. s.cell.room) l) items ∙ none_aside size 0 f.shdrs;
  base = refl;
  written = λ fitting. front_stands f narrow fitting;
  ready = refl;
  header = refl;
}

pub is_opened : (f : Front) (size : ℕ) (v : List Scn) (b : Body) → IsCounted f
    → HasNarrowCounts (standing_header f) → v ≡ opened_scns size f.shdrs → b ≡ opened_body size f v
    → IsOpened f size b
is_opened f size v b counted narrow items is = subst (λ (c : Body). IsOpened f size c) (sym is) (opened_is f size v counted narrow items)

-- ---- What makes it an object

below : (size : ℕ) → size ≤ MAX_IMAGE → size < 2 ^ 64
below size small = omega (arith, small)

no_bytes : IsSome {T = List ℕ} None → ⊥
no_bytes told = cc

pub begun_is_sound : BegunFits → BeginningsAreTied → BeginningsAreBased → BegunIsSound
begun_is_sound fits tied based f None size fitting counted small long are is =
    let len = length-replicate {A = ℕ} size 0 in
    record {
      object = fits f (replicate size 0) fitting counted (All-replicate (λ n. n < 2 ^ 8) size 0 (lit< tt)) (subst (λ (n : ℕ). n < 2 ^ 64) (sym len) (below size small));
      tied = λ told. absurd (no_bytes told);
      based = λ told. absurd (no_bytes told);
    }
begun_is_sound fits tied based f (Some bytes) size fitting counted small long are is = record {
  object = fits f bytes fitting counted are (subst (λ (n : ℕ). n < 2 ^ 64) (sym long) (below size small));
  tied = λ told. tied.from_image bytes (begun f bytes) is;
  based = λ told. based.from_image bytes (begun f bytes) are is;
}

-- ---- The descriptor over it

-- it is what each descriptor is
pub begun_is_elf : BegunIsSound → (f : Front) (image : Option (List ℕ)) (size len : ℕ) (b : Body) → IsFittingFront f → IsCounted f → size ≤ MAX_IMAGE
    → IfSome image (λ bytes. length bytes ≡ size) → IfSome image AreBytes → IfSome image (λ bytes. opened bytes ≡ Ok (begun f bytes))
    → len ≡ size → IsOpened f len b → IsElf image size b
begun_is_elf sound f image size len b fitting counted small long are is same opened =
    let begins : IsOpened f size b = subst (λ (n : ℕ). IsOpened f n b) same opened in
    record {
      long = long;
      within = subst (λ (base : Base). source_part base ≤ size) (sym begins.base) (omega arith);
      whole = λ h. begins.base;
      counts = begins.counts;
      cells = begins.cells;
      written = subst (λ (h : Ehdr). IfSome b.written (IsStanding h.class h.order)) (sym begins.header) (begins.written fitting);
      sound = subst (λ (o : Object). IsSound image o) (sym (begins.object image long)) (sound f image size fitting counted small long are is);
    }

abbrev state_with : {S : Type 0} → Ghosts S → S → Object → List Bool → List Bool → List Bool → Bool → State S
state_with g source o loaded held room ready =
    record { o = o; told = is_some (g.holds source); loaded = loaded; held = held; room = room; ready = ready; source = source }

pub state_begun : {S : Type 0} (g : Ghosts S) (f : Front) (source : S) (len : ℕ) (b : Body) → IfSome (g.holds source) (λ bytes. length bytes ≡ g.size source)
    → len ≡ g.size source → IsOpened f len b → state_of g source b ≡ begun_state g f source
unfolding begun_state
state_begun g f source len b long same opened =
    let begins : IsOpened f (g.size source) b = subst (λ (n : ℕ). IsOpened f n b) same opened in
    let o = begun f (source_bytes (g.holds source) (g.size source)) in
    ap (λ (p : Object). state_with g source p (loaded_of b) (held_of b) (room_of b) (ready_of b)) (begins.object (g.holds source) long)
    ∙ ap (λ (l : List Bool). state_with g source o l (held_of b) (room_of b) (ready_of b)) begins.loaded
    ∙ ap (λ (l : List Bool). state_with g source o (none_held f.shdrs) l (room_of b) (ready_of b)) begins.held
    ∙ ap (λ (l : List Bool). state_with g source o (none_held f.shdrs) (none_held f.shdrs) l (ready_of b)) begins.room
    ∙ ap (λ (r : Bool). state_with g source o (none_held f.shdrs) (none_held f.shdrs) (none_held f.shdrs) r) begins.ready
