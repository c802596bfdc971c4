-- What copy writes, opened again, and its sections.
use Rattle.std.proofs.Common.{◌≡◌, ℕ, ◌<◌, Bool, true, false, List, [], ◌∷◌, length, Option, Some, None, Ok, refl, sym, ap, ◌∙◌, arith}
use Rattle.std.specs.Prelude.{if◌then◌else◌, ◌==◌, ◌||◌, map}
use Rattle.std.specs.List.{enumerate_from}
use Rattle.std.proofs.lemmas.Bool.{or_left, or_right, ne_eqb}
use Rattle.std.proofs.lemmas.List.{length-map}
use Rattle.std.proofs.lemmas.List.FromFn.{length-enumerate_from}
use Rattle.elf_types.specs.declared.records.Shdr.{Shdr}
use Rattle.law_object.specs.elf_xlate.declared.content.Items.{Items}
use Rattle.law_object.specs.elf_xlate.Translation.{encoded}
use Rattle.elf_layout.specs.declared.parts.Places.{Places}
use Rattle.law_object.specs.elf_object.Blocks.{stacked, last_end, spread}
use Rattle.law_object.specs.elf_object.Object.{Object, Section, Piece, section_at, header_of, occupies_file, is_null, is_dirty, some_section_marked}
use Rattle.law_object.specs.elf_object.Open.{home_len, opened, created_over}
use Rattle.law_object.specs.elf_object.Joined.{piece_bytes, aligned_pieces, piece_blocks, pieces_end, file_bytes}
use Rattle.law_object.specs.elf_object.Derived.{where_any, derived_header, numbered_shdr}
use Rattle.law_object.specs.elf_object.Layout.{places_of, placed_header, placed_shdr, placed_by, section_place}
use Rattle.law_object.specs.elf_object.Image.{image}
use Rattle.law_object.specs.elf_object.Settled.{settled_section, settled_over, settle}
use Rattle.law_object.specs.elf_object.Steps.{own_piece, with_ehdr, with_phdrs, stored_ehdr}
use Rattle.law_object.specs.elf_object.Valid.{as_opened}
use Rattle.law_object.proofs.elf_object.SettledSections.{section_at-settled}
use Rattle.law_object.proofs.ImageLaws.{section_at-placed, placed-dirty}
use Rattle.law_object.proofs.ItemLaws.{alone_spread}
use Rattle.law_object.proofs.SettledLaws.{settle-dirty, section_extent}
use Rattle.law_object.proofs.StandLaws.{where_some, section_count-placed, joined-placed, file_bytes_when}
use Rattle.law_object.proofs.AgainLaws.{placed_section_header}
use Rattle.law_object.specs.elf_object.Sections.{header_at}
use Rattle.rebuild_model.specs.Arranged.{over_base}
use Rattle.rebuild_model.specs.Rebuilt.{rebuilt_object, rebuilt_index, rebuilt_sections, rebuilt_tail, assembled}
use Rattle.rebuild_model.specs.KeepingLaws.{without_places}
use Rattle.law_rebuild.proofs.copy.SameItems.{opened_inside}

-- ---- The object before its places are given

-- what is made of an object, but for its sections
pub record HasFrontAnew (o : Object) (removed : List ℕ) (r : Object) : Type 0 where
  pub class : r.header.class ≡ o.header.class
  pub order : r.header.order ≡ o.header.order
  pub index : r.header.shstrndx ≡ rebuilt_index o removed
  pub phdrs : r.phdrs ≡ o.phdrs
  pub marked : r.header_marked ≡ true
  pub sections : r.sections ≡ rebuilt_sections o removed

pub front_is : (o : Object) (removed : List ℕ) → HasFrontAnew o removed (rebuilt_object o removed)
unfolding rebuilt_object assembled with_ehdr with_phdrs stored_ehdr over_base created_over
front_is o removed = by_tail (rebuilt_tail o removed)
  where
    by_tail : (t : Option ℕ) → HasFrontAnew o removed
        (assembled (over_base o t) o (rebuilt_index o removed) (rebuilt_sections o removed))
    by_tail None = record {
      class = refl;
      order = refl;
      index = refl;
      phdrs = refl;
      marked = refl;
      sections = refl;
    }
    by_tail (Some tail) = record {
      class = refl;
      order = refl;
      index = refl;
      phdrs = refl;
      marked = refl;
      sections = refl;
    }

-- ---- What is marked

pub marked_dirty : (o : Object) → o.header_marked ≡ true → is_dirty o ≡ true
unfolding is_dirty
marked_dirty o marked =
    or_left (o.marked || o.header_marked || o.segments_marked) (some_section_marked o)
    (or_left (o.marked || o.header_marked) o.segments_marked
    (or_right o.marked o.header_marked marked))

-- ---- The image, opened again

-- a section of it
pub record IsWrittenAgain (m after : Object) (s : ℕ) : Type 0 where
  pub header : header_at after s ≡ placed_shdr (places_of m) m s (header_at m s)
  pub raw : (section_at after s).raw ≡ file_bytes m s

at_opened : (o : Object) (s : ℕ) → section_at (as_opened o) s ≡ section_at o s
unfolding section_at
at_opened o s = refl

pub reopened_at : (m after : Object) (s : ℕ) → after ≡ as_opened (settle m)
    → m.header_marked ≡ true → s < length m.sections → IsWrittenAgain m after s
unfolding settled_section
reopened_at m after s is marked below =
    let dirty = marked_dirty m marked in
    let q = placed_by (places_of m) m in
    let count = section_count-placed (places_of m) m in
    let small : s < length q.sections = omega (arith, below, count) in
    let at : section_at after s
    ≡ settled_section (length (image m)) (file_bytes q s) (section_at q s).header =
    ap (λ (x : Object). section_at x s) is
    ∙ at_opened (settle m) s
    ∙ ap (λ (x : Object). section_at x s) (settle-dirty m dirty)
    ∙ ap (λ (x : Object). section_at (settled_over (image m) x) s) (placed-dirty m dirty)
    ∙ section_at-settled (image m) q s small in
    record {
      header = ap (λ (c : Section). c.header) at
          ∙ ap (λ (c : Section). c.header) (section_at-placed (places_of m) m s below)
          ∙ placed_section_header (places_of m) m s (section_at m s);
      raw = ap (λ (c : Section). c.raw) at ∙ joined-placed (places_of m) m s;
    }

-- ---- Its front

index_settled : (bytes : List ℕ) (m : Object)
    → (settled_over bytes (placed_by (places_of m) m)).header.shstrndx
    ≡ where_any (length m.sections) m.header.shstrndx
unfolding settled_over placed_by placed_header derived_header header_of
index_settled bytes m = refl

count_settled : (bytes : List ℕ) (q : Object)
    → length (settled_over bytes q).sections ≡ length q.sections
unfolding settled_over
count_settled bytes q =
    length-map (enumerate_from 0 q.sections)
    (λ row. settled_section (length bytes) (file_bytes q row.0) row.1.header)
    ∙ length-enumerate_from 0 q.sections

pub reopened_index : (m after : Object) → after ≡ as_opened (settle m) → m.header_marked ≡ true
    → 0 < length m.sections
    → (after.header.shstrndx ≡ m.header.shstrndx) × (length after.sections ≡ length m.sections)
reopened_index m after is marked some =
    let dirty = marked_dirty m marked in
    let over : settle m ≡ settled_over (image m) (placed_by (places_of m) m) =
    settle-dirty m dirty
    ∙ ap (λ (q : Object). settled_over (image m) q) (placed-dirty m dirty) in (
      ap (λ (q : Object). q.header.shstrndx) is
          ∙ ap (λ (q : Object). q.header.shstrndx) over
          ∙ index_settled (image m) m
          ∙ where_some (length m.sections) m.header.shstrndx some,
      ap (λ (q : Object). length q.sections) is
          ∙ ap (λ (q : Object). length q.sections) over
          ∙ count_settled (image m) (placed_by (places_of m) m)
          ∙ section_count-placed (places_of m) m,
    )

-- ---- Its headers

-- the place of a name
pub placed_name : (places : Places) (m : Object) (s : ℕ) (h : Shdr)
    → (placed_shdr places m s h).name ≡ h.name
unfolding placed_shdr numbered_shdr
placed_name places m s h = by_tests (s == 0) (is_null h) (occupies_file h)
  where
    by_tests : (first empty filled : Bool) → (if first then numbered_shdr (placed_header places m) h
        else (if empty then h else (record h {
          offset = section_place places s;
          size = if filled then length (file_bytes m s) else h.size;
        }))).name ≡ h.name
    by_tests true empty filled = refl
    by_tests false true filled = refl
    by_tests false false filled = refl

-- a section of it lies in the file
pub reopened_inside : (m after : Object) (out : List ℕ) (s : ℕ) → opened out ≡ Ok after
    → IsWrittenAgain m after s → s < length after.sections → s < length m.sections → 0 < s
    → (section_at after s).home.out ≡ false
reopened_inside m after out s e again in_after below from =
    let header : header_at after s ≡ header_at (placed_by (places_of m) m) s =
    again.header
    ∙ sym (ap (λ (c : Section). c.header) (section_at-placed (places_of m) m s below)
    ∙ placed_section_header (places_of m) m s (section_at m s)) in
    let extent = section_extent m s below (ne_eqb s 0 (λ none. omega (arith, from, none))) in
    opened_inside out after s e in_after
    (ap length (again.raw ∙ sym (joined-placed (places_of m) m s))
    ∙ sym extent ∙ sym (ap home_len header))

-- its header has the size of its bytes
pub shdr_kept : (places : Places) (m : Object) (s : ℕ) (h : Shdr) → 0 < s
    → (occupies_file h ≡ true → length (file_bytes m s) ≡ h.size)
    → without_places (placed_shdr places m s h) ≡ without_places h
unfolding placed_shdr
shdr_kept places m s h from size =
    by_tests (s == 0) (is_null h) (occupies_file h)
    (ne_eqb s 0 (λ none. omega (arith, from, none))) size
  where
    by_tests : (first empty filled : Bool) → first ≡ false
        → (filled ≡ true → length (file_bytes m s) ≡ h.size)
        → without_places (if first then numbered_shdr (placed_header places m) h
        else (if empty then h else (record h {
          offset = section_place places s;
          size = if filled then length (file_bytes m s) else h.size;
        }))) ≡ without_places h
    by_tests true empty filled e k = cc
    by_tests false true filled e k = refl
    by_tests false false true e k =
        ap (λ (n : ℕ). without_places (record h { size = n })) (k refl)
    by_tests false false false e k = refl

-- ---- The bytes of one own piece

pub piece_bytes_are : (q : Object) (s : ℕ) (own : Items)
    → (section_at q s).pieces ≡ own_piece own 1 ∷ [] → 0 < s
    → occupies_file (header_at q s) ≡ true
    → file_bytes q s ≡ encoded q.header.class q.header.order own
unfolding file_bytes pieces_end piece_blocks aligned_pieces piece_bytes
piece_bytes_are q s own pieces from filled =
    let class = q.header.class in
    let order = q.header.order in
    let bytes : Piece → ℕ × List ℕ = λ p. (
      p.align,
      elim (p.own) [
        | None ↦ (section_at q s).raw
        | Some l ↦ encoded q.header.class q.header.order l
      ],
    ) in
    ap (λ (b : Bool). if b
    then spread (pieces_end q s) (λ _. q.fill) (piece_blocks q s)
    else []) (file_bytes_when s (section_at q s) from ∙ filled)
    ∙ ap (λ (ps : List Piece).
    spread (last_end 0 (stacked 0 (map bytes ps))) (λ _. q.fill) (stacked 0 (map bytes ps))) pieces
    ∙ alone_spread 1 (encoded q.header.class q.header.order own) q.fill
