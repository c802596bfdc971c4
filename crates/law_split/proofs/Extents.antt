-- Where the parts of an object that was made anew stand: an allocated section at its place in the
-- image, and what is placed from a tail on in order.
use Rattle.std.proofs.Common.{◌≡◌, ℕ, ◌+◌, ◌-◌, ◌*◌, ◌<◌, Bool, true, false, List, [], ◌∷◌, ◌++◌, length, get_or, Option, Some, None, refl, sym, ap, ◌∙◌, arith, ⊎_elim}
use Rattle.std.specs.Prelude.{nat_eq, slice_index, if◌then◌else◌, ◌==◌, map}
use Rattle.std.specs.List.{position, enumerate_from}
use Rattle.std.specs.Option.{option_map}
use Rattle.std.proofs.lemmas.Bool.{eqb-true, ne_eqb, cases_lt}
use Rattle.std.proofs.lemmas.List.{length-append, length-map, get_or-map, get_or_append_left, get_or-append_right}
use Rattle.std.proofs.lemmas.List.Quantifiers.{position-Some}
use Rattle.elf_types.specs.Lists.{AreBytes}
use Rattle.elf_types.specs.declared.records.Part.TheVariants as part
use Rattle.elf_types.specs.declared.records.Class.{Class}
use Rattle.elf_types.specs.declared.records.Shdr.{Shdr}
use Rattle.elf_xlate.specs.declared.content.Items.TheVariants as items
use Rattle.elf_xlate.specs.Headers.{shdr_size}
use Rattle.elf_layout.specs.declared.parts.PartAt.{PartAt}
use Rattle.elf_layout.specs.Layout.{in_order_from, positions}
use Rattle.elf_object.specs.Object.{Object, Section, section_at, occupies_file}
use Rattle.elf_object.specs.Joined.{file_bytes}
use Rattle.elf_object.specs.Layout.{section_part, table_part}
use Rattle.elf_object.specs.Steps.{stored_ehdr, with_ehdr}
use Rattle.law_rebuild.proofs.law_object.ImageLaws.{joined-none}
use Rattle.law_rebuild.proofs.law_object.PlaceLaws.{in_order}
use Rattle.law_rebuild.proofs.law_object.StandLaws.{file_bytes_when, length-in_order}
use Rattle.elf_object.specs.Sections.{is_allocated}
use Rattle.rebuild_model.specs.Arranged.{movable, table_parts, parts_from, place_from, table_place_from, section_from, placed_from}
use Rattle.law_rebuild.proofs.strip.MadeSections.{header_made, made_bytes, bytes_encoded, section_placed, section_moved}
use Rattle.law_split.proofs.Overlaps.{NoneShared, SameExtent, none_shared_back, ordered_at, ordered_as}
use Rattle.law_split.proofs.Placed.{IsMadeAs, placed_front}

-- ---- A section that was made with bytes

-- the bytes that it has in the file
abbrev pub bytes_in_file : Shdr → List ℕ → List ℕ
bytes_in_file h bytes = if occupies_file h then bytes else []

pub bytes_made : (keeps : Type 0) (x : Object) (s : ℕ) (h : Shdr) (bytes : List ℕ) → 0 < s
    → IsMadeAs keeps (section_at x s) h (items.Bytes bytes) → AreBytes bytes
    → file_bytes x s ≡ bytes_in_file h bytes
bytes_made keeps x s h bytes from made are = by_type (occupies_file h) refl
  where
    header : (section_at x s).header ≡ record h { offset = made.place }
    header = ap (λ (c : Section). c.header) made.is
        ∙ header_made (record h { offset = made.place }) (items.Bytes bytes)

    by_type : (b : Bool) → occupies_file h ≡ b
        → file_bytes x s ≡ (if b then bytes else [])
    by_type true e =
        made_bytes x s (record h { offset = made.place }) (items.Bytes bytes) made.is from e
        ∙ bytes_encoded x.header.class x.header.order bytes are
    by_type false e =
        joined-none x s (file_bytes_when s (section_at x s) from
        ∙ ap (λ (g : Shdr). occupies_file g) header ∙ e)

-- at a place
abbrev pub extent_at : ℕ → Shdr → List ℕ → PartAt
extent_at place h bytes = record {
  part = part.Table;
  at = place;
  len = length (bytes_in_file h bytes);
  align = 1;
  filled = occupies_file h;
}

pub extent_made : (keeps : Type 0) (x : Object) (s : ℕ) (h : Shdr) (bytes : List ℕ) → 0 < s
    → (made : IsMadeAs keeps (section_at x s) h (items.Bytes bytes)) → AreBytes bytes
    → SameExtent (section_part x s) (extent_at made.place h bytes)
unfolding section_part
extent_made keeps x s h bytes from made are =
    let header : (section_at x s).header ≡ record h { offset = made.place } =
    ap (λ (c : Section). c.header) made.is
    ∙ header_made (record h { offset = made.place }) (items.Bytes bytes) in
    record {
      at = ap (λ (g : Shdr). g.offset) header;
      len = ap length (bytes_made keeps x s h bytes from made are);
      filled = ap (λ (g : Shdr). occupies_file g) header;
    }

-- what is allocated, at the place of its header
pub extent_allocated : (keeps : Type 0) (x : Object) (s : ℕ) (h : Shdr) (bytes : List ℕ) → 0 < s
    → IsMadeAs keeps (section_at x s) h (items.Bytes bytes) → AreBytes bytes
    → keeps → is_allocated h ≡ true
    → SameExtent (section_part x s) (extent_at h.offset h bytes)
extent_allocated keeps x s h bytes from made are keep allocated =
    let same = extent_made keeps x s h bytes from made are in
    record {
      at = same.at ∙ made.stays keep allocated;
      len = same.len;
      filled = same.filled;
    }

-- ---- What is placed from a tail on

-- an index in the row of what is placed, and the number there
pub record IsPlacedAt (p : Object) (tail s i : ℕ) (place : ℕ) : Type 0 where
  pub inside : i < length (movable p)
  pub number : get_or (movable p) i 0 ≡ s
  pub at : place ≡ get_or (positions (parts_from p tail)) i 0

pub placed_index : (p : Object) (tail s place : ℕ) → place_from p tail s ≡ Some place
    → (i : ℕ) × IsPlacedAt p tail s i place
unfolding place_from
placed_index p tail s place is = by_found (position (nat_eq s) (movable p)) refl is
  where
    by_found : (found : Option ℕ) → position (nat_eq s) (movable p) ≡ found
        → option_map (slice_index (positions (parts_from p tail))) found ≡ Some place
        → (i : ℕ) × IsPlacedAt p tail s i place
    by_found None e h = cc
    by_found (Some i) e h =
        let stands = position-Some (nat_eq s) (movable p) i 0 e in
        let same : get_or (positions (parts_from p tail)) i 0 ≡ place = cc in (
          i,
          record {
            inside = stands.0;
            number = sym (eqb-true s (get_or (movable p) i 0) stands.1);
            at = sym same;
          },
        )

-- the row of what is placed
abbrev pub tail_row : Object → List PartAt
tail_row p = map (section_part p) (movable p) ++ table_parts p

row_long : (p : Object) → 0 < length p.sections
    → length (tail_row p) ≡ length (movable p) + 1
row_long p some =
    let any : (length p.sections == 0) ≡ false =
    ne_eqb (length p.sections) 0 (λ none. omega (arith, some, none)) in
    length-append (map (section_part p) (movable p)) (table_parts p)
    ∙ ap (λ (n : ℕ). n + length (table_parts p)) (length-map (movable p) (section_part p))
    ∙ ap (λ (b : Bool). length (movable p) + length (if b then [] else table_part p ∷ [])) any

row_section : (p : Object) (i : ℕ) (d : PartAt) → i < length (movable p)
    → get_or (tail_row p) i d ≡ section_part p (get_or (movable p) i 0)
row_section p i d inside =
    get_or_append_left (map (section_part p) (movable p)) (table_parts p) d i
    (omega (arith, inside, length-map (movable p) (section_part p)))
    ∙ get_or-map (section_part p) (movable p) i 0 d inside

row_table : (p : Object) (d : PartAt) → 0 < length p.sections
    → get_or (tail_row p) (length (movable p)) d ≡ table_part p
row_table p d some =
    let any : (length p.sections == 0) ≡ false =
    ne_eqb (length p.sections) 0 (λ none. omega (arith, some, none)) in
    let long = length-map (movable p) (section_part p) in
    let none : length (movable p) - length (movable p) ≡ 0 = omega arith in
    get_or-append_right (map (section_part p) (movable p)) (table_parts p) (length (movable p))
    (length (movable p)) d long (omega arith)
    ∙ ap (λ (k : ℕ). get_or (table_parts p) k d) none
    ∙ ap (λ (b : Bool). get_or (if b then [] else table_part p ∷ []) 0 d) any

-- the place of a part in the row
row_place : (p : Object) (tail i : ℕ) (d : PartAt) → i < length (tail_row p)
    → get_or (positions (parts_from p tail)) i 0 ≡ (get_or (in_order_from tail (tail_row p)) i d).at
unfolding positions parts_from
row_place p tail i d inside =
    get_or-map (λ (q : PartAt). q.at) (in_order_from tail (tail_row p)) i d 0
    (omega (arith, inside, length-in_order tail (tail_row p)))

-- a section that is placed
pub extent_moved : (keeps : Type 0) (p : Object) (tail s i place : ℕ) (h : Shdr) (bytes : List ℕ)
    (d : PartAt) → 0 < s → s < length p.sections
    → place_from p tail s ≡ Some place → IsPlacedAt p tail s i place
    → IsMadeAs keeps (section_at p s) h (items.Bytes bytes)
    → IsMadeAs keeps (section_at (placed_from p tail) s) h (items.Bytes bytes) → AreBytes bytes
    → SameExtent (section_part (placed_from p tail) s)
    (get_or (in_order_from tail (tail_row p)) i d)
unfolding section_part
extent_moved keeps p tail s i place h bytes d from below moved row made again are =
    let some : 0 < length p.sections = omega (arith, below) in
    let inside : i < length (tail_row p) = omega (arith, row.inside, row_long p some) in
    let part : get_or (tail_row p) i d ≡ section_part p s =
    row_section p i d row.inside ∙ ap (section_part p) row.number in
    let kept = ordered_as tail (tail_row p) i d inside in
    let here = extent_made keeps p s h bytes from made are in
    let there = extent_made keeps (placed_from p tail) s h bytes from again are in
    record {
      at = ap (λ (c : Section). c.header.offset) (section_placed p tail s below)
          ∙ section_moved p tail s place (section_at p s) moved
          ∙ row.at
          ∙ row_place p tail i d inside;
      len = there.len ∙ sym here.len ∙ sym (ap (λ (q : PartAt). q.len) part) ∙ sym kept.0;
      filled = there.filled ∙ sym here.filled ∙ sym (ap (λ (q : PartAt). q.filled) part)
          ∙ sym kept.1;
    }

-- the section header table
pub table_stored : (p : Object) (tail : ℕ) → 0 < length p.sections
    → (placed_from p tail).header.shoff ≡ table_place_from p tail
unfolding placed_from with_ehdr stored_ehdr
table_stored p tail some =
    let any : (length p.sections == 0) ≡ false =
    ne_eqb (length p.sections) 0 (λ none. omega (arith, some, none)) in
    ap (λ (b : Bool). (if b then p else with_ehdr
    (record p {
      sections = map (λ row. section_from p tail row.0 row.1) (enumerate_from 0 p.sections);
    })
    (record p.header { shoff = table_place_from p tail })).header.shoff) any

pub extent_table : (p : Object) (tail : ℕ) (d : PartAt) → 0 < length p.sections
    → SameExtent (table_part (placed_from p tail))
    (get_or (in_order_from tail (tail_row p)) (length (movable p)) d)
extent_table p tail d some =
    let front = placed_front p tail in
    let inside : length (movable p) < length (tail_row p) = omega (arith, row_long p some) in
    let part = row_table p d some in
    let kept = ordered_as tail (tail_row p) (length (movable p)) d inside in
    record {
      at = table_stored p tail some ∙ row_place p tail (length (movable p)) d inside;
      len = ap (λ (n : ℕ). n * shdr_size (placed_from p tail).header.class) front.count
          ∙ ap (λ (c : Class). length p.sections * shdr_size c) (sym front.header.class)
          ∙ sym (ap (λ (q : PartAt). q.len) part)
          ∙ sym kept.0;
      filled = sym (ap (λ (q : PartAt). q.filled) part) ∙ sym kept.1;
    }

-- two parts of the row
pub row_apart : (p : Object) (tail i j : ℕ) (d : PartAt) → i < length (tail_row p)
    → j < length (tail_row p) → (i ≡ j → ⊥)
    → NoneShared (get_or (in_order_from tail (tail_row p)) i d)
    (get_or (in_order_from tail (tail_row p)) j d)
row_apart p tail i j d first second other = ⊎_elim
    (λ less.
    ordered_at (in_order_from tail (tail_row p)) i j d (in_order tail (tail_row p)) less
    (omega (arith, second, length-in_order tail (tail_row p))))
    (λ more.
    none_shared_back (get_or (in_order_from tail (tail_row p)) j d)
    (get_or (in_order_from tail (tail_row p)) i d)
    (ordered_at (in_order_from tail (tail_row p)) j i d (in_order tail (tail_row p))
    (omega (arith, more, other))
    (omega (arith, first, length-in_order tail (tail_row p)))))
    (cases_lt i j)

pub moved_inside : (p : Object) (i : ℕ) → 0 < length p.sections → i < length (movable p)
    → i < length (tail_row p)
moved_inside p i some inside = omega (arith, inside, row_long p some)

pub table_inside : (p : Object) → 0 < length p.sections
    → length (movable p) < length (tail_row p)
table_inside p some = omega (arith, row_long p some)
