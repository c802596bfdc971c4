-- What is made with places from a tail on: its front stays, and so does each section but for its
-- place, which an allocated one keeps.
use Rattle.std.proofs.Common.{◌≡◌, ℕ, ◌<◌, Bool, true, false, not, ◌&&◌, List, length, get_or, Option, Some, None, refl, sym, ap, ◌∙◌, arith, ⊎_elim}
use Rattle.std.specs.Prelude.{filter, nat_eq, slice_index, if◌then◌else◌, ◌==◌, map}
use Rattle.std.specs.List.{position, enumerate_from}
use Rattle.std.specs.Option.{option_map}
use Rattle.std.proofs.lemmas.Bool.{eqb-true, and_parts, both_ways, not_from_true, cases_lt}
use Rattle.std.proofs.lemmas.List.{length-map}
use Rattle.std.proofs.lemmas.List.FromFn.{length-enumerate_from}
use Rattle.std.proofs.lemmas.List.Elements.{All-filter, All-get_or, filter_passes}
use Rattle.std.proofs.lemmas.List.Quantifiers.{position-Some}
use Rattle.elf_types.specs.declared.records.Ehdr.{Ehdr}
use Rattle.elf_types.specs.declared.records.Shdr.{Shdr}
use Rattle.elf_xlate.specs.declared.content.Items.{Items}
use Rattle.elf_layout.specs.Layout.{positions}
use Rattle.elf_object.specs.Object.{Object, Section, section_at, is_null}
use Rattle.elf_object.specs.Layout.{section_numbers}
use Rattle.elf_object.specs.Open.{created_over}
use Rattle.elf_object.specs.Steps.{stored_ehdr, with_ehdr, with_phdrs}
use Rattle.elf_object.specs.Sections.{is_allocated, is_program, header_at}
use Rattle.rebuild_model.specs.Arranged.{base_end, tail_of, over_base, movable, parts_from, place_from, table_place_from, section_from, placed_from}
use Rattle.rebuild_model.specs.Rebuilt.{made_section, assembled}
use Rattle.rebuild_model.specs.KeepingLaws.{SameHeader}
use Rattle.law_rebuild.proofs.law_object.StandLaws.{section_at-past}
use Rattle.law_rebuild.proofs.strip.KeptLaws.{IsInRange, numbers_in_range}
use Rattle.law_rebuild.proofs.strip.MadeSections.{section_placed, section_unmoved}

-- ---- The front

-- an object with a front as another one's
pub record HasSameFront (o q : Object) : Type 0 where
  pub header : SameHeader o.header q.header
  pub phoff : q.header.phoff ≡ o.header.phoff
  pub phdrs : q.phdrs ≡ o.phdrs
  pub count : length q.sections ≡ length o.sections
  pub layout : q.layout ≡ o.layout

same_but_table : (h : Ehdr) (place : ℕ) → SameHeader h (record h { shoff = place })
same_but_table h place = record {
  class = refl;
  order = refl;
  osabi = refl;
  abiversion = refl;
  etype = refl;
  machine = refl;
  entry = refl;
  flags = refl;
  shstrndx = refl;
}

-- what is assembled over a base has the front of the other object, with that string index
pub record HasFrontOf (o : Object) (index : ℕ) (sections : List Section) (q : Object)
    : Type 0 where
  pub header : SameHeader (record o.header { shstrndx = index }) q.header
  pub phoff : q.header.phoff ≡ o.header.phoff
  pub phdrs : q.phdrs ≡ o.phdrs
  pub sections_are : q.sections ≡ sections

pub assembled_front : (o : Object) (tail : Option ℕ) (index : ℕ) (sections : List Section)
    → HasFrontOf o index sections (assembled (over_base o tail) o index sections)
unfolding over_base created_over assembled with_ehdr with_phdrs stored_ehdr
assembled_front o tail index sections = record {
  header = record {
    class = class_over tail;
    order = order_over tail;
    osabi = refl;
    abiversion = refl;
    etype = refl;
    machine = refl;
    entry = refl;
    flags = refl;
    shstrndx = refl;
  };
  phoff = refl;
  phdrs = refl;
  sections_are = refl;
}
  where
    class_over : (tail : Option ℕ) → o.header.class ≡ (over_base o tail).header.class
    class_over None = refl
    class_over (Some n) = refl

    order_over : (tail : Option ℕ) → o.header.order ≡ (over_base o tail).header.order
    order_over None = refl
    order_over (Some n) = refl

-- with ELF_F_LAYOUT, where it is made of a program
pub assembled_laid : (o : Object) (kept : List Section) (index : ℕ) (sections : List Section)
    → is_program o ≡ true
    → (assembled (over_base o (tail_of o kept)) o index sections).layout ≡ true
unfolding tail_of over_base assembled with_ehdr with_phdrs
assembled_laid o kept index sections program =
    ap (λ (b : Bool). (over_base o (if b then Some (base_end o kept) else None)).layout) program

pub placed_front : (p : Object) (tail : ℕ) → HasSameFront p (placed_from p tail)
unfolding placed_from with_ehdr stored_ehdr
placed_front p tail = by_test (length p.sections == 0)
  where
    count : length (map (λ row. section_from p tail row.0 row.1) (enumerate_from 0 p.sections))
        ≡ length p.sections
    count = length-map (enumerate_from 0 p.sections) (λ row. section_from p tail row.0 row.1)
        ∙ length-enumerate_from 0 p.sections

    by_test : (b : Bool) → HasSameFront p (if b then p else with_ehdr
        (record p {
          sections = map (λ row. section_from p tail row.0 row.1) (enumerate_from 0 p.sections);
        })
        (record p.header { shoff = table_place_from p tail }))
    by_test true =
        record {
          header = same_but_table p.header p.header.shoff;
          phoff = refl;
          phdrs = refl;
          count = refl;
          layout = refl;
        }
    by_test false =
        record {
          header = same_but_table p.header (table_place_from p tail);
          phoff = refl;
          phdrs = refl;
          count = count;
          layout = refl;
        }

-- ---- A section

-- what is allocated is not moved
pub allocated_unmoved : (p : Object) (tail s : ℕ) → is_allocated (header_at p s) ≡ true
    → place_from p tail s ≡ None
unfolding place_from movable
allocated_unmoved p tail s allocated = by_found (position (nat_eq s) (movable p)) refl
  where
    test : ℕ → Bool
    test t = not (is_null (header_at p t)) && not (is_allocated (header_at p t))

    by_found : (found : Option ℕ)
        → position (nat_eq s) (filter
        (λ t. not (is_null (header_at p t)) && not (is_allocated (header_at p t)))
        (section_numbers p)) ≡ found
        → option_map (slice_index (positions (parts_from p tail))) found ≡ None
    by_found None e = refl
    by_found (Some i) e =
        let passing = filter test (section_numbers p) in
        let stands = position-Some (nat_eq s) passing i 0 e in
        let same : s ≡ get_or passing i 0 = eqb-true s (get_or passing i 0) stands.1 in
        let passed : test (get_or passing i 0) ≡ true =
        filter_passes test (section_numbers p) i 0 stands.0 in
        let loose = and_parts (not (is_null (header_at p (get_or passing i 0))))
        (not (is_allocated (header_at p (get_or passing i 0)))) passed in
        absurd (both_ways (not (is_allocated (header_at p s)))
        (not_from_true (is_allocated (header_at p s)) allocated)
        (ap (λ (t : ℕ). not (is_allocated (header_at p t))) same ∙ loose.1))

-- made of a header with another place, and of these items; what is allocated keeps its place where
-- the premise holds
pub record IsMadeAs (keeps : Type 0) (c : Section) (h : Shdr) (owned : Items) : Type 0 where
  pub place : ℕ
  pub is : c ≡ made_section (record h { offset = place }) owned
  pub stays : keeps → is_allocated h ≡ true → place ≡ h.offset

pub made_as : (keeps : Type 0) (h : Shdr) (owned : Items)
    → IsMadeAs keeps (made_section h owned) h owned
made_as keeps h owned =
    record { place = h.offset; is = refl; stays = λ keep allocated. refl }

flags_made : (h : Shdr) (place : ℕ) (owned : Items)
    → is_allocated (made_section (record h { offset = place }) owned).header ≡ is_allocated h
unfolding made_section is_allocated
flags_made h place owned = refl

moved_made : (h : Shdr) (place new : ℕ) (owned : Items)
    → (let c = made_section (record h { offset = place }) owned in
    record c { header = record c.header { offset = new }; marked = true })
    ≡ made_section (record h { offset = new }) owned
unfolding made_section
moved_made h place new owned = refl

pub made_as_when_placed : (keeps : Type 0) (p : Object) (tail s : ℕ) (h : Shdr) (owned : Items)
    → s < length p.sections → IsMadeAs keeps (section_at p s) h owned
    → IsMadeAs keeps (section_at (placed_from p tail) s) h owned
unfolding section_from
made_as_when_placed keeps p tail s h owned below made = by_place (place_from p tail s) refl
  where
    flags : is_allocated (header_at p s) ≡ is_allocated h
    flags = ap (λ (c : Section). is_allocated c.header) made.is ∙ flags_made h made.place owned

    by_place : (place : Option ℕ) → place_from p tail s ≡ place
        → IsMadeAs keeps (section_at (placed_from p tail) s) h owned
    by_place None e = record {
      place = made.place;
      is = section_placed p tail s below
          ∙ section_unmoved p tail s (section_at p s) e
          ∙ made.is;
      stays = made.stays;
    }
    by_place (Some new) e = record {
      place = new;
      is = section_placed p tail s below
          ∙ ap (λ (x : Option ℕ). elim x [
            | None ↦ section_at p s
            | Some n ↦ record (section_at p s) {
              header = record (section_at p s).header { offset = n };
              marked = true;
            }
          ]) e
          ∙ ap (λ (c : Section).
          record c { header = record c.header { offset = new }; marked = true }) made.is
          ∙ moved_made h made.place new owned;
      stays = λ keep allocated.
          let unmoved = allocated_unmoved p tail s (flags ∙ allocated) in
          let none : Some new ≡ None = sym e ∙ unmoved in cc;
    }

-- ---- Section 0

first_unmoved : (p : Object) (tail : ℕ) → place_from p tail 0 ≡ None
unfolding place_from movable
first_unmoved p tail = by_found (position (nat_eq 0) (movable p)) refl
  where
    test : ℕ → Bool
    test t = not (is_null (header_at p t)) && not (is_allocated (header_at p t))

    by_found : (found : Option ℕ)
        → position (nat_eq 0) (filter
        (λ t. not (is_null (header_at p t)) && not (is_allocated (header_at p t)))
        (section_numbers p)) ≡ found
        → option_map (slice_index (positions (parts_from p tail))) found ≡ None
    by_found None e = refl
    by_found (Some i) e =
        let passing = filter test (section_numbers p) in
        let stands = position-Some (nat_eq 0) passing i 0 e in
        let same : 0 ≡ get_or passing i 0 = eqb-true 0 (get_or passing i 0) stands.1 in
        let within = All-get_or (λ t. IsInRange 1 (length p.sections) t) passing i 0 stands.0
        (All-filter test (λ t. IsInRange 1 (length p.sections) t) (section_numbers p)
        (numbers_in_range p)) in
        absurd (omega (arith, same, within.0))

pub placed_first : (p : Object) (tail : ℕ)
    → header_at (placed_from p tail) 0 ≡ header_at p 0
placed_first p tail = ⊎_elim
    (λ some.
    ap (λ (c : Section). c.header)
    (section_placed p tail 0 some
    ∙ section_unmoved p tail 0 (section_at p 0) (first_unmoved p tail)))
    (λ none.
    let count = (placed_front p tail).count in
    ap (λ (c : Section). c.header)
    (section_at-past (placed_from p tail) 0 (omega (arith, none, count))
    ∙ sym (section_at-past p 0 none)))
    (cases_lt 0 (length p.sections))
