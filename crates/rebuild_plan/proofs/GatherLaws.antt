-- What was kept for an object that is made anew, before its places are given and with them.
use Rattle.std.proofs.Common.{◌≡◌, ◌⊎◌, inl, inr, ◌<◌, ◌≤◌, ◌==◌, ◌||◌, ℕ, Bool, true, false, not, List, length, map, Option, Some, None, Ok, Err, if◌then◌else◌, refl, sym, ap, ◌∙◌, subst, arith}
use Rattle.std.specs.Prelude.{is_some, unwrap_or}
use Rattle.std.specs.List.{enumerate_from}
use Rattle.std.proofs.lemmas.List.{length-map}
use Rattle.std.proofs.lemmas.List.FromFn.{length-enumerate_from}
use Rattle.elf_types.specs.declared.constants.TheConstants.{SHT_NULL, SHT_NOBITS, MAX_SECTIONS}
use Rattle.elf_types.specs.declared.records.Class.{Class}
use Rattle.elf_types.specs.declared.records.Order.{Order}
use Rattle.elf_types.specs.declared.records.Ehdr.{Ehdr}
use Rattle.elf_types.specs.declared.records.Phdr.{Phdr}
use Rattle.elf_types.specs.declared.errors.ElfError.{ElfError}
use Rattle.elf_types.specs.declared.errors.ElfError.TheVariants.{Memory, TooLarge}
use Rattle.elf_outside.specs.Asks.{ReadRose}
use Rattle.law_rebuild.specs.elf_object.Object.{Object, Section, section_at, occupies_file}
use Rattle.law_rebuild.specs.elf_object.Image.{kept_base}
use Rattle.law_rebuild.specs.elf_object.Joined.{aligned_pieces}
use Rattle.law_rebuild.specs.elf_object.Steps.{with_ehdr, stored_ehdr}
use Rattle.law_rebuild.specs.rebuild_model.Arranged.{place_from, section_from, table_place_from, placed_from}
use Rattle.law_rebuild.proofs.strip.MadeSections.{section_placed}
use Rattle.rebuild_tables.specs.rebuild_image.declared.listed.listed.HeaderListing.{HeaderListing}
use Rattle.rebuild_tables.specs.rebuild_image.declared.ranges.ranges.ByteRange.{ByteRange}
use Rattle.rebuild_tables.proofs.rebuild_image.UnreadLaws.{wanted_unread}
use Rattle.rebuild_plan.specs.declared.arranged.Arranged.{Arranged}
use Rattle.rebuild_plan.specs.declared.contents.Contents.{Contents}
use Rattle.rebuild_plan.specs.Plans.{new_header, arranged_object, IsArrangedTo, IsRefusedTo, ArrangesTo, HasRanges, IsRangedAs, IsGathered, MayBeWritten, IsListable, listed_of, IsGatheredOf, ArrangesContents}

-- ---- What stays where places are given

-- two objects have the same front, but for places, and the same base
pub record HasFrontAndBase (q p : Object) : Type 0 where
  pub class : q.header.class ≡ p.header.class
  pub order : q.header.order ≡ p.header.order
  pub layout : q.layout ≡ p.layout
  pub base : q.base ≡ p.base
  pub pad : q.pad ≡ p.pad
  pub phdrs : q.phdrs ≡ p.phdrs
  pub fill : q.fill ≡ p.fill
  pub count : length q.sections ≡ length p.sections

same_front : (p : Object) → HasFrontAndBase p p
same_front p = record {
  class = refl;
  order = refl;
  layout = refl;
  base = refl;
  pad = refl;
  phdrs = refl;
  fill = refl;
  count = refl;
}

pub placing_keeps : (p : Object) (tail : ℕ) → HasFrontAndBase (placed_from p tail) p
unfolding placed_from with_ehdr stored_ehdr
placing_keeps p tail = by_test (length p.sections == 0)
  where
    by_test : (b : Bool) → HasFrontAndBase (if b then p else with_ehdr
        (record p {
          sections = map (λ row. section_from p tail row.0 row.1) (enumerate_from 0 p.sections);
        })
        (record p.header { shoff = table_place_from p tail })) p
    by_test true = same_front p
    by_test false = record {
      class = refl;
      order = refl;
      layout = refl;
      base = refl;
      pad = refl;
      phdrs = refl;
      fill = refl;
      count = length-map (enumerate_from 0 p.sections) (λ row. section_from p tail row.0 row.1)
          ∙ length-enumerate_from 0 p.sections;
    }

arranged_front : (p : Object) (tail : Option ℕ) → HasFrontAndBase (arranged_object p tail) p
arranged_front p None = same_front p
arranged_front p (Some n) = placing_keeps p n

type_stays : (p : Object) (tail s : ℕ) (c : Section)
    → (section_from p tail s c).header.stype ≡ c.header.stype
unfolding section_from
type_stays p tail s c = by_place (place_from p tail s)
  where
    by_place : (place : Option ℕ) → (let made : Section = elim place [
      | None ↦ c
      | Some at ↦ record c { header = record c.header { offset = at }; marked = true }
    ] in made.header.stype) ≡ c.header.stype
    by_place None = refl
    by_place (Some at) = refl

pieces_stay : (class : Class) (order : Order) (p : Object) (tail s : ℕ) (c : Section)
    → aligned_pieces class order (section_from p tail s c) ≡ aligned_pieces class order c
unfolding section_from aligned_pieces
pieces_stay class order p tail s c = by_place (place_from p tail s)
  where
    by_place : (place : Option ℕ) → aligned_pieces class order (elim place [
      | None ↦ c
      | Some at ↦ record c { header = record c.header { offset = at }; marked = true }
    ]) ≡ aligned_pieces class order c
    by_place None = refl
    by_place (Some at) = refl

module _ (p : Object) (base held : List ℕ) (ranges : List ByteRange)
    (is : HasRanges p base held ranges) where
  placed_ranges : (tail : ℕ) → HasRanges (placed_from p tail) base held ranges
  placed_ranges tail = record {
    each = λ s first there filled later.
        let front = placing_keeps p tail in
        let count = front.count in
        let below : s < length p.sections = omega (arith, there, count) in
        let at = section_placed p tail s below in
        let full : occupies_file (section_at p s).header ≡ true =
        ap (λ (t : ℕ). not (t == SHT_NULL || t == SHT_NOBITS))
        (sym (type_stays p tail s (section_at p s)))
        ∙ ap (λ (c : Section). occupies_file c.header) (sym at)
        ∙ filled in
        is.each s first below full later
        ∙ sym (ap (aligned_pieces (placed_from p tail).header.class
        (placed_from p tail).header.order) at
        ∙ pieces_stay (placed_from p tail).header.class (placed_from p tail).header.order p tail s
        (section_at p s)
        ∙ ap (λ (c : Class). aligned_pieces c (placed_from p tail).header.order (section_at p s))
        front.class
        ∙ ap (λ (d : Order). aligned_pieces p.header.class d (section_at p s)) front.order);
  }

  arranged_ranges : (tail : Option ℕ) → HasRanges (arranged_object p tail) base held ranges
  arranged_ranges None = is
  arranged_ranges (Some n) = placed_ranges n

-- ---- With its places

kept_is : (q : Object) (tail : Option ℕ) → q.layout ≡ is_some tail
    → length q.base ≡ unwrap_or tail 0 → kept_base q ≡ unwrap_or tail 0
unfolding kept_base
kept_is q None layout long = ap (λ (b : Bool). if b then length q.base else 0) layout
kept_is q (Some n) layout long = ap (λ (b : Bool). if b then length q.base else 0) layout ∙ long

module _ (phdrs : List Phdr) (base : List ℕ) (p : Object) (x next : HeaderListing)
    (ranges : List ByteRange) (held : List ℕ) (tail : Option ℕ)
    (is : IsGathered phdrs base p x ranges held tail) (arranged : IsArrangedTo p tail next) where
  pub gathered_ranged : MayBeWritten (arranged_object p tail)
      → IsRangedAs phdrs base (arranged_object p tail) next ranges held tail
  gathered_ranged may =
      let front = arranged_front p tail in
      let layout = front.layout ∙ is.layout in
      let long = ap (λ (l : List ℕ). length l) front.base ∙ is.long in
      record {
        laid = record {
          object = may.object;
          dirty = may.dirty;
          content = may.content;
          listed = arranged.listed;
          layout_is = layout;
          base_is = long;
        };
        pad = front.pad ∙ is.pad;
        segments = front.phdrs ∙ is.segments;
        fill = front.fill ∙ is.fill;
        below = is.below ∙ sym front.base;
        kept = kept_is (arranged_object p tail) tail layout long;
        ranges = arranged_ranges p base held ranges is.ranges tail;
      }

-- ---- What the step answers

abbrev arranged_of : Contents → Option ℕ → HeaderListing → Arranged
arranged_of x tail next =
    record { listed = next; ranges = x.ranges; kinds = x.kinds; held = x.held; tail = tail }

module _ (o : Object) (index : ℕ) (x : Contents) (listed : HeaderListing) (tail : Option ℕ)
    (at : listed ≡ listed_of o index x) where
  gathered_at : (base : List ℕ) (p : Object) → IsGatheredOf o index x tail base p
      → IsGathered o.phdrs base p listed x.ranges x.held tail
  gathered_at base p is =
      subst (λ (l : HeaderListing). IsGathered o.phdrs base p l x.ranges x.held tail) (sym at) is

  -- there are as many headers as before
  listable : (next : HeaderListing) → length x.headers ≤ MAX_SECTIONS → ArrangesTo listed tail (Ok next)
      → IsListable (arranged_of x tail next)
  listable next few arranges = record {
    few =
        let count = arranges.count in
        let same = ap (λ (l : HeaderListing). length l.headers) at in
        omega (arith, few, count, same);
    same = arranges.sizes ∙ sym arranges.count;
  }

  pub contents_arranged : (next : HeaderListing) → length x.headers ≤ MAX_SECTIONS
      → ArrangesTo listed tail (Ok next)
      → ArrangesContents o index x tail
      (Ok (arranged_of x tail next))
  contents_arranged next few arranges = record {
    ok = λ base p is.
        let here = gathered_at base p is in
        let arranged = arranges.ok p here.listed in
        record {
          passed = arranged.passed;
          ranges = gathered_ranged o.phdrs base p listed next x.ranges x.held tail here arranged;
        };
    kept = record { ranges = refl; kinds_are = refl; tail_is = refl };
    small = listable next few arranges;
    err = tt;
    unread = λ a b. tt;
  }

  large_unread : (e : ElfError) → e ≡ TooLarge → (a b : ℕ)
      → ReadRose {T = Arranged} (Err e) a b
  large_unread e large a b =
      subst (λ (d : ElfError). ReadRose {T = Arranged} (Err d) a b) (sym large) tt

  pub contents_unarranged : (e : ElfError) → ArrangesTo listed tail (Err e)
      → ArrangesContents o index x tail (Err e)
  contents_unarranged e arranges = by arranges.err
    where
      by : (e ≡ Memory) ⊎ IsRefusedTo listed tail e → ArrangesContents o index x tail (Err e)
      by (inl want) = record {
        ok = tt;
        kept = tt;
        small = tt;
        err = inl want;
        unread = wanted_unread Arranged e want;
      }
      by (inr refused) = record {
        ok = tt;
        kept = tt;
        small = tt;
        err = inr (record {
          error = refused.error;
          behind = refused.behind;
          refused = λ base p is. refused.refused p (gathered_at base p is).listed;
        });
        unread = large_unread e refused.error;
      }

-- the headers that are listed in code
pub contents_listed : (o : Object) (index : ℕ) (x : Contents) (h : Ehdr) (count : ℕ)
    → h ≡ new_header o index count → count ≡ length x.headers
    → ◌≡◌ {A = HeaderListing} (record { header = h; headers = x.headers; sizes = x.sizes })
    (listed_of o index x)
contents_listed o index x h count header at =
    ap (λ (y : Ehdr). record { header = y; headers = x.headers; sizes = x.sizes })
    (header ∙ ap (new_header o index) at)
