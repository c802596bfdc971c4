-- The object without some sections was created and filled, and each of its sections was made with
-- items of the planned kind.
use Rattle.std.proofs.Common.{◌≡◌, ◌≢◌, ◌<◌, ◌-◌, ◌==◌, ◌&&◌, ◌||◌, ℕ, suc, Bool, true, false, List, ◌∷◌, length, map, get_or, Option, None, Some, if◌then◌else◌, refl, sym, ap, ◌∙◌, subst, arith}
use Rattle.std.specs.List.{enumerate_from}
use Rattle.std.proofs.lemmas.Bool.{ne_eqb}
use Rattle.std.proofs.lemmas.List.{get_or-map, length-map}
use Rattle.std.proofs.lemmas.List.Elements.{All-get_or}
use Rattle.std.proofs.lemmas.List.FromFn.{length-enumerate_from}
use Rattle.elf_types.specs.declared.records.Class.{Class}
use Rattle.elf_types.specs.declared.records.Kind.{Kind}
use Rattle.elf_types.specs.declared.records.Kind.TheVariants as kinds
use Rattle.elf_types.specs.declared.records.Shdr.{Shdr}
use Rattle.elf_xlate.specs.declared.content.Items.{Items}
use Rattle.elf_xlate.specs.declared.content.Items.TheVariants as items
use Rattle.elf_xlate.specs.Translation.{AreItems, first_unfit, items_kind}
use Rattle.elf_object.specs.Object.{Object, Section, section_at, absent_section, new_section, is_dirty}
use Rattle.elf_object.specs.Open.{created_over}
use Rattle.elf_object.specs.Sections.{is_among}
use Rattle.elf_object.specs.Steps.{stored_ehdr, with_ehdr, with_phdrs}
use Rattle.elf_object.specs.Valid.{IsObject}
use Rattle.rebuild_model.specs.Arranged.{over_base, place_from, placed_from, section_from, table_place_from}
use Rattle.rebuild_model.specs.Followed.{kept_from_1, kept_sections, symbols_follow, members_follow, indexes_follow}
use Rattle.rebuild_model.specs.Rebuilt.{assembled, made_section, kept_items, rebuilt_header, rebuilt_items, rebuilt_section, rebuilt_sections, rebuilt_index, rebuilt_object, rebuilt_tail, renews_names, items_follow}
use Rattle.rebuild_plan.specs.law_rebuild.Strip.Made.{FitsClass}
use Rattle.rebuild_plan.proofs.law_rebuild.strip.ArrangedLaws.{arranged_keeps}
use Rattle.rebuild_plan.proofs.law_rebuild.strip.FollowedLaws.{rebuilt_items_fit}
use Rattle.rebuild_plan.proofs.law_rebuild.strip.KeptLaws.{IsInRange, kept_few, kept_first, kept_in_range}
use Rattle.rebuild_plan.proofs.law_rebuild.strip.MadeSections.{section_placed}
use Rattle.rebuild_plan.proofs.law_rebuild.strip.RebuiltLaws.{rebuilt_known}
use Rattle.rebuild_plan.proofs.rebuild_making.TailLaws.{first_keeps}
use Rattle.rebuild_plan.specs.Reading.{rebuilt_kind, rebuilt_kinds}
use Rattle.rebuild_object.specs.Objects.{kind_at}
use Rattle.rebuild_object.specs.Planned.{IsMadeWith, IsCreatedWith}
use Rattle.rebuild_object.specs.Rebuilding.{RebuiltAreCreated}
use Rattle.rebuild_object.proofs.RangedLaws.{rebuilt_ranged}

-- ---- The kind of what is made of a section

kind_made : (o : Object) (removed : List ℕ) (s : ℕ) → s ≢ 0
    → items_kind (rebuilt_items o removed s) ≡ rebuilt_kind o removed s
unfolding rebuilt_items kept_items rebuilt_kind
kind_made o removed s some =
    by_tests (renews_names o removed && s == o.header.shstrndx) (symbols_follow o s)
    (members_follow o s) (indexes_follow o removed s) _ _ _ _ _
    ∙ sym (ap (λ (b : Bool). if b then kinds.Empty
    else (if renews_names o removed && s == o.header.shstrndx then kinds.Bytes
    else (if symbols_follow o s then kinds.Sym
    else (if items_follow o removed s then kinds.Word else kinds.Bytes)))) (ne_eqb s 0 some))
  where
    by_tests : (names syms members indexes : Bool) (t : List ℕ) (x : List _) (g w r : List ℕ)
        → items_kind (if names then items.Bytes t
        else (if syms then items.Sym x
        else (if members then items.Word g
        else (if indexes then items.Word w else items.Bytes r))))
        ≡ (if names then kinds.Bytes
        else (if syms then kinds.Sym
        else (if syms || members || indexes then kinds.Word else kinds.Bytes)))
    by_tests true syms members indexes t x g w r = refl
    by_tests false true members indexes t x g w r = refl
    by_tests false false true indexes t x g w r = refl
    by_tests false false false true t x g w r = refl
    by_tests false false false false t x g w r = refl

-- ---- A section

pub made_with : (class : Class) (kind : Kind) (c : Section) (h : Shdr) (own : Items)
    → c ≡ made_section h own → items_kind own ≡ kind → AreItems own
    → first_unfit class own ≡ None → IsMadeWith class kind c
unfolding made_section
made_with class kind c h own is kind_is are fits = record {
  own = own;
  section = is
      ∙ ap (λ (x : Shdr). made_section x own) (sym (ap (λ (s : Section). s.header) is));
  kind_is = kind_is;
  are = are;
  fits = fits;
}

-- with another place
moved_with : (class : Class) (kind : Kind) (c : Section) (place : ℕ) → IsMadeWith class kind c
    → IsMadeWith class kind
    (record c { header = record c.header { offset = place }; marked = true })
unfolding made_section
moved_with class kind c place is =
    made_with class kind (record c { header = record c.header { offset = place }; marked = true })
    (record c.header { offset = place }) is.own
    (ap (λ (x : Section). record x {
      header = record c.header { offset = place };
      marked = true;
    }) is.section)
    is.kind_is is.are is.fits

from_with : (class : Class) (kind : Kind) (p : Object) (tail s : ℕ) (c : Section)
    → IsMadeWith class kind c → IsMadeWith class kind (section_from p tail s c)
unfolding section_from
from_with class kind p tail s c is = by_place (place_from p tail s)
  where
    by_place : (place : Option ℕ) → IsMadeWith class kind (elim place [
      | None ↦ c
      | Some new ↦ record c { header = record c.header { offset = new }; marked = true }
    ])
    by_place None = is
    by_place (Some new) = moved_with class kind c new is

-- section 0 keeps its place
first_from : (p : Object) (tail : ℕ) (c : Section) → section_from p tail 0 c ≡ c
unfolding section_from
first_from p tail c =
    ap (λ (place : Option ℕ).
    let made : Section = elim place [
      | None ↦ c
      | Some new ↦ record c { header = record c.header { offset = new }; marked = true }
    ] in made) (first_keeps p tail)

-- ---- Sections before they have their places

module _ (o : Object) (removed : List ℕ) (is : IsObject o) (clean : is_dirty o ≡ false)
    (fit : FitsClass o) (stays : is_among removed 0 ≡ false) where
  abbrev made : List Section
  made = rebuilt_sections o removed

  length_made : length made ≡ length (kept_sections o removed)
  unfolding rebuilt_sections
  length_made = length-map (kept_sections o removed) (rebuilt_section o removed)

  section_made : (i : ℕ) → i < length made
      → get_or made i absent_section
      ≡ rebuilt_section o removed (get_or (kept_sections o removed) i 0)
  unfolding rebuilt_sections
  section_made i below =
      let long = length_made in
      get_or-map (rebuilt_section o removed) (kept_sections o removed) i 0 absent_section
      (omega (arith, below, long))

  kind_there : (i : ℕ) → i < length made
      → kind_at (rebuilt_kinds o removed) i
      ≡ rebuilt_kind o removed (get_or (kept_sections o removed) i 0)
  unfolding rebuilt_kinds
  kind_there i below =
      let long = length_made in
      get_or-map (rebuilt_kind o removed) (kept_sections o removed) i 0 kinds.Empty
      (omega (arith, below, long))

  some_kept : (i : ℕ) → i < length made → kept_sections o removed ≡ 0 ∷ kept_from_1 o removed
  some_kept i below =
      let long = length_made in
      let few = kept_few o removed in
      kept_first o removed stays (omega (arith, below, long, few))

  first_made : 0 < length made → get_or made 0 absent_section ≡ new_section
  unfolding rebuilt_section
  first_made below =
      section_made 0 below
      ∙ ap (λ (l : List ℕ). rebuilt_section o removed (get_or l 0 0)) (some_kept 0 below)

  -- the old number of one from 1 on
  number_of : (i : ℕ) → 0 < i → i < length made
      → IsInRange 1 (length o.sections) (get_or (kept_sections o removed) i 0)
  number_of i some below =
      let kept = some_kept i below in
      let count = length_made ∙ ap (λ (l : List ℕ). length l) kept in
      let inside : i - 1 < length (kept_from_1 o removed) = omega (arith, some, below, count) in
      let next : i ≡ suc (i - 1) = omega (arith, some) in
      subst (λ (n : ℕ). IsInRange 1 (length o.sections) n)
      (sym (ap (λ (l : List ℕ). get_or l i 0) kept
      ∙ ap (λ (k : ℕ). get_or (0 ∷ kept_from_1 o removed) k 0) next))
      (All-get_or (λ t. IsInRange 1 (length o.sections) t) (kept_from_1 o removed) (i - 1) 0 inside
      (kept_in_range o removed))

  other_made : (i : ℕ) → 0 < i → i < length made
      → IsMadeWith o.header.class (kind_at (rebuilt_kinds o removed) i)
      (get_or made i absent_section)
  unfolding rebuilt_section
  other_made i some below = by (get_or (kept_sections o removed) i 0) refl
    where
      by : (n : ℕ) → get_or (kept_sections o removed) i 0 ≡ n
          → IsMadeWith o.header.class (kind_at (rebuilt_kinds o removed) i)
          (get_or made i absent_section)
      by n at =
          let within = subst (λ (k : ℕ). IsInRange 1 (length o.sections) k) at
          (number_of i some below) in
          let new : n ≢ 0 = λ none. omega (arith, none, within.0) in
          made_with o.header.class (kind_at (rebuilt_kinds o removed) i)
          (get_or made i absent_section) (rebuilt_header o removed n) (rebuilt_items o removed n)
          (section_made i below
          ∙ ap (rebuilt_section o removed) at
          ∙ ap (λ (b : Bool). if b then new_section
          else made_section (rebuilt_header o removed n) (rebuilt_items o removed n))
          (ne_eqb n 0 new))
          (kind_made o removed n new
          ∙ sym (kind_there i below ∙ ap (rebuilt_kind o removed) at))
          (rebuilt_ranged o is clean removed n (omega (arith, within.1)))
          (rebuilt_items_fit o removed n is fit (omega (arith, within.0))
          (omega (arith, within.1)))

  -- ---- The object before its places are given

  over_created : (tail : Option ℕ) (index : ℕ)
      → IsCreatedWith o (rebuilt_kinds o removed) (assembled (over_base o tail) o index made)
  unfolding assembled over_base created_over with_ehdr with_phdrs stored_ehdr section_at
  over_created None index = record {
    class = refl;
    order = refl;
    header = record { version = refl; ehsize = refl; phentsize = refl; shentsize = refl };
    front = refl;
    marked = refl;
    header_marked = refl;
    segments_marked = refl;
    first = first_made;
    others = other_made;
  }
  over_created (Some n) index = record {
    class = refl;
    order = refl;
    header = record { version = refl; ehsize = refl; phentsize = refl; shentsize = refl };
    front = refl;
    marked = refl;
    header_marked = refl;
    segments_marked = refl;
    first = first_made;
    others = other_made;
  }

-- ---- With its places

long_placed : (p : Object) (tail : ℕ) → length (placed_from p tail).sections ≡ length p.sections
unfolding placed_from with_ehdr
long_placed p tail = by_test (length p.sections == 0)
  where
    by_test : (b : Bool) → length (if b then p else with_ehdr
        (record p {
          sections = map (λ row. section_from p tail row.0 row.1) (enumerate_from 0 p.sections);
        })
        (record p.header { shoff = table_place_from p tail })).sections ≡ length p.sections
    by_test true = refl
    by_test false =
        length-map (enumerate_from 0 p.sections) (λ row. section_from p tail row.0 row.1)
        ∙ length-enumerate_from 0 p.sections

-- the front stays
pub record KeepsFront (p q : Object) : Type 0 where
  pub class : q.header.class ≡ p.header.class
  pub order : q.header.order ≡ p.header.order
  pub version : q.header.version ≡ p.header.version
  pub ehsize : q.header.ehsize ≡ p.header.ehsize
  pub phentsize : q.header.phentsize ≡ p.header.phentsize
  pub shentsize : q.header.shentsize ≡ p.header.shentsize
  pub front : q.written_front ≡ p.written_front
  pub marked : q.marked ≡ p.marked
  pub segments_marked : q.segments_marked ≡ p.segments_marked
  pub header_marked : p.header_marked ≡ true → q.header_marked ≡ true

placed_front : (p : Object) (tail : ℕ) → KeepsFront p (placed_from p tail)
unfolding placed_from with_ehdr stored_ehdr
placed_front p tail = by_test (length p.sections == 0)
  where
    by_test : (b : Bool) → KeepsFront p (if b then p else with_ehdr
        (record p {
          sections = map (λ row. section_from p tail row.0 row.1) (enumerate_from 0 p.sections);
        })
        (record p.header { shoff = table_place_from p tail }))
    by_test true = record {
      class = refl;
      order = refl;
      version = refl;
      ehsize = refl;
      phentsize = refl;
      shentsize = refl;
      front = refl;
      marked = refl;
      segments_marked = refl;
      header_marked = λ m. m;
    }
    by_test false = record {
      class = refl;
      order = refl;
      version = refl;
      ehsize = refl;
      phentsize = refl;
      shentsize = refl;
      front = refl;
      marked = refl;
      segments_marked = refl;
      header_marked = λ m. refl;
    }

placed_created : (o p : Object) (ks : List Kind) (tail : ℕ) → IsCreatedWith o ks p
    → IsCreatedWith o ks (placed_from p tail)
placed_created o p ks tail is =
    let keeps = placed_front p tail in
    let long = long_placed p tail in
    record {
      class = keeps.class ∙ is.class;
      order = keeps.order ∙ is.order;
      header = record {
        version = keeps.version ∙ is.header.version;
        ehsize = keeps.ehsize ∙ is.header.ehsize;
        phentsize = keeps.phentsize ∙ is.header.phentsize;
        shentsize = keeps.shentsize ∙ is.header.shentsize;
      };
      front = keeps.front ∙ is.front;
      marked = keeps.marked ∙ is.marked;
      header_marked = keeps.header_marked is.header_marked;
      segments_marked = keeps.segments_marked ∙ is.segments_marked;
      first = λ some.
          let below : 0 < length p.sections = omega (arith, some, long) in
          section_placed p tail 0 below
          ∙ first_from p tail (section_at p 0)
          ∙ is.first below;
      others = λ s some there.
          let below : s < length p.sections = omega (arith, there, long) in
          subst (λ (c : Class). IsMadeWith c (kind_at ks s) (section_at (placed_from p tail) s))
          (sym keeps.class)
          (subst (IsMadeWith p.header.class (kind_at ks s)) (sym (section_placed p tail s below))
          (from_with p.header.class (kind_at ks s) p tail s (section_at p s)
          (is.others s some below)));
    }

pub rebuilt_created : RebuiltAreCreated
unfolding rebuilt_object
rebuilt_created o removed r is clean fit stays came =
    let known = rebuilt_known o removed r came in
    let before : IsCreatedWith o (rebuilt_kinds o removed) (rebuilt_object o removed) =
    over_created o removed is clean fit stays (rebuilt_tail o removed) (rebuilt_index o removed) in
    arranged_keeps (IsCreatedWith o (rebuilt_kinds o removed))
    (record { object = rebuilt_object o removed; tail = rebuilt_tail o removed }) r known.is before
    (λ tail stated passed.
    placed_created o (rebuilt_object o removed) (rebuilt_kinds o removed) tail before)
