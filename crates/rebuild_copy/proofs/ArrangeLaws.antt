-- The places of what was changed are given again: it is listed as before, with these places.
use Rattle.std.proofs.Common.{◌≡◌, ◌⊎◌, inl, inr, ◌==◌, ◌||◌, ◌<◌, ℕ, zero, suc, Bool, true, false, not, length, Option, Some, None, Ok, Err, if◌then◌else◌, refl, sym, ap, ◌∙◌, subst, arith}
use Rattle.std.specs.Prelude.{map}
use Rattle.std.specs.List.{enumerate_from}
use Rattle.std.proofs.lemmas.Option.{unwrap_or-slice_get}
use Rattle.elf_types.specs.declared.constants.TheConstants.{SHT_NULL, SHT_NOBITS}
use Rattle.elf_types.specs.declared.records.Class.{Class}
use Rattle.elf_types.specs.declared.records.Order.{Order}
use Rattle.elf_types.specs.declared.errors.ElfError.{ElfError}
use Rattle.elf_types.specs.declared.errors.ElfError.TheVariants.{Memory}
use Rattle.elf_xlate.specs.declared.content.Items.{Items}
use Rattle.elf_xlate.specs.Translation.{encoded, first_unfit}
use Rattle.elf_ident.specs.Front.{zero_shdr}
use Rattle.elf_object.specs.Object.{Object, Section, section_at, occupies_file}
use Rattle.elf_object.specs.Sections.{header_at}
use Rattle.elf_object.specs.Steps.{with_ehdr, stored_ehdr}
use Rattle.elf_object.specs.Valid.{IsObject}
use Rattle.law_object.proofs.StandLaws.{section_at-past}
use Rattle.rebuild_model.specs.Arranged.{place_from, section_from, table_place_from, placed_from}
use Rattle.rebuild_model.specs.Rebuilt.{made_section}
use Rattle.law_rebuild.proofs.strip.ArrangedLaws.{placed_from_is}
use Rattle.law_rebuild.proofs.strip.MadeSections.{section_placed}
use Rattle.rebuild_edits.specs.rebuild_making.Placing.{arranged_refusal}
use Rattle.rebuild_plan.proofs.rebuild_making.TailLaws.{first_keeps}
use Rattle.rebuild_plan.specs.rebuild_image.declared.listed.listed.HeaderListing.{HeaderListing}
use Rattle.rebuild_plan.specs.rebuild_image.Listed.Listing.{IsHeaderListing}
use Rattle.rebuild_plan.specs.declared.arranged.Arranged.{Arranged}
use Rattle.rebuild_plan.specs.Plans.{arranged_object, IsArrangedTo, IsRefusedTo, ArrangesTo, IsListable}
use Rattle.rebuild_plan.proofs.GatherLaws.{placing_keeps}
use Rattle.rebuild_copy.specs.Rows.{Origin, RowOf, IsListedAs}
use Rattle.rebuild_copy.specs.Arranging.{PlacesAgain}
use Rattle.rebuild_copy.proofs.RowLaws.{zero_empty, HasSameFrame, same_frame, frame_as}
use Rattle.rebuild_copy.proofs.EndLaws.{file_size, listing_is}

-- ---- A section with another place

abbrev moved_to : Option ℕ → Section → Section
moved_to None c = c
moved_to (Some n) c = record c { header = record c.header { offset = n }; marked = true }

from_moved : (p : Object) (tail s : ℕ) (c : Section)
    → section_from p tail s c ≡ moved_to (place_from p tail s) c
unfolding section_from
from_moved p tail s c = by_place (place_from p tail s)
  where
    by_place : (place : Option ℕ) → (let made : Section = elim place [
      | None ↦ c
      | Some new ↦ record c { header = record c.header { offset = new }; marked = true }
    ] in made) ≡ moved_to place c
    by_place None = refl
    by_place (Some new) = refl

-- section 0 keeps its place
first_from : (p : Object) (tail : ℕ) (c : Section) → section_from p tail 0 c ≡ c
first_from p tail c =
    from_moved p tail 0 c ∙ ap (λ (place : Option ℕ). moved_to place c) (first_keeps p tail)

-- it is made with the same items
record IsMovedFrom (c d : Section) : Type 0 where
  stype : d.header.stype ≡ c.header.stype
  made : (own : Items) → c ≡ made_section c.header own → d ≡ made_section d.header own

moved : (place : Option ℕ) (c : Section) → IsMovedFrom c (moved_to place c)
unfolding made_section
moved None c = record { stype = refl; made = λ own is. is }
moved (Some n) c = record {
  stype = refl;
  made = λ own is.
      ap (λ (x : Section). record x { header = record c.header { offset = n }; marked = true }) is;
}

-- ---- All sections

module _ (o : Origin) (p : Object) (x : Arranged) (is : IsListedAs o p x) (next : HeaderListing)
    (q : Object) (same : HasSameFrame p q) (object : IsObject q)
    (count : length q.sections ≡ length p.sections)
    (first : 0 < length p.sections → section_at q 0 ≡ section_at p 0)
    (moved_are : (s : ℕ) → s < length p.sections → IsMovedFrom (section_at p s) (section_at q s))
    (listing : IsHeaderListing q next) where
  zero_now : occupies_file (header_at q 0) ≡ false
  zero_now = by (length p.sections) refl
    where
      by : (n : ℕ) → length p.sections ≡ n → occupies_file (header_at q 0) ≡ false
      by zero none =
          ap (λ (c : Section). occupies_file c.header)
          (section_at-past q 0 (omega (arith, none, count)))
          ∙ zero_empty
      by (suc n) some =
          let there : 0 < length p.sections = omega (arith, some) in
          ap (λ (c : Section). occupies_file c.header) (first there ∙ is.first there) ∙ zero_empty

  zero_at : (s : ℕ) → s ≡ 0 → occupies_file (header_at q s) ≡ false
  zero_at s at = ap (λ (k : ℕ). occupies_file (header_at q k)) at ∙ zero_now

  row_moved : (s : ℕ) → s < length p.sections
      → RowOf q (o.bases.each s) (record x { listed = next }) s
  unfolding made_section
  row_moved s there =
      let row = is.rows s there in
      let from = moved_are s there in
      let below : s < length q.sections = omega (arith, there, count) in
      let made = from.made row.own row.section in
      let filled : occupies_file (header_at p s) ≡ occupies_file (header_at q s) =
      ap (λ (t : ℕ). not (t == SHT_NULL || t == SHT_NOBITS)) (sym from.stype) in
      let bytes : encoded p.header.class p.header.order row.own
      ≡ encoded q.header.class q.header.order row.own =
      ap (λ (c : Class). encoded c p.header.order row.own) (sym same.class)
      ∙ ap (λ (d : Order). encoded q.header.class d row.own) (sym same.order) in
      let size_now = unwrap_or-slice_get next.sizes s 0 ∙ listing.sizes s below in
      let small = listing.small s below in
      record {
        header = unwrap_or-slice_get next.headers s zero_shdr ∙ listing.headers s below;
        own = row.own;
        section = made;
        kind_is = row.kind_is;
        are = row.are;
        fits = ap (λ (c : Class). first_unfit c row.own) same.class ∙ row.fits;
        strings = λ typed. row.strings (sym from.stype ∙ typed);
        size_is = size_now
            ∙ file_size q s row.own (ap (λ (c : Section). c.pieces) made) (zero_at s);
        small = omega (arith, size_now, small);
        range_is = λ full later. row.range_is (filled ∙ full) later ∙ bytes;
      }

  relisted : IsListedAs o q (record x { listed = next })
  relisted = record {
    object = object;
    frame = frame_as o p q same is.frame;
    tail_is = is.tail_is;
    header = listing.header;
    count = listing.count;
    counted = record {
      sized = listing.sized ∙ sym listing.count;
      ranged = is.counted.ranged ∙ is.count ∙ sym count ∙ sym listing.count;
      of_kinds = is.counted.of_kinds ∙ is.count ∙ sym count ∙ sym listing.count;
    };
    first = λ some.
        let there : 0 < length p.sections = omega (arith, some, count) in
        first there ∙ is.first there;
    rows = λ s there. row_moved s (omega (arith, there, count));
  }

-- ---- The object with its places

placed_same : (p : Object) (tail : ℕ) → p.header_marked ≡ true
    → HasSameFrame p (placed_from p tail)
unfolding placed_from with_ehdr stored_ehdr
placed_same p tail marked = by_test (length p.sections == 0)
  where
    by_test : (b : Bool) → HasSameFrame p (if b then p else with_ehdr
        (record p {
          sections = map (λ row. section_from p tail row.0 row.1) (enumerate_from 0 p.sections);
        })
        (record p.header { shoff = table_place_from p tail }))
    by_test true = same_frame p
    by_test false = record {
      class = refl;
      order = refl;
      layout = refl;
      base = refl;
      pad = refl;
      phdrs = refl;
      fill = refl;
      marked = sym marked;
      version = refl;
      ehsize = refl;
      phentsize = refl;
      shentsize = refl;
      front = refl;
      unmarked = refl;
      segments_marked = refl;
    }

module _ (o : Origin) (p : Object) (x : Arranged) (is : IsListedAs o p x) (next : HeaderListing)
  where
    by_tail : (t : Option ℕ) → arranged_refusal p t ≡ None
        → IsHeaderListing (arranged_object p t) next
        → IsListedAs o (arranged_object p t) (record x { listed = next })
    by_tail None passed listing =
        relisted o p x is next p (same_frame p) is.object refl (λ some. refl)
        (λ s there. moved None (section_at p s)) listing
    by_tail (Some n) passed listing =
        relisted o p x is next (placed_from p n) (placed_same p n is.frame.marked)
        (placed_from_is p n is.object passed) (placing_keeps p n).count
        (λ some. section_placed p n 0 some ∙ first_from p n (section_at p 0))
        (λ s there.
        subst (IsMovedFrom (section_at p s))
        (sym (section_placed p n s there ∙ from_moved p n s (section_at p s)))
        (moved (place_from p n s) (section_at p s))) listing

    placed_listed : IsArrangedTo p x.tail next
        → IsListedAs o (arranged_object p x.tail) (record x { listed = next })
    placed_listed to = by_tail x.tail to.passed to.listed

-- ---- What the step answers

pub not_listable : (x : Arranged) → PlacesAgain x (Err Memory)
not_listable x = record { ok = tt; small = tt; stays = tt; err = inl refl }

module _ (x : Arranged) where
  pub placed_again : (next : HeaderListing) → IsListable x → ArrangesTo x.listed x.tail (Ok next)
      → PlacesAgain x (Ok (record x { listed = next }))
  placed_again next small arranges = record {
    ok = λ o p is.
        let to = arranges.ok p (listing_is o p x is) in
        record { passed = to.passed; listed = placed_listed o p x is next to };
    small = record {
      few =
          let count = arranges.count in
          let few = small.few in
          omega (arith, few, count);
      same = arranges.sizes ∙ sym arranges.count;
    };
    stays = record { ranges = refl; tail_is = refl };
    err = tt;
  }

  pub not_placed : (e : ElfError) → ArrangesTo x.listed x.tail (Err e) → PlacesAgain x (Err e)
  not_placed e arranges = by arranges.err
    where
      by : (e ≡ Memory) ⊎ IsRefusedTo x.listed x.tail e → PlacesAgain x (Err e)
      by (inl want) = record { ok = tt; small = tt; stays = tt; err = inl want }
      by (inr refused) = record {
        ok = tt;
        small = tt;
        stays = tt;
        err = inr (record {
          error = refused.error;
          refused = λ o p is. refused.refused p (listing_is o p x is);
        });
      }
