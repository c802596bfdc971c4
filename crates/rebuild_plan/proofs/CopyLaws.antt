-- The plan of an image whose headers are listed, and whose sections are ranges.
use Rattle.std.proofs.Common.{◌≡◌, ◌<◌, ◌==◌, ◌||◌, ℕ, Bool, true, not, List, [], ◌++◌, length, take, Option, Ok, Err, Result, if◌then◌else◌, refl, sym, ap, ◌∙◌, subst}
use Rattle.std.specs.Prelude.{slice_get, unwrap_or, is_some}
use Rattle.std.proofs.lemmas.List.{append-nil}
use Rattle.std.proofs.Math.ListN.{replicate}
use Rattle.elf_types.specs.declared.constants.TheConstants.{SHT_NULL, SHT_NOBITS}
use Rattle.elf_types.specs.declared.records.Class.{Class}
use Rattle.elf_types.specs.declared.records.Order.{Order}
use Rattle.elf_types.specs.declared.records.Ehdr.{Ehdr}
use Rattle.elf_types.specs.declared.records.Phdr.{Phdr}
use Rattle.elf_types.specs.declared.records.Part.TheVariants as part
use Rattle.elf_types.specs.declared.errors.ElfError.{ElfError}
use Rattle.elf_types.specs.declared.errors.ElfError.TheVariants.{Memory}
use Rattle.elf_outside.specs.Asks.{ReadRose}
use Rattle.elf_outside.proofs.AskLemmas.{read_rose_on}
use Rattle.law_rebuild.specs.elf_object.Object.{Object, Section, header_of, section_at, occupies_file, has_file_bytes}
use Rattle.law_rebuild.specs.elf_object.Derived.{derived_header}
use Rattle.law_rebuild.specs.elf_object.Joined.{aligned_pieces}
use Rattle.law_rebuild.specs.elf_object.Layout.{places_of, placed, placed_by, placed_header, placed_section}
use Rattle.law_rebuild.proofs.law_object.ImageLaws.{placed-dirty, section_at-placed}
use Rattle.law_rebuild.proofs.law_object.StandLaws.{type-placed, file_bytes_when}
use Rattle.law_rebuild.specs.law_object.Writing.Ready.{IsReady}
use Rattle.rebuild_tables.specs.elf_update_plan.Placing.{IsRefused}
use Rattle.rebuild_tables.proofs.elf_update_plan.PlacingLaws.{wants_as}
use Rattle.rebuild_tables.proofs.elf_update_plan.RowLaws.{ok_is}
use Rattle.rebuild_tables.specs.elf_update_to.Descriptors.{stored_pieces}
use Rattle.rebuild_tables.specs.rebuild_image.declared.ranges.ranges.ByteRange.{ByteRange}
use Rattle.rebuild_tables.specs.rebuild_image.Ranges.Ranges.{pieces_at}
use Rattle.rebuild_tables.specs.rebuild_image.declared.listed.listed.HeaderListing.{HeaderListing}
use Rattle.rebuild_tables.specs.rebuild_image.declared.streaming.Streamed.{Streamed}
use Rattle.rebuild_tables.specs.rebuild_image.Holding.{IsHeldFrontOf}
use Rattle.rebuild_tables.specs.rebuild_image.Planning.{IsLaidOut}
use Rattle.rebuild_tables.specs.rebuild_image.Streams.{IsStreamed}
use Rattle.rebuild_tables.proofs.rebuild_image.StoredLaws.{placed_class}
use Rattle.rebuild_tables.proofs.rebuild_image.StreamLaws.{streamed_parts_are_ranges}
use Rattle.rebuild_tables.proofs.rebuild_image.UnreadLaws.{wanted_unread}
use Rattle.rebuild_plan.specs.declared.plans.RangedPlan.{RangedPlan}
use Rattle.rebuild_plan.specs.Plans.{plan_of, new_header, AreRangesBy, IsRangedAs, PlansCopied, kept_with}

pub header_new : (o : Object) (h : Ehdr) (index count : ℕ)
    → ◌≡◌ {A = Result Ehdr ElfError} (Ok h) (Ok (header_of o))
    → record h {
      version = 1;
      ehsize = 0;
      phentsize = 0;
      shentsize = 0;
      shnum = count;
      shstrndx = index;
    } ≡ new_header o index count
unfolding new_header
header_new o h index count told =
    ap (λ (x : Ehdr). record x {
      version = 1;
      ehsize = 0;
      phentsize = 0;
      shentsize = 0;
      shnum = count;
      shstrndx = index;
    }) (ok_is h (header_of o) told)

-- ---- What is stored of a section once its place is

placed_order : (q : Object) → IsReady q → (placed q).header.order ≡ q.header.order
unfolding placed_by placed_header derived_header header_of
placed_order q ready = ap (λ (m : Object). m.header.order) (placed-dirty q ready.dirty)

module _ (q : Object) (s : ℕ) (ready : IsReady q) (first : 0 < s) (there : s < length q.sections)
    (filled : occupies_file (section_at q s).header ≡ true) where
  abbrev now : Section
  now = placed_section (places_of q) q s (section_at q s)

  placed_at : section_at (placed q) s ≡ now
  placed_at =
      ap (λ (m : Object). section_at m s) (placed-dirty q ready.dirty)
      ∙ section_at-placed (places_of q) q s there

  now_filled : occupies_file now.header ≡ true
  unfolding placed_section
  now_filled =
      ap (λ (t : ℕ). not (t == SHT_NULL || t == SHT_NOBITS))
      (type-placed (places_of q) q s (section_at q s).header)
      ∙ filled

  placed_filled : has_file_bytes s (section_at (placed q) s) ≡ true
  placed_filled =
      ap (has_file_bytes s) placed_at ∙ file_bytes_when s now first ∙ now_filled

  pieces_same : (class : Class) (order : Order)
      → aligned_pieces class order now ≡ aligned_pieces class order (section_at q s)
  unfolding aligned_pieces placed_section
  pieces_same class order = refl

  stored_is : stored_pieces (placed q) (part.Section s)
      ≡ aligned_pieces q.header.class q.header.order (section_at q s)
  stored_is =
      ap (λ (b : Bool). if b then aligned_pieces (placed q).header.class (placed q).header.order
      (section_at (placed q) s) else []) placed_filled
      ∙ ap (aligned_pieces (placed q).header.class (placed q).header.order) placed_at
      ∙ pieces_same (placed q).header.class (placed q).header.order
      ∙ ap (λ (c : Class). aligned_pieces c (placed q).header.order (section_at q s))
      (placed_class q ready)
      ∙ ap (λ (d : Order). aligned_pieces q.header.class d (section_at q s))
      (placed_order q ready)

-- ---- The plan

module _ (phdrs : List Phdr) (base : List ℕ) (q : Object) (x : HeaderListing) (ranges : List ByteRange)
    (held next : List ℕ) (tail : Option ℕ) (streamed : Streamed)
    (is : IsRangedAs phdrs base q x ranges held tail) (made : IsStreamed q held next streamed)
  where
    abbrev plan : RangedPlan
    plan = plan_of next ranges (unwrap_or tail 0) streamed

    front_kept : (under : List ℕ) → IsHeldFrontOf (placed q) next under (record {
      header = streamed.front.header;
      segments = streamed.front.segments;
      table = streamed.front.table;
    })
    front_kept under =
        let front = subst (λ (l : List ℕ). IsHeldFrontOf (placed q) l under streamed.front)
        (append-nil next) (made.front [] under) in
        record { header = front.header; segments = front.segments; table = front.table }

    section_kept : (under : List ℕ) → under ≡ base → (s : ℕ) → 0 < s → s < length q.sections
        → occupies_file (section_at q s).header ≡ true
        → pieces_at next under (slice_get ranges s) ≡ stored_pieces (placed q) (part.Section s)
    section_kept under same s first there filled =
        ap (λ (l : List ℕ). pieces_at l under (slice_get ranges s)) made.all
        ∙ ap (λ (l : List ℕ). pieces_at (held ++ made.bytes) l (slice_get ranges s)) same
        ∙ is.ranges.each s first there filled made.bytes
        ∙ sym (stored_is q s made.planned.ready first there filled)

    are_ranges : AreRangesBy q base plan
    are_ranges e same =
        streamed_parts_are_ranges q (kept_with e plan) streamed.planned (record {
          planned = made.planned;
          fill = is.fill;
          kept = sym is.kept;
          base = ap (take (unwrap_or tail 0)) same ∙ is.below;
          front = front_kept e.base;
          sections = section_kept e.base same;
        })

-- ---- What the step answers

module _ (all : List Phdr) (x : HeaderListing) (ranges : List ByteRange) (held : List ℕ)
    (tail : Option ℕ) where
  -- no program headers are listed
  pub segments_wanted : (e : ElfError) → e ≡ Memory → PlansCopied all x ranges held tail (Err e)
  segments_wanted e want = record {
    ok = tt;
    err = λ base q is. wants_as q e is.laid.dirty is.laid.content want;
    unread = wanted_unread RangedPlan e want;
  }

  module _ (layout : Bool) (kept : ℕ) (phdrs slice : List Phdr) (laid : layout ≡ is_some tail)
      (kept_is : kept ≡ unwrap_or tail 0) (listed : phdrs ≡ all) (at : slice ≡ phdrs) where
    laid_as : (base : List ℕ) (q : Object) → IsRangedAs all base q x ranges held tail
        → IsLaidOut q x layout kept
    laid_as base q is =
        subst (λ (b : Bool). IsLaidOut q x b kept) (sym laid)
        (subst (λ (n : ℕ). IsLaidOut q x (is_some tail) n) (sym kept_is) is.laid)

    pub copied_planned : (next : List ℕ) (streamed : Streamed)
        → ((q : Object) → IsLaidOut q x layout kept → replicate 7 0 ≡ q.pad
        → slice ≡ q.phdrs → IsStreamed q held next streamed)
        → PlansCopied all x ranges held tail (Ok (plan_of next ranges kept streamed))
    copied_planned next streamed made = record {
      ok = λ base q is.
          subst (λ (n : ℕ). AreRangesBy q base (plan_of next ranges n streamed)) (sym kept_is)
          (are_ranges all base q x ranges held next tail streamed is
          (made q (laid_as base q is) (sym is.pad) (at ∙ listed ∙ sym is.segments)));
      err = tt;
      unread = λ a b. tt;
    }

    pub copied_refused : (e : ElfError)
        → ((q : Object) → IsLaidOut q x layout kept → slice ≡ q.phdrs → IsRefused q e)
        → ((a b : ℕ) → ReadRose {T = Streamed} (Err e) a b)
        → PlansCopied all x ranges held tail (Err e)
    copied_refused e refused unread = record {
      ok = tt;
      err = λ base q is. refused q (laid_as base q is) (at ∙ listed ∙ sym is.segments);
      unread = λ a b. read_rose_on Streamed RangedPlan e a b (unread a b);
    }
