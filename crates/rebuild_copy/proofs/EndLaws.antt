-- What was gathered of an object, as rebuild_plan sees it: its headers are listed, its sections
-- are ranges, and an update writes it where its places allow that.
use Rattle.std.proofs.Common.{◌≡◌, ◌<◌, ℕ, zero, suc, Bool, true, false, List, [], ◌∷◌, ◌++◌, length, take, Option, Some, None, if◌then◌else◌, refl, sym, ap, ◌∙◌, subst, arith}
use Rattle.std.specs.Prelude.{All, unwrap_or, is_some}
use Rattle.std.proofs.lemmas.List.Elements.{All-nil, All-cons, All-from_get_or}
use Rattle.std.proofs.lemmas.Option.{unwrap_or-slice_get, slice_get-get_or}
use Rattle.elf_xlate.specs.declared.content.Items.{Items}
use Rattle.elf_xlate.specs.Translation.{encoded, first_unfit}
use Rattle.elf_ident.specs.Front.{zero_shdr}
use Rattle.elf_object.specs.Object.{Object, Section, Piece, section_at, absent_section, occupies_file, has_file_bytes}
use Rattle.elf_object.specs.Image.{kept_base}
use Rattle.elf_object.specs.Joined.{file_bytes}
use Rattle.elf_object.specs.Steps.{own_piece}
use Rattle.law_object.proofs.ImageLaws.{joined-none}
use Rattle.law_object.proofs.StandLaws.{file_bytes_when}
use Rattle.elf_object.specs.Sections.{header_at}
use Rattle.law_rebuild.proofs.strip.WritableLaws.{OwnFits, HasOwnPieces, HasContent, is_writable}
use Rattle.law_rebuild.proofs.copy.Reopened.{piece_bytes_are}
use Rattle.rebuild_plan.specs.rebuild_image.declared.ranges.ranges.ByteRange.{ByteRange}
use Rattle.rebuild_plan.specs.rebuild_image.Ranges.Ranges.{range_bytes, pieces_at}
use Rattle.rebuild_plan.specs.declared.arranged.Arranged.{Arranged}
use Rattle.rebuild_plan.specs.Contents.{kept_size}
use Rattle.rebuild_plan.specs.Plans.{HasRanges, IsRangedBy, MayBeWritten}
use Rattle.rebuild_plan.specs.rebuild_image.Listed.Listing.{IsHeaderListing}
use Rattle.rebuild_copy.specs.Rows.{empty_held_range, size_in, Origin, origin, IsListedAs}
use Rattle.rebuild_copy.proofs.RowLaws.{row_inside, row_pieces, first_empty}
use Rattle.rebuild_copy.proofs.NameLaws.{one_aligned}

-- ---- How many bytes a section has in the file

zero_has : (c : Section) → has_file_bytes 0 c ≡ false
unfolding has_file_bytes
zero_has c = refl

pub file_size : (p : Object) (s : ℕ) (own : Items)
    → (section_at p s).pieces
    ≡ (if occupies_file (header_at p s) then own_piece own 1 ∷ [] else [])
    → (s ≡ 0 → occupies_file (header_at p s) ≡ false)
    → length (file_bytes p s)
    ≡ kept_size (header_at p s) (length (encoded p.header.class p.header.order own))
file_size p s own pieces first = by_kind s (occupies_file (header_at p s)) refl pieces first
  where
    empty_at : (t : ℕ) → has_file_bytes t (section_at p t) ≡ false
        → length (file_bytes p t) ≡ 0
    empty_at t none = ap (λ (l : List ℕ). length l) (joined-none p t none)

    by_kind : (t : ℕ) (b : Bool) → occupies_file (header_at p t) ≡ b
        → (section_at p t).pieces
        ≡ (if occupies_file (header_at p t) then own_piece own 1 ∷ [] else [])
        → (t ≡ 0 → occupies_file (header_at p t) ≡ false)
        → length (file_bytes p t)
        ≡ kept_size (header_at p t) (length (encoded p.header.class p.header.order own))
    by_kind zero b at are none =
        empty_at 0 (zero_has (section_at p 0))
        ∙ sym (ap (λ (c : Bool). if c
        then length (encoded p.header.class p.header.order own) else 0) (none refl))
    by_kind (suc t) true at are none =
        ap (λ (l : List ℕ). length l)
        (piece_bytes_are p (suc t) own
        (are ∙ ap (λ (c : Bool). if c then own_piece own 1 ∷ [] else []) at) (omega arith) at)
        ∙ sym (ap (λ (c : Bool). if c
        then length (encoded p.header.class p.header.order own) else 0) at)
    by_kind (suc t) false at are none =
        empty_at (suc t)
        (file_bytes_when (suc t) (section_at p (suc t)) (omega arith) ∙ at)
        ∙ sym (ap (λ (c : Bool). if c
        then length (encoded p.header.class p.header.order own) else 0) at)

module _ (o : Origin) (p : Object) (x : Arranged) (is : IsListedAs o p x) where
  pub zero_first : (s : ℕ) → s ≡ 0 → occupies_file (header_at p s) ≡ false
  zero_first s at = ap (λ (k : ℕ). occupies_file (header_at p k)) at ∙ first_empty o p x is

  size_is : (s : ℕ) → s < length p.sections → size_in x s ≡ length (file_bytes p s)
  size_is s there =
      let row = is.rows s there in
      row.size_is ∙ sym (file_size p s row.own (row_pieces row) (zero_first s))

  pub listing_is : IsHeaderListing p x.listed
  listing_is = record {
    header = is.header;
    count = is.count;
    sized = is.counted.sized ∙ is.count;
    headers = λ s there.
        sym (unwrap_or-slice_get x.listed.headers s zero_shdr) ∙ (is.rows s there).header;
    sizes = λ s there. sym (unwrap_or-slice_get x.listed.sizes s 0) ∙ size_is s there;
    small = λ s there.
        let same = size_is s there in
        let small = (is.rows s there).small in
        omega (arith, same, small);
  }

  -- ---- It may be written

  owned_at : (s : ℕ) → s < length p.sections → HasOwnPieces p.header.class (section_at p s)
  owned_at s there =
      let row = is.rows s there in
      record {
        inside = row_inside row;
        pieces = subst (λ (l : List Piece). All (OwnFits p.header.class) l)
            (sym (row_pieces row)) (by_kind row.own row.fits (occupies_file (header_at p s)));
      }
    where
      by_kind : (own : Items) → first_unfit p.header.class own ≡ None → (b : Bool)
          → All (OwnFits p.header.class) (if b then own_piece own 1 ∷ [] else [])
      by_kind own fits true =
          All-cons (OwnFits p.header.class) (own_piece own 1) [] (own, refl, fits)
          (All-nil (OwnFits p.header.class))
      by_kind own fits false = All-nil (OwnFits p.header.class)

  all_owned : All (HasOwnPieces p.header.class) p.sections
  unfolding section_at
  all_owned = All-from_get_or (HasOwnPieces p.header.class) p.sections absent_section owned_at

  content : HasContent p
  content = record {
    few = is.frame.few;
    first = first_empty o p x is;
    segments = is.frame.segments;
    sections = all_owned;
    marked = is.frame.marked;
  }

  pub may_be_written : MayBeWritten p
  may_be_written =
      let writable = is_writable p content in
      record { object = is.object; dirty = writable.dirty; content = writable.content }

-- ---- Over a source that tells its bytes

kept_is : (q : Object) (tail : Option ℕ) → q.layout ≡ is_some tail
    → length q.base ≡ unwrap_or tail 0 → kept_base q ≡ unwrap_or tail 0
unfolding kept_base
kept_is q None layout long = ap (λ (b : Bool). if b then length q.base else 0) layout
kept_is q (Some n) layout long = ap (λ (b : Bool). if b then length q.base else 0) layout ∙ long

module _ (o : Object) (tail : Option ℕ) (q : Object) (x : Arranged)
    (is : IsListedAs (origin o tail) q x) where
  ranges : HasRanges q o.base x.held x.ranges
  ranges = record {
    each = λ s first there filled later.
        let row = is.rows s there in
        let count = is.count in
        let ranged = is.counted.ranged in
        let below : s < length x.ranges = omega (arith, there, count, ranged) in
        let one : List ℕ → List (ℕ × List ℕ) = λ l. (1, l) ∷ [] in
        ap (pieces_at (x.held ++ later) o.base)
        (slice_get-get_or x.ranges s empty_held_range below)
        ∙ ap (λ (r : ByteRange). one (range_bytes (x.held ++ later) o.base r))
        (sym (unwrap_or-slice_get x.ranges s empty_held_range))
        ∙ ap one (row.range_is filled later)
        ∙ sym (one_aligned q.header.class q.header.order (section_at q s) row.own
        (row_pieces row ∙ ap (λ (b : Bool). if b then own_piece row.own 1 ∷ [] else []) filled));
  }

  pub ranged_is : IsRangedBy o.phdrs o.base q x
  ranged_is =
      let may = may_be_written (origin o tail) q x is in
      let layout = is.frame.layout ∙ ap (λ (t : Option ℕ). is_some t) (sym is.tail_is) in
      let long = is.frame.long ∙ ap (λ (t : Option ℕ). unwrap_or t 0) (sym is.tail_is) in
      record {
        laid = record {
          object = may.object;
          dirty = may.dirty;
          content = may.content;
          listed = listing_is (origin o tail) q x is;
          layout_is = layout;
          base_is = long;
        };
        pad = is.frame.pad;
        segments = is.frame.phdrs;
        fill = is.frame.fill;
        below = ap (λ (t : Option ℕ). take (unwrap_or t 0) o.base) is.tail_is ∙ is.frame.base;
        kept = kept_is q x.tail layout long;
        ranges = ranges;
      }
