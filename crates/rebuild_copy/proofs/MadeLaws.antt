-- What lists an object makes that object.
use Rattle.std.proofs.Common.{◌≡◌, ◌<◌, ℕ, true, List, [], length, take, append-nil, Option, sym, ap, ◌∙◌, arith}
use Rattle.std.specs.Prelude.{unwrap_or, is_some}
use Rattle.std.proofs.lemmas.Option.{unwrap_or-slice_get}
use Rattle.elf_types.specs.declared.records.Kind.TheVariants as kinds
use Rattle.elf_xlate.specs.Translation.{encoded}
use Rattle.elf_ident.specs.Front.{zero_shdr}
use Rattle.elf_object.specs.Object.{Object, section_at, occupies_file}
use Rattle.elf_object.specs.Sections.{header_at}
use Rattle.rebuild_plan.specs.rebuild_image.declared.ranges.ranges.ByteRange.{ByteRange}
use Rattle.rebuild_plan.specs.rebuild_image.Ranges.Ranges.{range_bytes}
use Rattle.rebuild_plan.specs.declared.arranged.Arranged.{Arranged}
use Rattle.rebuild_object.specs.Objects.{no_range, arranged_header, range_in, arranged_kind, object_over}
use Rattle.rebuild_object.specs.Planned.{IsMadeWith, IsCreatedWith}
use Rattle.rebuild_object.proofs.PlanLaws.{IsShownOver, made_is}
use Rattle.rebuild_copy.specs.Rows.{empty_held_range, gathered_range, Origin, RowOf, IsListedAs}
use Rattle.rebuild_copy.proofs.ListLaws.{get_or_same}

module _ (o : Origin) (p : Object) (x : Arranged) (is : IsListedAs o p x) where
  -- ---- One section

  module _ (s : ℕ) (there : s < length p.sections) where
    row : RowOf p (o.bases.each s) x s
    row = is.rows s there

    head_is : arranged_header x s ≡ header_at p s
    head_is = sym (unwrap_or-slice_get x.listed.headers s zero_shdr) ∙ row.header

    made_with : IsMadeWith p.header.class (arranged_kind x s) (section_at p s)
    made_with = record {
      own = row.own;
      section = row.section;
      kind_is = row.kind_is ∙ unwrap_or-slice_get x.kinds s kinds.Empty;
      are = row.are;
      fits = row.fits;
    }

    range_is : range_in x s ≡ gathered_range x s
    range_is =
        let count = is.count in
        let ranged = is.counted.ranged in
        get_or_same x.ranges s no_range empty_held_range (omega (arith, there, count, ranged))
        ∙ sym (unwrap_or-slice_get x.ranges s empty_held_range)

    bytes_are : occupies_file (header_at p s) ≡ true
        → range_bytes x.held (o.bases.each s) (range_in x s)
        ≡ encoded p.header.class p.header.order row.own
    bytes_are filled =
        ap (λ (r : ByteRange). range_bytes x.held (o.bases.each s) r) range_is
        ∙ ap (λ (l : List ℕ). range_bytes l (o.bases.each s) (gathered_range x s))
        (sym (append-nil x.held))
        ∙ row.range_is filled []

  -- ---- The object

  created : IsCreatedWith o.object x.kinds p
  created = record {
    class = is.frame.class;
    order = is.frame.order;
    header = is.frame.new;
    front = is.frame.front;
    marked = is.frame.unmarked;
    header_marked = is.frame.marked;
    segments_marked = is.frame.segments_marked;
    first = is.first;
    others = λ s some there. made_with s there;
  }

  shown : IsShownOver o.object o.bases p x created
  unfolding created made_with bytes_are
  shown = record {
    object = is.object;
    header = is.header;
    count = is.count;
    headers = λ s there. head_is s there;
    bytes = λ s some there filled. bytes_are s there filled;
    layout = is.frame.layout ∙ ap (λ (t : Option ℕ). is_some t) (sym is.tail_is);
    pad = is.frame.pad;
    segments = is.frame.phdrs;
    fill = is.frame.fill;
    below = ap (λ (t : Option ℕ). take (unwrap_or t 0) o.bases.front) is.tail_is
        ∙ is.frame.base;
  }

  pub made_over : object_over o.bases o.object x ≡ p
  made_over = made_is o.object o.bases p x created shown
