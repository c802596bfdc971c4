use Rattle.std.proofs.Common.{◌≡◌, false}
use Rattle.elf_types.specs.declared.records.Part.TheVariants as part
use Rattle.rebuild_image.specs.Ranges.Ranges.{kept_of_parts, AreInside}
use Rattle.rebuild_image.proofs.ranges.CheckLaws.{all_inside, sections_inside, no_by, never_both}
use Rattle.rebuild_image.proofs.ranges.checks.are_inside.Goals as goal

pub returns-then-not-header : goal.returns-then-not-header
returns-then-not-header g c =
    let no : c.is_inside-header.result ≡ false = cc in
    no_by (AreInside (kept_of_parts g.S.Source c.args.parts.now))
    (λ inside. never_both c.is_inside-header.result
    (c.is_inside-header.ensures.1 (inside part.Header)) no)

pub returns-then-not-segments : goal.returns-then-not-segments
returns-then-not-segments g c =
    let no : c.is_inside-segments.result ≡ false = cc in
    no_by (AreInside (kept_of_parts g.S.Source c.args.parts.now))
    (λ inside. never_both c.is_inside-segments.result
    (c.is_inside-segments.ensures.1 (inside part.Segments)) no)

pub returns-then-not-table : goal.returns-then-not-table
returns-then-not-table g c =
    let no : c.is_inside-table.result ≡ false = cc in
    no_by (AreInside (kept_of_parts g.S.Source c.args.parts.now))
    (λ inside. never_both c.is_inside-table.result
    (c.is_inside-table.ensures.1 (inside part.Table)) no)

pub returns : goal.returns
returns g c = (
  (λ is.
      all_inside (kept_of_parts g.S.Source c.args.parts.now)
      (c.is_inside-header.ensures.0 c.if-not-header.false)
      (c.is_inside-segments.ensures.0 c.if-not-segments.false)
      (c.is_inside-table.ensures.0 c.if-not-table.false)
      (c.are_sections_inside.ensures.0 is)),
  λ inside.
      c.are_sections_inside.ensures.1
      (sections_inside (kept_of_parts g.S.Source c.args.parts.now) inside),
)
