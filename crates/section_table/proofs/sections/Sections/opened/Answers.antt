use Rattle.std.proofs.Common.{List, length, ap, arith}
use Rattle.std.specs.Prelude.{vec_capacity}
use Rattle.elf_types.specs.declared.records.Shdr.{Shdr}
use Rattle.section_table.proofs.Beginnings.{begun_sections, begun_view}
use Rattle.section_table.proofs.sections.Sections.opened.Goals as goal

pub invariant_of-result : goal.invariant_of-result
invariant_of-result c =
    let same = ap (λ (l : List Shdr). length l) c.in_ok-headers.ensures.ok in
    begun_sections c.args.size (vec_capacity c.in_ok-cells.cells) c.len-count.result
    c.in_ok-headers.headers c.in_ok-marks.marks.items c.in_ok-slots.slots.items
    c.in_ok-cells.cells.items c.len-count.ensures c.in_ok-marks.ensures.ok c.in_ok-slots.ensures.ok
    (omega (arith, c.requires, same)) c.in_ok-cells.ensures.ok c.in_ok-cells.ensures.room

pub returns-clause-ok : goal.returns-clause-ok
returns-clause-ok c =
    begun_view c.args.size (vec_capacity c.in_ok-cells.cells) c.len-count.result
    c.in_ok-headers.headers c.in_ok-marks.marks.items c.in_ok-slots.slots.items
    c.in_ok-cells.cells.items c.len-count.ensures c.in_ok-marks.ensures.ok c.in_ok-slots.ensures.ok
    c.args.table c.in_ok-headers.ensures.ok
