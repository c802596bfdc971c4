use Rattle.std.proofs.Common.{◌≡◌, ◌∙◌, true, false, sym}
use Rattle.section_table.specs.elf_xlate.Headers.{IsPhdr}
use Rattle.elf_descriptor.proofs.FrontTables.{segments_elsewhere, segments_compared, compares_is}
use Rattle.elf_descriptor.proofs.body.Body.same_segments.Goals as goal

pub returns-then-not-same_extent : goal.returns-then-not-same_extent
returns-then-not-same_extent c =
    let no : c.same_extent.result ≡ false = cc in
    let front = c.args.front.now in
    λ class order fits table.
    segments_elsewhere class order c.args.at front.header.phoff c.args.self.now.phdrs front.phdrs
    c.len.result c.len-2.result c.len.ensures c.len-2.ensures
    (sym c.same_extent.ensures.value ∙ no)

pub returns : goal.returns
returns c =
    let yes : c.same_extent.result ≡ true = cc in
    let front = c.args.front.now in
    λ class order fits table.
    segments_compared class order c.args.at front.header.phoff c.args.self.now.phdrs front.phdrs
    (c.phdr_both_ways.ensures.written class order) c.same_phdrs.result
    (compares_is IsPhdr c.same_phdrs.result c.as_slice.result.now c.as_slice-2.result.now
    c.args.self.now.phdrs front.phdrs c.as_slice.ensures c.as_slice-2.ensures c.same_phdrs.ensures)
    c.len.result c.len-2.result c.len.ensures c.len-2.ensures
    (sym c.same_extent.ensures.value ∙ yes) fits table
