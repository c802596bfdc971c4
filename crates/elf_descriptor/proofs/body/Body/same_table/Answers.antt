use Rattle.std.proofs.Common.{◌≡◌, ◌∙◌, true, false, length, refl, sym, ap, arith}
use Rattle.section_table.specs.elf_xlate.Headers.{IsShdr}
use Rattle.elf_descriptor.specs.Fronts.{stored_shdrs}
use Rattle.elf_descriptor.proofs.FrontTables.{table_elsewhere, table_compared, compares_is, stored_count}
use Rattle.elf_descriptor.proofs.body.Body.same_table.Goals as goal

pub same_shdrs-requires-clause-count : goal.same_shdrs-requires-clause-count
same_shdrs-requires-clause-count c =
    let yes : c.same_extent.result ≡ true = cc in
    let alike = c.same_extent.ensures.alike yes in
    let known = c.requires.counts.shnum in
    let count = c.len.ensures in
    let read = ap length c.as_slice.ensures in
    omega (arith, alike, known, count, read, c.from-count.ensures)

pub returns-then-not-same_extent : goal.returns-then-not-same_extent
returns-then-not-same_extent c =
    let no : c.same_extent.result ≡ false = cc in
    let front = c.args.front.now in
    let known = c.requires.counts.shnum in
    let rows = stored_shdrs c.args.places.now c.args.h.now c.args.self.now in
    let stored = stored_count c.args.places.now c.args.h.now c.args.self.now in
    let count : c.from-count.result ≡ length rows =
    omega (arith, stored, known, c.from-count.ensures) in
    λ class order fits table.
    table_elsewhere class order c.args.h.now.shoff front.header.shoff rows front.shdrs
    c.from-count.result c.len.result count c.len.ensures (sym c.same_extent.ensures.value ∙ no)

pub returns : goal.returns
returns c =
    let yes : c.same_extent.result ≡ true = cc in
    let front = c.args.front.now in
    let known = c.requires.counts.shnum in
    let rows = stored_shdrs c.args.places.now c.args.h.now c.args.self.now in
    let stored = stored_count c.args.places.now c.args.h.now c.args.self.now in
    let count : c.from-count.result ≡ length rows =
    omega (arith, stored, known, c.from-count.ensures) in
    λ class order fits table.
    table_compared class order c.args.h.now.shoff front.header.shoff rows front.shdrs
    (c.shdr_both_ways.ensures.written class order) c.same_shdrs.result
    (compares_is IsShdr c.same_shdrs.result rows c.as_slice.result.now rows front.shdrs
    refl c.as_slice.ensures c.same_shdrs.ensures)
    c.from-count.result c.len.result count c.len.ensures
    (sym c.same_extent.ensures.value ∙ yes) fits table
