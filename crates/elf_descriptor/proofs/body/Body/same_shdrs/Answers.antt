use Rattle.std.proofs.Common.{◌≡◌, ◌∙◌, true, false, sym, arith, below_more}
use Rattle.section_table.specs.elf_ident.Front.{zero_shdr}
use Rattle.elf_descriptor.proofs.FrontTables.{row_here, row_differs, found_below, same_lists, stored_count, true_is_false}
use Rattle.elf_descriptor.proofs.body.Body.same_shdrs.Goals as goal

pub loop-s-init : goal.loop-s-init
loop-s-init c = λ k below. absurd (omega (arith, below))

pub same_at-requires-clause-there : goal.same_at-requires-clause-there
same_at-requires-clause-there c = let known = c.requires.counts.shnum in omega (arith, known)

pub same_at-requires-clause-places : goal.same_at-requires-clause-places
same_at-requires-clause-places c =
    let places = c.requires.places in
    let known = c.requires.counts.shnum in
    omega (arith, places, known)

pub same_at-requires-clause-table : goal.same_at-requires-clause-table
same_at-requires-clause-table c =
    let known = c.requires.counts.shnum in
    let count = c.requires.count in
    omega (arith, known, count)

pub loop-s-preserved : goal.loop-s-preserved
loop-s-preserved c =
    let yes : c.same_at.result ≡ true = cc in
    let known = c.requires.counts.shnum in
    below_more _ _ c.loop-s.invariant
    (row_here zero_shdr c.args.places.now c.args.h.now c.args.self.now c.args.table.now c.loop-s.s
    (omega (arith, known, c.loop-s-test.true)) (c.same_at.ensures.same.0 yes))

pub returns-then-not-same_at : goal.returns-then-not-same_at
returns-then-not-same_at c =
    let no : c.same_at.result ≡ false = cc in
    let table = c.args.table.now in
    let known = c.requires.counts.shnum in
    let count = c.requires.count in
    let found =
    found_below table c.loop-s.s zero_shdr (omega (arith, known, count, c.loop-s-test.true)) in
    row_differs c.args.places.now c.args.h.now c.args.self.now table c.loop-s.s _
    (omega (arith, known, c.loop-s-test.true)) found
    (λ same. true_is_false (sym (c.same_at.ensures.same.1 same) ∙ no)) c.same_at.ensures.ranged

pub returns : goal.returns
returns c =
    let known = c.requires.counts.shnum in
    let stored = stored_count c.args.places.now c.args.h.now c.args.self.now in
    same_lists zero_shdr _ c.args.table.now c.loop-s.s (stored ∙ c.requires.count)
    (omega (arith, known, stored, c.loop-s-test.false)) c.loop-s.invariant
