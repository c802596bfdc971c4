use Rattle.std.proofs.Common.{ℕ, ◌∙◌}
use Rattle.std.specs.Prelude.{slice_get}
use Rattle.elf_types.specs.declared.records.Sym.{Sym}
use Rattle.rebuild_select.specs.rebuild_model.Followed.{followed_by_word, followed_syms}
use Rattle.rebuild_numbers.proofs.RowLaws.{rows_more, rows_all}
use Rattle.rebuild_numbers.proofs.symbols.fill_syms.Goals as goal

pub loop-i-preserved : goal.loop-i-preserved
loop-i-preserved c =
    let m = c.args.numbering.now in
    let words = c.args.words.now in
    c.in_ok-push.ensures.ok
    ∙ rows_more (λ (row : ℕ × Sym). followed_by_word m (slice_get words row.0) row.1)
    c.args.syms.now c.loop-i.made c.loop-i.i _ c.followed_row.result c.loop-i-test.true
    c.loop-i.invariant c.followed_row.ensures

pub returns-clause-ok : goal.returns-clause-ok
unfolding followed_syms
returns-clause-ok c =
    let m = c.args.numbering.now in
    let words = c.args.words.now in
    rows_all (λ (row : ℕ × Sym). followed_by_word m (slice_get words row.0) row.1)
    c.args.syms.now c.loop-i.made c.loop-i.i c.loop-i-test.false c.loop-i.invariant
