use Rattle.std.proofs.Common.{ℕ, ◌∙◌}
use Rattle.std.specs.Prelude.{slice_get}
use Rattle.rebuild_select.specs.rebuild_model.Followed.{word_of_sym, followed_words}
use Rattle.rebuild_numbers.proofs.RowLaws.{rows_more, rows_all}
use Rattle.rebuild_numbers.proofs.words.fill_words.Goals as goal

pub loop-i-preserved : goal.loop-i-preserved
loop-i-preserved c =
    let m = c.args.numbering.now in
    let syms = c.args.syms.now in
    c.in_ok-push.ensures.ok
    ∙ rows_more (λ (row : ℕ × ℕ). word_of_sym m row.1 (slice_get syms row.0))
    c.args.words.now c.loop-i.made c.loop-i.i _ c.followed_row.result c.loop-i-test.true
    c.loop-i.invariant c.followed_row.ensures

pub returns-clause-ok : goal.returns-clause-ok
unfolding followed_words
returns-clause-ok c =
    let m = c.args.numbering.now in
    let syms = c.args.syms.now in
    rows_all (λ (row : ℕ × ℕ). word_of_sym m row.1 (slice_get syms row.0))
    c.args.words.now c.loop-i.made c.loop-i.i c.loop-i-test.false c.loop-i.invariant
