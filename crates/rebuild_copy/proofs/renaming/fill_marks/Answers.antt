use Rattle.std.proofs.Common.{List, get_or, refl, ap, ◌∙◌, arith}
use Rattle.rebuild_changes.specs.declared.changes.NameBytes.{NameBytes}
use Rattle.rebuild_edits.proofs.edits.RenameLaws.{mark_named, renamed_more, renamed_stop, renamed_all}
use Rattle.rebuild_copy.specs.Steps.{known}
use Rattle.rebuild_copy.proofs.RenameLaws.{filled_none, sought_at}
use Rattle.rebuild_copy.proofs.renaming.fill_marks.Goals as goal

pub loop-i-init : goal.loop-i-init
loop-i-init c = (
  refl,
  (λ p zeros is. filled_none c.args.renames.now p c.args.marks.now c.args.index.now zeros is),
)

pub rename_section-requires : goal.rename_section-requires
rename_section-requires c =
    let count = c.len-i-end.ensures in
    sought_at c.loop-i.index.sought c.args.index.now.sought c.args.renames.now c.loop-i.i
    c.index-as_slice-i.result c.loop-i.invariant.0 (omega (arith, count, c.loop-i-test.true))
    (c.index-as_slice-i.is
    ∙ ap (λ (l : List NameBytes). get_or l c.loop-i.i c.index-as_slice-i.result)
    c.as_slice.ensures) c.requires

pub loop-i-preserved : goal.loop-i-preserved
loop-i-preserved c =
    let count = c.len-i-end.ensures in
    let is = c.index-as_slice-i.is
    ∙ ap (λ (l : List NameBytes). get_or l c.loop-i.i c.index-as_slice-i.result)
    c.as_slice.ensures in (
      c.rename_section.ensures.sought ∙ c.loop-i.invariant.0,
      (λ p zeros index.
          let so_far = c.loop-i.invariant.1 p zeros index in
          let step = c.in-Ok.ensures.renames p c.args.renames.now so_far.renamed.long
          (mark_named c.args.renames.now c.loop-i.i c.index-as_slice-i.result
          (omega (arith, count, c.loop-i-test.true)) is) so_far.indexed in
          record {
            renamed = renamed_more c.args.renames.now c.loop-i.i (known p) (known p) c.loop-i.marks
                so_far.renamed c.index-as_slice-i.result (known p) c.rename_section.new.marks
                (omega (arith, count, c.loop-i-test.true)) is c.rename_section.ensures.long
                step.finds;
            indexed = step.indexed;
          }),
    )

pub returns-in-Err-clause-sought : goal.returns-in-Err-clause-sought
returns-in-Err-clause-sought c = c.rename_section.ensures.sought ∙ c.loop-i.invariant.0

pub returns-in-Err-clause-renames : goal.returns-in-Err-clause-renames
returns-in-Err-clause-renames c = λ p zeros index.
    let count = c.len-i-end.ensures in
    let is = c.index-as_slice-i.is
    ∙ ap (λ (l : List NameBytes). get_or l c.loop-i.i c.index-as_slice-i.result)
    c.as_slice.ensures in
    let so_far = c.loop-i.invariant.1 p zeros index in
    let step = c.in-Err.ensures.renames p c.args.renames.now so_far.renamed.long
    (mark_named c.args.renames.now c.loop-i.i c.index-as_slice-i.result
    (omega (arith, count, c.loop-i-test.true)) is) so_far.indexed in
    record {
      finds = renamed_stop c.args.renames.now c.loop-i.i (known p) (known p) c.loop-i.marks
          so_far.renamed c.index-as_slice-i.result c.in-Err.fault (known p)
          c.rename_section.new.marks (omega (arith, count, c.loop-i-test.true)) is step.finds;
      indexed = tt;
    }

pub returns-in-Err-clause-unread : goal.returns-in-Err-clause-unread
returns-in-Err-clause-unread c = c.in-Err.ensures.unread

pub returns-clause-sought : goal.returns-clause-sought
returns-clause-sought c = c.loop-i.invariant.0

pub returns-clause-renames : goal.returns-clause-renames
returns-clause-renames c = λ p zeros index.
    let count = c.len-i-end.ensures in
    let so_far = c.loop-i.invariant.1 p zeros index in
    record {
      finds = renamed_all c.args.renames.now c.loop-i.i (known p) (known p) c.loop-i.marks
          so_far.renamed (omega (arith, count, c.loop-i-test.false));
      indexed = so_far.indexed;
    }
