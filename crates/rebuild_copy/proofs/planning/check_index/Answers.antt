use Rattle.rebuild_copy.proofs.RowLaws.{index_listed, shnum_is}
use Rattle.rebuild_copy.proofs.UsableLaws.{checked_usable, checked_unusable}
use Rattle.rebuild_copy.proofs.planning.check_index.Goals as goal

pub returns-then-is_usable : goal.returns-then-is_usable
returns-then-is_usable c = λ o p is.
    let x = c.args.x.now in
    checked_usable p c.args.renewed x.listed.header.shstrndx x.listed.header.shnum
    c.is_usable.result (index_listed o p x is) (shnum_is o p x is) c.is_usable.ensures
    c.if-is_usable.true

pub returns : goal.returns
returns c = (
  (λ o p is.
      let x = c.args.x.now in
      checked_unusable p c.args.renewed x.listed.header.shstrndx x.listed.header.shnum
      c.is_usable.result (index_listed o p x is) (shnum_is o p x is) c.is_usable.ensures
      c.if-is_usable.false),
  tt,
)
