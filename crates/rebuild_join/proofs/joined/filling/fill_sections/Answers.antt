use Rattle.std.proofs.Common.{sym, ◌∙◌, arith}
use Rattle.rebuild_keep.proofs.elf_update_plan.RowLaws.{ok_is}
use Rattle.rebuild_keep.proofs.FillLaws.{null_memory, null_made, null_told, null_class}
use Rattle.rebuild_join.proofs.joined.FilledLaws.{fills_none, fills_memory, fills_all, one_made}
use Rattle.rebuild_join.proofs.joined.filling.fill_sections.Goals as goal

pub returns-then-shnum-eq0 : goal.returns-then-shnum-eq0
returns-then-shnum-eq0 g c =
    fills_none g.S.Source g.T.Source c.args.stripped.now c.args.debug.now c.args.made.now
    (sym (ok_is _ _ c.shnum.ensures) ∙ c.if-shnum-eq0.true) c.requires.empty c.requires.count

pub returns-in-Err : goal.returns-in-Err
returns-in-Err g c =
    fills_memory g.S.Source g.T.Source c.args.stripped.now c.args.debug.now c.args.made.now
    c.newnull.new.self c.in-Err.e (null_memory c.in-Err.e _ _ _ c.in-Err.ensures.answer)

pub add_all-requires-clause-some : goal.add_all-requires-clause-some
add_all-requires-clause-some g c =
    let count = ok_is _ _ c.shnum.ensures in omega (arith, count, c.if-shnum-eq0.false)

pub add_all-requires-clause-made : goal.add_all-requires-clause-made
add_all-requires-clause-made g c =
    one_made c.args.made.now.o c.newnull.new.self.o
    (null_made c.args.made.now c.newnull.new.self c.requires.empty c.in_default.ensures.answer.1)

pub add_all-requires-clause-class : goal.add_all-requires-clause-class
add_all-requires-clause-class g c =
    null_class c.args.made.now c.newnull.new.self c.requires.empty c.in_default.ensures.answer.1
    ∙ c.requires.class

pub returns : goal.returns
returns g c =
    let count = ok_is _ _ c.shnum.ensures in
    fills_all g.S.Source g.T.Source c.args.stripped.now c.args.debug.now c.add_all.result
    c.add_all.new.stripped c.add_all.new.debug c.args.made.now c.newnull.new.self
    c.add_all.new.made (omega (arith, count, c.if-shnum-eq0.false))
    (null_made c.args.made.now c.newnull.new.self c.requires.empty c.in_default.ensures.answer.1)
    (null_told c.args.made.now c.newnull.new.self c.requires.empty c.in_default.ensures.answer.1)
    c.add_all.ensures
