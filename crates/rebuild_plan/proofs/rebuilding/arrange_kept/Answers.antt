use Rattle.std.proofs.Common.{ap, ◌∙◌}
use Rattle.law_rebuild.specs.rebuild_model.Followed.{followed}
use Rattle.rebuild_tables.proofs.elf_update_plan.RowLaws.{ok_is}
use Rattle.rebuild_plan.proofs.AnswerLaws.{kept_arranged, kept_refused}
use Rattle.rebuild_plan.proofs.rebuilding.arrange_kept.Goals as goal

pub arrange_contents-requires-clause-few : goal.arrange_contents-requires-clause-few
arrange_contents-requires-clause-few g c = c.requires.contents.few

pub arrange_contents-requires-clause-sizes : goal.arrange_contents-requires-clause-sizes
arrange_contents-requires-clause-sizes g c = c.requires.contents.same

pub returns-in-Ok : goal.returns-in-Ok
returns-in-Ok g c =
    kept_arranged g.S.Source c.args.elf.now c.args.keeper.now c.requires.object c.requires.clean
    c.requires.removable c.requires.keeps c.requires.fits c.requires.segments
    c.requires.sections c.args.contents c.requires.contents c.followed-index.result _
    (c.followed-index.ensures
    ∙ ap (followed c.args.keeper.now.numbering) (ok_is _ _ c.shstrndx.ensures))
    c.len-count.ensures c.arrange_contents.result c.tail_of-tail.result c.requires.read
    c.in-Ok.ensures
    c.tail_of-tail.ensures c.arrange_contents.ensures

pub returns-in-Err : goal.returns-in-Err
returns-in-Err g c =
    kept_refused g.S.Source c.args.elf.now c.args.keeper.now c.requires.object c.requires.clean
    c.requires.removable c.requires.keeps c.requires.fits c.requires.segments
    c.requires.sections c.args.contents c.requires.contents c.followed-index.result _
    (c.followed-index.ensures
    ∙ ap (followed c.args.keeper.now.numbering) (ok_is _ _ c.shstrndx.ensures))
    c.len-count.ensures c.in-Err.e c.in-Err.ensures
