use Rattle.std.proofs.Common.{ap, ◌∙◌}
use Rattle.rebuild_keep.specs.elf_object.Object.{Object}
use Rattle.rebuild_keep.proofs.elf_update_plan.RowLaws.{ok_is}
use Rattle.rebuild_keep.proofs.FillLaws.{segments_empty, segments_count, segments_class}
use Rattle.rebuild_join.proofs.joined.FilledLaws.{joined_segments, joined_sections, joined_ok, joined_header}
use Rattle.rebuild_join.proofs.joined.filling.fill_joined.Goals as goal

pub returns-in-Err : goal.returns-in-Err
returns-in-Err g c =
    joined_segments g.S.Source g.T.Source c.args.stripped.now c.args.debug.now c.requires.matches
    c.args.made.now c.copy_segments.new.to c.in-Err.e c.in-Err.ensures.err

pub fill_sections-requires-clause-empty : goal.fill_sections-requires-clause-empty
fill_sections-requires-clause-empty g c =
    segments_empty c.args.stripped.now.o c.args.made.now c.copy_segments.new.to
    c.in_default.ensures.made c.requires.empty

pub fill_sections-requires-clause-count : goal.fill_sections-requires-clause-count
fill_sections-requires-clause-count g c =
    segments_count c.args.stripped.now.o c.args.made.now c.copy_segments.new.to
    c.in_default.ensures.made c.requires.count

pub fill_sections-requires-clause-class : goal.fill_sections-requires-clause-class
fill_sections-requires-clause-class g c =
    segments_class c.args.stripped.now.o c.args.made.now c.copy_segments.new.to
    c.in_default.ensures.made c.requires.class

pub returns-in-Err-fill_sections : goal.returns-in-Err-fill_sections
returns-in-Err-fill_sections g c =
    joined_sections g.S.Source g.T.Source c.args.stripped.now c.args.debug.now c.requires.matches
    c.args.made.now c.in_default.ensures.passed c.copy_segments.new.to
    c.fill_sections.new.stripped c.fill_sections.new.debug c.fill_sections.new.made
    c.in-Err-fill_sections.fault c.in-Err-fill_sections.ensures

pub returns-in-Ok : goal.returns-in-Ok
returns-in-Ok g c =
    let fills = c.in_default-fill_sections.ensures in
    joined_ok g.S.Source g.T.Source c.args.stripped.now c.args.debug.now c.requires.matches
    c.args.made.now c.in_default.ensures.passed c.copy_segments.new.to
    c.fill_sections.new.stripped c.fill_sections.new.debug c.fill_sections.new.made
    c.finish_header.new.made c.in_default.ensures.made c.requires.class fills
    c.shstrndx-index.result
    (ok_is _ _ c.shstrndx-index.ensures
    ∙ ap (λ (p : Object). p.header.shstrndx) fills.asks_debug.object)
    (rw fills.asks_stripped.object at c.in-Ok.ensures.answer)
    (rw fills.asks_stripped.object at c.in-Ok.ensures.state)

pub returns-in-Err-finish_header : goal.returns-in-Err-finish_header
returns-in-Err-finish_header g c =
    let fills = c.in_default-fill_sections.ensures in
    joined_header g.S.Source g.T.Source c.args.stripped.now c.args.debug.now c.requires.matches
    c.args.made.now c.in_default.ensures.passed c.copy_segments.new.to
    c.fill_sections.new.stripped c.fill_sections.new.debug c.fill_sections.new.made
    c.finish_header.new.made c.in_default.ensures.made c.requires.class fills
    c.shstrndx-index.result
    (ok_is _ _ c.shstrndx-index.ensures
    ∙ ap (λ (p : Object). p.header.shstrndx) fills.asks_debug.object)
    c.in-Err-finish_header.e
    (rw fills.asks_stripped.object at c.in-Err-finish_header.ensures.answer)
