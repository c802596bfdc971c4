use Rattle.std.proofs.Common.{sym, ap, ◌∙◌}
use Rattle.rebuild_model.specs.elf_object.Calls.{newphdr_refusal}
use Rattle.rebuild_model.proofs.elf_object.AnswerLaws.{answered_value}
use Rattle.elf_update_plan.proofs.RowLaws.{ok_is}
use Rattle.rebuild_making.proofs.RefusedLaws.{edits_refused, refused_as}
use Rattle.rebuild_making.proofs.AddLaws.{newphdr_states}
use Rattle.rebuild_making.proofs.HeaderLaws.{lent_long, segments_copied}
use Rattle.rebuild_making.proofs.segments.copy_segments.Goals as goal

pub returns-in-Err-clause-err : goal.returns-in-Err-clause-err
returns-in-Err-clause-err g c =
    let count = ok_is _ _ c.phnum.ensures in
    refused_as (newphdr_refusal c.phnum.result) _ c.in-Err.e (ap newphdr_refusal count)
    (edits_refused (newphdr_refusal c.phnum.result) tt c.args.to.now c.newphdr.new.self _ c.in-Err.e
    (newphdr_states c.phnum.result) c.in-Err.ensures)

pub fill_segments-requires : goal.fill_segments-requires
fill_segments-requires g c =
    lent_long c.args.to.now c.newphdr.new.self c.phnum.result c.args.from.now.o.phdrs
    (ok_is _ _ c.phnum.ensures) c.in_default.ensures.1 _ c.phdrs_mut.ensures.value

pub returns-clause-made : goal.returns-clause-made
returns-clause-made g c =
    segments_copied c.args.to.now c.newphdr.new.self c.phnum.result c.args.from.now.o.phdrs
    (ok_is _ _ c.phnum.ensures) c.in_default.ensures.1 _ c.fill_segments.ensures

pub returns-clause-passed : goal.returns-clause-passed
returns-clause-passed g c =
    ap newphdr_refusal (sym (ok_is _ _ c.phnum.ensures))
    ∙ (answered_value (newphdr_refusal c.phnum.result) tt _ c.in_default.ensures.0).0
