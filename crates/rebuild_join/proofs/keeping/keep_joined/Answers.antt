use Rattle.std.proofs.Common.{◌≡◌, None, length, sym, ap, ◌∙◌}
use Rattle.elf_object.specs.Calls.{newphdr_refusal}
use Rattle.rebuild_keep.proofs.elf_update_plan.PlacingLaws.{passed_from}
use Rattle.rebuild_keep.proofs.elf_update_plan.RowLaws.{ok_is}
use Rattle.rebuild_join.proofs.KeepLaws.{many_segments, not_kept, joined_kept, no_index}
use Rattle.rebuild_join.proofs.keeping.keep_joined.Goals as goal

pub returns-in-Err : goal.returns-in-Err
returns-in-Err g c =
    many_segments c.args.stripped.now c.args.debug.now c.requires.matches c.in-Err.e
    c.phnum.result (ok_is _ _ c.phnum.ensures) c.in-Err.ensures.answer

pub returns-in-Err-list_joined : goal.returns-in-Err-list_joined
returns-in-Err-list_joined g c =
    let few : newphdr_refusal (length c.args.stripped.now.o.phdrs) ≡ None =
    ap newphdr_refusal (sym (ok_is _ _ c.phnum.ensures))
    ∙ passed_from (newphdr_refusal c.phnum.result) c.in_default.ensures.answer in
    not_kept c.args.stripped.now c.args.debug.now c.requires.matches few
    c.in-Err-list_joined.fault c.in-Err-list_joined.ensures

pub returns-in-Ok-check_index : goal.returns-in-Ok-check_index
returns-in-Ok-check_index g c =
    let few : newphdr_refusal (length c.args.stripped.now.o.phdrs) ≡ None =
    ap newphdr_refusal (sym (ok_is _ _ c.phnum.ensures))
    ∙ passed_from (newphdr_refusal c.phnum.result) c.in_default.ensures.answer in
    joined_kept c.args.stripped.now c.args.debug.now c.requires.matches few c.in-Ok.contents
    c.requires.stripped.object c.in-Ok.ensures c.shstrndx.result c.shnum.result
    (ok_is _ _ c.shstrndx.ensures) (ok_is _ _ c.shnum.ensures) c.in-Ok-check_index.ensures.answer

pub returns-in-Err-check_index : goal.returns-in-Err-check_index
returns-in-Err-check_index g c =
    let few : newphdr_refusal (length c.args.stripped.now.o.phdrs) ≡ None =
    ap newphdr_refusal (sym (ok_is _ _ c.phnum.ensures))
    ∙ passed_from (newphdr_refusal c.phnum.result) c.in_default.ensures.answer in
    no_index c.args.stripped.now c.args.debug.now c.requires.matches few c.in-Ok.contents
    c.requires.stripped.object c.in-Ok.ensures c.shstrndx.result c.shnum.result
    (ok_is _ _ c.shstrndx.ensures) (ok_is _ _ c.shnum.ensures) c.in-Err-check_index.e
    c.in-Err-check_index.ensures.answer
