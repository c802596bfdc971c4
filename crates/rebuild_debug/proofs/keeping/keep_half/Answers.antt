use Rattle.std.proofs.Common.{◌≡◌, None, length, sym, ap, ◌∙◌}
use Rattle.elf_object.specs.Calls.{newphdr_refusal}
use Rattle.rebuild_object.proofs.elf_update_plan.PlacingLaws.{passed_from}
use Rattle.rebuild_object.proofs.elf_update_plan.RowLaws.{ok_is}
use Rattle.rebuild_object.proofs.rebuild_plan.TiedLaws.{sound_tied}
use Rattle.rebuild_debug.proofs.KeepLaws.{too_many_segments, half_unkept, half_kept, half_index}
use Rattle.rebuild_debug.proofs.keeping.keep_half.Goals as goal

pub returns-in-Err : goal.returns-in-Err
returns-in-Err g c =
    too_many_segments c.args.elf.now c.in-Err.e c.phnum.result (ok_is _ _ c.phnum.ensures)
    c.in-Err.ensures.answer

pub list_half-requires-clause-object : goal.list_half-requires-clause-object
list_half-requires-clause-object g c = c.dirty-sound.ensures.sound.object

pub list_half-requires-clause-tied : goal.list_half-requires-clause-tied
list_half-requires-clause-tied g c =
    sound_tied c.args.elf.now.o (g.S.Source.holds c.args.elf.now.source) c.args.elf.now.told
    c.dirty-sound.ensures.told c.dirty-sound.ensures.sound

pub returns-in-Err-list_half : goal.returns-in-Err-list_half
returns-in-Err-list_half g c =
    let few : newphdr_refusal (length c.args.elf.now.o.phdrs) ≡ None =
    ap newphdr_refusal (sym (ok_is _ _ c.phnum.ensures))
    ∙ passed_from (newphdr_refusal c.phnum.result) c.in_default.ensures.answer in
    half_unkept c.args.elf.now few c.in-Err-list_half.e c.in-Err-list_half.ensures

pub returns-in-Ok-check_index : goal.returns-in-Ok-check_index
returns-in-Ok-check_index g c =
    let few : newphdr_refusal (length c.args.elf.now.o.phdrs) ≡ None =
    ap newphdr_refusal (sym (ok_is _ _ c.phnum.ensures))
    ∙ passed_from (newphdr_refusal c.phnum.result) c.in_default.ensures.answer in
    half_kept c.args.elf.now few c.in-Ok.contents c.dirty-sound.ensures.sound.object
    c.in-Ok.ensures c.shstrndx.result c.shnum.result (ok_is _ _ c.shstrndx.ensures)
    (ok_is _ _ c.shnum.ensures) c.in-Ok-check_index.ensures.answer

pub returns-in-Err-check_index : goal.returns-in-Err-check_index
returns-in-Err-check_index g c =
    let few : newphdr_refusal (length c.args.elf.now.o.phdrs) ≡ None =
    ap newphdr_refusal (sym (ok_is _ _ c.phnum.ensures))
    ∙ passed_from (newphdr_refusal c.phnum.result) c.in_default.ensures.answer in
    half_index c.args.elf.now few c.in-Ok.contents c.dirty-sound.ensures.sound.object
    c.in-Ok.ensures c.shstrndx.result c.shnum.result (ok_is _ _ c.shstrndx.ensures)
    (ok_is _ _ c.shnum.ensures) c.in-Err-check_index.e c.in-Err-check_index.ensures.answer
