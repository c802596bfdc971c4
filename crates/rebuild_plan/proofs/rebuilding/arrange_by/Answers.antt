use Rattle.std.proofs.Common.{◌≡◌, None, length, sym, ap, ◌∙◌}
use Rattle.law_rebuild.specs.elf_object.Calls.{newphdr_refusal}
use Rattle.rebuild_tables.proofs.elf_update_plan.PlacingLaws.{passed_from}
use Rattle.rebuild_tables.proofs.elf_update_plan.RowLaws.{ok_is}
use Rattle.rebuild_tables.proofs.rebuild_keep.WholeLaws.{object_stays, clean_stays, removable_stays, keeps_stays}
use Rattle.rebuild_plan.proofs.WholeLaws.{fits_told, segments_stay, sections_stay, contents_stay, read_stays, too_many, sections_fail, sections_arranged}
use Rattle.rebuild_plan.proofs.rebuilding.arrange_by.Goals as goal

pub returns-in-Err : goal.returns-in-Err
returns-in-Err g c =
    too_many g.S.Source c.args.keeper.now c.args.elf.now c.args.elf.now c.requires.object
    c.requires.clean c.requires.removable c.requires.keeps c.args.numbers.now c.in-Err.e
    c.phnum.result (ok_is _ _ c.phnum.ensures) c.in-Err.ensures.answer

pub arrange_kept-requires-clause-object : goal.arrange_kept-requires-clause-object
arrange_kept-requires-clause-object g c =
    object_stays c.args.elf.now c.keep_contents.new.elf c.in-Ok.ensures.asks.object
    c.in-Ok.ensures.asks.told c.requires.object

pub arrange_kept-requires-clause-clean : goal.arrange_kept-requires-clause-clean
arrange_kept-requires-clause-clean g c =
    clean_stays c.args.elf.now c.keep_contents.new.elf c.in-Ok.ensures.asks.object
    c.in-Ok.ensures.asks.told c.requires.clean

pub arrange_kept-requires-clause-fits : goal.arrange_kept-requires-clause-fits
arrange_kept-requires-clause-fits g c =
    fits_told c.args.elf.now c.keep_contents.new.elf c.in-Ok.ensures.asks.object
    c.in-Ok.ensures.asks.told c.requires.fits

pub arrange_kept-requires-clause-removable : goal.arrange_kept-requires-clause-removable
arrange_kept-requires-clause-removable g c =
    removable_stays c.args.elf.now c.keep_contents.new.elf c.in-Ok.ensures.asks.object
    c.in-Ok.ensures.asks.told c.args.keeper.now.removed.now c.requires.removable

pub arrange_kept-requires-clause-keeps : goal.arrange_kept-requires-clause-keeps
arrange_kept-requires-clause-keeps g c =
    keeps_stays c.args.elf.now c.keep_contents.new.elf c.in-Ok.ensures.asks.object
    c.in-Ok.ensures.asks.told c.args.keeper.now c.requires.keeps

pub arrange_kept-requires-clause-contents : goal.arrange_kept-requires-clause-contents
arrange_kept-requires-clause-contents g c =
    contents_stay c.args.elf.now c.keep_contents.new.elf c.in-Ok.ensures.asks.object
    c.in-Ok.ensures.asks.told c.args.keeper.now c.in-Ok.contents c.in-Ok.ensures.ok

pub arrange_kept-requires-clause-read : goal.arrange_kept-requires-clause-read
arrange_kept-requires-clause-read g c =
    read_stays c.args.elf.now c.keep_contents.new.elf c.in-Ok.ensures.asks.object
    c.in-Ok.ensures.asks.told c.args.keeper.now c.in-Ok.contents c.in-Ok.ensures.read

pub arrange_kept-requires-clause-segments : goal.arrange_kept-requires-clause-segments
arrange_kept-requires-clause-segments g c =
    segments_stay c.args.elf.now c.keep_contents.new.elf c.in-Ok.ensures.asks.object
    c.in-Ok.ensures.asks.told c.phnum.result (ok_is _ _ c.phnum.ensures)
    (passed_from (newphdr_refusal c.phnum.result) c.in_default.ensures.answer)

pub arrange_kept-requires-clause-sections : goal.arrange_kept-requires-clause-sections
arrange_kept-requires-clause-sections g c =
    sections_stay c.args.elf.now c.keep_contents.new.elf c.in-Ok.ensures.asks.object
    c.in-Ok.ensures.asks.told c.args.keeper.now c.args.numbers.now c.requires.numbers
    c.in-Ok.ensures.passed

pub returns-in-Ok : goal.returns-in-Ok
returns-in-Ok g c =
    sections_arranged g.S.Source c.args.keeper.now c.args.elf.now c.keep_contents.new.elf
    c.requires.object c.requires.clean c.requires.removable c.requires.keeps c.args.numbers.now
    c.in-Ok.contents c.arrange_kept.result c.in-Ok.ensures c.arrange_kept.ensures

pub returns-in-Err-keep_contents : goal.returns-in-Err-keep_contents
returns-in-Err-keep_contents g c =
    let passed : newphdr_refusal (length c.args.elf.now.o.phdrs) ≡ None =
    ap newphdr_refusal (sym (ok_is _ _ c.phnum.ensures))
    ∙ passed_from (newphdr_refusal c.phnum.result) c.in_default.ensures.answer in
    sections_fail g.S.Source c.args.keeper.now c.args.elf.now c.keep_contents.new.elf
    c.requires.object c.requires.clean c.requires.removable c.requires.keeps c.args.numbers.now
    c.in-Err-keep_contents.e passed c.requires.numbers c.in-Err-keep_contents.ensures
