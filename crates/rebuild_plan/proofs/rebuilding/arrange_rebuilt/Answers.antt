use Rattle.std.proofs.Common.{ℕ, List, sym, ap, ◌∙◌, subst}
use Rattle.law_rebuild.specs.rebuild_model.Followed.{kept_from_1}
use Rattle.rebuild_tables.specs.rebuild_select.Steps.{IsRemovable}
use Rattle.rebuild_tables.proofs.rebuild_keep.NumberLaws.{zero_stays}
use Rattle.rebuild_tables.proofs.rebuild_keep.WholeLaws.{object_stays, clean_stays, removable_stays, keeps_stays}
use Rattle.rebuild_plan.proofs.TiedLaws.{sound_tied, sound_fits}
use Rattle.rebuild_plan.proofs.WholeLaws.{tied_stays, fits_told, keeper_stops, numbers_stop, all_arranged}
use Rattle.rebuild_plan.proofs.rebuilding.arrange_rebuilt.Goals as goal

pub keep_sections-requires : goal.keep_sections-requires
keep_sections-requires g c =
    zero_stays c.args.elf.now.o c.args.removed.now c.requires.removable

pub arrange_by-requires-clause-object : goal.arrange_by-requires-clause-object
arrange_by-requires-clause-object g c =
    object_stays c.args.elf.now c.keep_sections.new.elf
    c.in-Ok.ensures.asks.object c.in-Ok.ensures.asks.told c.dirty-sound.ensures.sound.object

pub arrange_by-requires-clause-clean : goal.arrange_by-requires-clause-clean
arrange_by-requires-clause-clean g c =
    clean_stays c.args.elf.now c.keep_sections.new.elf
    c.in-Ok.ensures.asks.object c.in-Ok.ensures.asks.told c.requires.clean

pub arrange_by-requires-clause-tied : goal.arrange_by-requires-clause-tied
arrange_by-requires-clause-tied g c =
    tied_stays c.args.elf.now c.keep_sections.new.elf
    c.in-Ok.ensures.asks.object c.in-Ok.ensures.asks.told
    (sound_tied c.args.elf.now.o (g.S.Source.holds c.args.elf.now.source) c.args.elf.now.told
    c.dirty-sound.ensures.told c.dirty-sound.ensures.sound)

pub arrange_by-requires-clause-fits : goal.arrange_by-requires-clause-fits
arrange_by-requires-clause-fits g c =
    fits_told c.args.elf.now c.keep_sections.new.elf
    c.in-Ok.ensures.asks.object c.in-Ok.ensures.asks.told
    (sound_fits c.args.elf.now.o (g.S.Source.holds c.args.elf.now.source) c.args.elf.now.told
    c.dirty-sound.ensures.told c.dirty-sound.ensures.sound c.requires.clean)

pub arrange_by-requires-clause-removable : goal.arrange_by-requires-clause-removable
arrange_by-requires-clause-removable g c =
    subst (λ (l : List ℕ). IsRemovable c.keep_sections.new.elf.o l) (sym c.in-Ok.ensures.keeps.0)
    (removable_stays c.args.elf.now c.keep_sections.new.elf
    c.in-Ok.ensures.asks.object c.in-Ok.ensures.asks.told c.args.removed.now c.requires.removable)

pub arrange_by-requires-clause-keeps : goal.arrange_by-requires-clause-keeps
arrange_by-requires-clause-keeps g c =
    keeps_stays c.args.elf.now c.keep_sections.new.elf
    c.in-Ok.ensures.asks.object c.in-Ok.ensures.asks.told c.in-Ok.keeper c.in-Ok.ensures.keeps.1

pub arrange_by-requires-clause-numbers : goal.arrange_by-requires-clause-numbers
arrange_by-requires-clause-numbers g c =
    c.as_slice.ensures ∙ c.in-Ok-kept_numbers.ensures.ok
    ∙ ap (kept_from_1 c.keep_sections.new.elf.o) (sym c.in-Ok.ensures.keeps.0)

pub returns-in-Err : goal.returns-in-Err
returns-in-Err g c =
    keeper_stops g.S.Source c.args.removed.now c.args.elf.now c.keep_sections.new.elf c.in-Err.e
    c.in-Err.ensures.err c.in-Err.ensures.asks

pub returns-in-Ok-kept_numbers : goal.returns-in-Ok-kept_numbers
returns-in-Ok-kept_numbers g c =
    all_arranged g.S.Source c.args.removed.now c.args.elf.now c.keep_sections.new.elf
    c.arrange_by.new.elf c.in-Ok.keeper c.as_slice.result.now c.arrange_by.result
    c.in-Ok.ensures.keeps.0 c.dirty-sound.ensures.sound.object c.requires.clean
    c.in-Ok.ensures.keeps.1
    (c.as_slice.ensures ∙ c.in-Ok-kept_numbers.ensures.ok
    ∙ ap (kept_from_1 c.keep_sections.new.elf.o) (sym c.in-Ok.ensures.keeps.0))
    c.in-Ok.ensures.asks c.arrange_by.ensures

pub returns : goal.returns
returns g c =
    numbers_stop g.S.Source c.args.removed.now c.args.elf.now c.keep_sections.new.elf
    c.in-Ok.keeper c.in-Err-kept_numbers.e c.in-Err-kept_numbers.ensures.err c.in-Ok.ensures.asks
