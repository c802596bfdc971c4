use Rattle.std.proofs.Common.{◌<◌, ℕ, List, length, sym, ◌∙◌, subst}
use Rattle.std.specs.Prelude.{All}
use Rattle.rebuild_tables.proofs.elf_update_plan.RowLaws.{ok_is}
use Rattle.rebuild_tables.proofs.rebuild_keep.NumberLaws.{kept_there}
use Rattle.rebuild_plan.proofs.KeepingLaws.{none_kept, all_kept, none_kept_refused}
use Rattle.rebuild_plan.proofs.keeping.keep_contents.Goals as goal

pub returns-then-shnum-eq0 : goal.returns-then-shnum-eq0
returns-then-shnum-eq0 g c =
    none_kept g.S.Source c.args.keeper.now c.args.numbers.now c.args.elf.now c.args.elf.now
    c.requires.numbers _ (sym (ok_is _ _ c.shnum.ensures) ∙ c.if-shnum-eq0.true)
    c.new-contents.ensures.headers c.new-contents.ensures.sizes
    c.new-contents.ensures.ranges c.new-contents.ensures.kinds

pub fill_contents-requires-clause-there : goal.fill_contents-requires-clause-there
fill_contents-requires-clause-there g c =
    subst (λ (l : List ℕ). All (λ s. s < length c.args.elf.now.o.sections) l)
    (sym c.requires.numbers) (kept_there c.args.elf.now.o c.args.keeper.now.removed.now)

pub fill_contents-requires-clause-object : goal.fill_contents-requires-clause-object
fill_contents-requires-clause-object g c = c.dirty-sound.ensures.sound.object

pub returns-in-Ok : goal.returns-in-Ok
returns-in-Ok g c =
    all_kept g.S.Source c.args.keeper.now c.args.numbers.now c.args.elf.now
    c.fill_contents.new.elf c.requires.numbers _ c.dirty-sound.ensures.sound.object
    (λ none. c.if-shnum-eq0.false (ok_is _ _ c.shnum.ensures ∙ none)) c.in-Ok.ensures

pub returns-in-Err : goal.returns-in-Err
returns-in-Err g c =
    none_kept_refused g.S.Source c.args.keeper.now c.args.numbers.now c.args.elf.now
    c.fill_contents.new.elf c.requires.numbers c.in-Err.e _ c.in-Err.ensures
