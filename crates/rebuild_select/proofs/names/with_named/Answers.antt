use Rattle.std.proofs.Common.{ℕ, Bool, List, [], sym, ap, ◌∙◌, subst}
use Rattle.rebuild_model.specs.Removed.{with_found}
use Rattle.rebuild_select.specs.Steps.{IsRemovable, goes_by_name}
use Rattle.rebuild_select.proofs.StepLaws.{marks_found, apart_removable}
use Rattle.rebuild_select.proofs.FoundLaws.{goes_alike}
use Rattle.rebuild_select.proofs.NameLaws.{names_nothing, names_memory}
use Rattle.rebuild_select.proofs.names.with_named.Goals as goal

pub returns-in-Err-clause-reads : goal.returns-in-Err-clause-reads
returns-in-Err-clause-reads g c =
    names_memory g.S.Source (tt {0}) c.in-Err.e c.args.elf.now c.args.elf.now c.in-Err.ensures.err
    (names_nothing g.S.Source (tt {0}) c.args.elf.now)

pub returns-in-Ok-fill_marks-clause-told : goal.returns-in-Ok-fill_marks-clause-told
returns-in-Ok-fill_marks-clause-told g c = λ told.
    let o = c.args.elf.now.o in
    let sought = c.in-Ok.sought in
    c.from_marks.ensures
    ∙ marks_found o (goes_by_name c.args.debug_too sought o) [] _
    (c.in-Ok-fill_marks.ensures.told told)
    ∙ ap (λ (f : ℕ → Bool). with_found o (λ before. f) [])
    (λ i s. goes_alike c.args.debug_too sought c.args.names.now o s c.in-Ok.ensures.ok i)

pub returns-in-Ok-fill_marks-clause-removable : goal.returns-in-Ok-fill_marks-clause-removable
returns-in-Ok-fill_marks-clause-removable g c =
    subst (λ (l : List ℕ). IsRemovable c.args.elf.now.o l) (sym c.from_marks.ensures)
    (apart_removable c.args.elf.now.o _ c.in-Ok-fill_marks.ensures.apart)
