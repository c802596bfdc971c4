use Rattle.std.proofs.Common.{[], ◌∷◌, None, refl, sym, ◌∙◌}
use Rattle.rebuild_keep.specs.Makes.{FitsAny}
use Rattle.rebuild_keep.specs.Homes.{syms_at_home, syms_found}
use Rattle.rebuild_keep.proofs.HomeLaws.{syms_there, syms_absent}
use Rattle.rebuild_keep.proofs.MakeLaws.{makes_as, makes_nothing}
use Rattle.rebuild_keep.proofs.homes.home_syms.Goals as goal

pub returns-then-is_there : goal.returns-then-is_there
returns-then-is_there g c =
    let s = c.args.s in
    makes_as g.S.Source c.args.elf.now c.syms_at_home.new.elf (λ o. syms_at_home o s) (λ o. syms_found o s)
    FitsAny (λ o. None) (λ o. None) (λ o. s ∷ []) (λ o. s ∷ []) c.syms_at_home.result
    (syms_there c.args.elf.now.o s (sym c.is_there.ensures ∙ c.if-is_there.true)) refl refl
    c.syms_at_home.ensures

pub returns : goal.returns
returns g c =
    let s = c.args.s in
    makes_nothing g.S.Source c.args.elf.now (λ o. syms_found o s) (λ o. s ∷ []) c.new.result
    (c.new.ensures
    ∙ syms_absent c.args.elf.now.o s (sym c.is_there.ensures ∙ c.if-is_there.false))
