use Rattle.std.proofs.Common.{[], ◌∷◌, None, refl, sym, ◌∙◌}
use Rattle.rebuild_keep.specs.Makes.{FitsAny}
use Rattle.rebuild_keep.specs.Homes.{words_at_home, words_found}
use Rattle.rebuild_keep.proofs.HomeLaws.{words_there, words_absent}
use Rattle.rebuild_keep.proofs.MakeLaws.{makes_as, makes_nothing}
use Rattle.rebuild_keep.proofs.homes.home_words.Goals as goal

pub returns-then-is_there : goal.returns-then-is_there
returns-then-is_there g c =
    let s = c.args.s in
    makes_as g.S.Source c.args.elf.now c.words_at_home.new.elf (λ o. words_at_home o s) (λ o. words_found o s)
    FitsAny (λ o. None) (λ o. None) (λ o. s ∷ []) (λ o. s ∷ []) c.words_at_home.result
    (words_there c.args.elf.now.o s (sym c.is_there.ensures ∙ c.if-is_there.true)) refl refl
    c.words_at_home.ensures

pub returns : goal.returns
returns g c =
    let s = c.args.s in
    makes_nothing g.S.Source c.args.elf.now (λ o. words_found o s) (λ o. s ∷ []) c.new.result
    (c.new.ensures
    ∙ words_absent c.args.elf.now.o s (sym c.is_there.ensures ∙ c.if-is_there.false))
