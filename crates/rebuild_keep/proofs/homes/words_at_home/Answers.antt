use Rattle.std.proofs.Common.{[], ◌∷◌}
use Rattle.rebuild_making.specs.elf_object.Answers.{words_of}
use Rattle.rebuild_keep.specs.Makes.{FitsAny}
use Rattle.rebuild_keep.specs.Homes.{items_at_home, home_refusal}
use Rattle.rebuild_keep.proofs.MakeLaws.{makes_none}
use Rattle.rebuild_keep.proofs.homes.words_at_home.Goals as goal

pub returns-in-Err : goal.returns-in-Err
returns-in-Err g c =
    let s = c.args.s.0 in
    makes_none g.S.Source c.args.elf.now c.own_words.new.elf (λ o. words_of (items_at_home o s)) FitsAny
    (λ o. home_refusal o s) (λ o. s ∷ []) c.in-Err.e c.none_if_refused.result
    c.none_if_refused.ensures c.in-Err.ensures
