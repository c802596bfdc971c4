use Rattle.std.proofs.Common.{[], ◌∷◌}
use Rattle.rebuild_making.specs.elf_object.Answers.{syms_of}
use Rattle.rebuild_keep.specs.Makes.{SymsFit}
use Rattle.rebuild_keep.specs.Homes.{items_at_home, home_refusal}
use Rattle.rebuild_keep.proofs.MakeLaws.{makes_none}
use Rattle.rebuild_keep.proofs.homes.syms_at_home.Goals as goal

pub returns-in-Err : goal.returns-in-Err
returns-in-Err g c =
    let s = c.args.s.0 in
    makes_none g.S.Source c.args.elf.now c.own_syms.new.elf (λ o. syms_of (items_at_home o s)) SymsFit
    (λ o. home_refusal o s) (λ o. s ∷ []) c.in-Err.e c.none_if_refused.result
    c.none_if_refused.ensures c.in-Err.ensures
