use Rattle.std.proofs.Common.{◌∙◌, subst}
use Rattle.strtab_build.specs.Names.{IsKept}
use Rattle.strtab_build.proofs.KeptLemmas.{table_kept}
use Rattle.strtab_build.proofs.strings.Strings.finish.Goals as goal

pub returns-clause-ok : goal.returns-clause-ok
returns-clause-ok c =
    let kept = subst (IsKept _ _) c.self.view_is c.self.invariant in
    c.from_vec.ensures ∙ c.in_ok-push.ensures.items ∙ table_kept _ _ _ kept
