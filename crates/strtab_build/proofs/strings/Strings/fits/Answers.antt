use Rattle.std.proofs.Common.{arith, subst}
use Rattle.strtab_build.specs.Names.{IsKept}
use Rattle.strtab_build.proofs.KeptLemmas.{length-table-new}
use Rattle.strtab_build.proofs.strings.Strings.fits.Goals as goal
use Rattle.std.proofs.lemmas.Bool.{leb-true, le-leb}

pub returns : goal.returns
returns c =
    let kept = subst (IsKept _ _) c.self.view_is c.self.invariant in
    let long = length-table-new _ _ c.args.self.now c.args.name.now kept c.requires in
    let len = c.self.inside.bytes.ok.0 in
    (λ t. omega (arith, leb-true _ _ t), λ h. le-leb _ _ (omega arith))
