use Rattle.std.proofs.Common.{length, ap, ◌∙◌, arith}
use Rattle.std.proofs.lemmas.List.{length-take}
use Rattle.std.proofs.Common.{ℕ, List}
use Rattle.strtab_shared.proofs.bytes.parts.cut_if_long.Goals as goal

pub returns-clause-most : goal.returns-clause-most
returns-clause-most c =
    let long = ap (λ (l : List ℕ). length l) c.truncate.ensures
    ∙ length-take c.args.before c.args.text.now in
    omega (arith, long, c.requires)
