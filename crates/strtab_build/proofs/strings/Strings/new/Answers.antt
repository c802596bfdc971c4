use Rattle.std.proofs.Common.{map, []}
use Rattle.strtab_build.specs.Names.{name_in, names_in}
use Rattle.strtab_build.proofs.KeptLemmas.{IsKept-as, IsKept-nil}
use Rattle.strtab_build.proofs.strings.Strings.new.Goals as goal

pub invariant_of-result : goal.invariant_of-result
invariant_of-result c =
    IsKept-as [] _ [] _ [] c.new.ensures.items c.new-2.ensures.empty IsKept-nil

pub returns : goal.returns
unfolding names_in
returns c = λ j. map (λ keyed. name_in (c.new.ensures.items j) keyed.1) (c.new-2.ensures.empty j)
