use Rattle.strtab_shared.proofs.KeptLaws.{nothing_kept, nothing_names}
use Rattle.strtab_shared.proofs.strings.SharedStrings.new.Goals as goal

pub invariant_of-result : goal.invariant_of-result
invariant_of-result c = nothing_kept _ c.no_parts.ensures

pub returns : goal.returns
returns c = nothing_names _ c.no_parts.ensures
