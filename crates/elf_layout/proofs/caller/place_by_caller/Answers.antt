use Rattle.std.proofs.Common.{arith, rules}
use Rattle.std.proofs.lemmas.Grind.{common_steps}
use Rattle.elf_layout.specs.Layout.{standing, length_of, places_of, is_too_large, overlap_refusal, refusal_within, placing_within}
use Rattle.elf_layout.proofs.caller.place_by_caller.Goals as goal

pub returns-in-Some-clause-err : goal.returns-in-Some-clause-err
unfolding placing_within refusal_within overlap_refusal
returns-in-Some-clause-err c = search rules

pub returns-in_default-length_within-clause-err : goal.returns-in_default-length_within-clause-err
unfolding placing_within refusal_within overlap_refusal is_too_large length_of standing
returns-in_default-length_within-clause-err c = grind (arith, common_steps)

pub returns-clause-ok : goal.returns-clause-ok
unfolding placing_within refusal_within overlap_refusal is_too_large places_of length_of standing
returns-clause-ok c = grind (arith, common_steps)
