use Rattle.std.proofs.Common.{arith}
use Rattle.rebuild_select.proofs.names.longest_of.Goals as goal

pub returns-clause-names : goal.returns-clause-names
returns-clause-names c = λ name is.
    let fits = c.longest.ensures name is in omega (arith, fits, c.max.ensures)

pub returns-clause-debug : goal.returns-clause-debug
returns-clause-debug c = omega (arith, c.max.ensures)
