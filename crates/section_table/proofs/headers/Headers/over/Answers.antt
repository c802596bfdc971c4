use Rattle.std.proofs.Common.{List, ap, arith}
use Rattle.elf_types.specs.declared.records.Shdr.{Shdr}
use Rattle.section_table.specs.Tables.{present}
use Rattle.section_table.proofs.headers.Headers.over.Goals as goal

pub invariant_of-result : goal.invariant_of-result
invariant_of-result c = omega (arith, c.len.ensures, c.in_ok-own.ensures.capacity)

pub returns-clause-ok : goal.returns-clause-ok
returns-clause-ok c = ap (λ (l : List Shdr). present c.args.opened l) c.in_ok-own.ensures.items
