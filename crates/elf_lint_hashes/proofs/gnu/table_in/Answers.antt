use Rattle.std.proofs.Common.{arith}
use Rattle.elf_lint_hashes.proofs.GnuWords.{table_is}
use Rattle.elf_lint_hashes.proofs.gnu.table_in.Goals as goal

pub returns-clause-is : goal.returns-clause-is
returns-clause-is c =
    table_is c.args.class c.args.order c.args.bytes.now c.args.count c.in_ok-nbuckets.nbuckets c.in_ok-symoffset.symoffset c.in_ok-size.size c.in_ok-shift.shift c.chains_at-chains.result
    c.in_ok-nbuckets.ensures.1 c.in_ok-symoffset.ensures.1 c.in_ok-size.ensures.1 c.in_ok-shift.ensures.1 (omega (arith, c.in_ok-shift.ensures.0))
    (omega arith) (omega arith) c.chains_at-chains.ensures.value (omega arith)
