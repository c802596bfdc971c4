-- One section header more is appended.
use Rattle.std.proofs.Common.{length, arith}
use Rattle.elf_ident.proofs.PieceLemmas.{none_added, one_added, all_value, all_table}
use Rattle.elf_ident.proofs.tables.add_shdrs.Goals as goal

pub loop-i-init : goal.loop-i-init
loop-i-init c = none_added c.args.h.now c.args.bytes.now c.args.shdrs.now

pub loop-i-preserved : goal.loop-i-preserved
loop-i-preserved c =
    one_added c.args.h.now c.loop-i.i c.shdr_size-size.result _ c.args.bytes.now
    c.args.shdrs.now c.loop-i.shdrs _ _ c.loop-i.invariant c.in_ok-push.ensures.ok
    c.shdr_size-size.ensures (omega arith) c.get_shdr.ensures.value c.get_shdr.ensures.ranged
    c.get_shdr.ensures.fits

pub returns-clause-value : goal.returns-clause-value
returns-clause-value c =
    all_value c.args.h.now c.loop-i.i (length c.args.bytes.now) c.shdr_size-size.result
    c.args.bytes.now c.args.shdrs.now c.loop-i.shdrs (omega (arith, c.loop-i-test.false))
    c.shdr_size-size.ensures c.loop-i.invariant

pub returns-clause-table : goal.returns-clause-table
returns-clause-table c =
    all_table c.args.h.now c.loop-i.i (length c.args.bytes.now) c.shdr_size-size.result
    c.args.bytes.now c.args.shdrs.now c.loop-i.shdrs (omega (arith, c.loop-i-test.false))
    c.shdr_size-size.ensures c.loop-i.invariant
