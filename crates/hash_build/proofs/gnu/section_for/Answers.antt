use Rattle.std.proofs.Common.{arith}
use Rattle.hash_build.proofs.ReadLaws.{order_found, order_end}
use Rattle.hash_build.proofs.GnuLaws.{told_with}
use Rattle.hash_build.proofs.gnu.section_for.Goals as goal

pub section_if_sorted-requires-clause-few : goal.section_if_sorted-requires-clause-few
section_if_sorted-requires-clause-few g c =
    omega (arith, c.in-Ok.ensures.long, c.requires.table.few)

pub returns-in-Ok-clause-told : goal.returns-in-Ok-clause-told
returns-in-Ok-clause-told g c = λ told.
    told_with c.form_of-of.result.0 _ c.form_of-of.result.1 _ c.args.shape c.in-Ok.hashes _
    c.section_if_sorted.result c.form_of-of.ensures.class c.form_of-of.ensures.order
    (c.in-Ok.ensures.told told) c.section_if_sorted.ensures.follows

pub returns-in-Ok-clause-reads : goal.returns-in-Ok-clause-reads
returns-in-Ok-clause-reads g c =
    order_found g.S.Source c.args.t.section.0 c.in-Ok.hashes c.section_if_sorted.result
    c.args.elf.now c.read_hashes.new.elf c.section_if_sorted.ensures.err c.in-Ok.ensures.reads

pub returns-in-Err-clause-reads : goal.returns-in-Err-clause-reads
returns-in-Err-clause-reads g c =
    order_end g.S.Source c.args.t.section.0 c.in-Err.e c.args.elf.now c.read_hashes.new.elf
    c.in-Err.ensures.reads
