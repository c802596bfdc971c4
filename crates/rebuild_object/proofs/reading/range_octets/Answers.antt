use Rattle.rebuild_object.proofs.ReadLaws.{held_reads, base_reads}
use Rattle.rebuild_object.proofs.reading.range_octets.Goals as goal

pub returns-then-range-clause-read : goal.returns-then-range-clause-read
returns-then-range-clause-read g c =
    held_reads c.args.held.now c.args.elf.now.o.base c.args.range c.octets_at.result
    c.if-range.true c.octets_at.ensures.ok

pub returns-clause-read : goal.returns-clause-read
returns-clause-read g c =
    base_reads c.args.held.now c.args.elf.now.o.base c.args.range c.base_octets.result
    c.if-range.false c.requires c.base_octets.ensures.bytes c.base_octets.ensures.long
