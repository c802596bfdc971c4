use Rattle.std.proofs.Common.{sym, ◌∙◌}
use Rattle.test_descriptor.proofs.callers.Settles.{may_settle, settled_is}
use Rattle.test_descriptor.proofs.callers.settling.settle_as.Goals as goal

pub settle-requires : goal.settle-requires
settle-requires g c =
    let may = may_settle g.D.Source c.args.bytes.now c.in-Ok.image c.args.elf.now
    c.reserve.new.self c.tell_image.new.elf c.dirty.ensures.sound.object
    (sym c.dirty.ensures.dirty ∙ c.if-not-dirty.false) c.in_default.ensures.ok
    c.in_default.ensures.base c.in-Ok.ensures
    (sym c.as_slice.ensures ∙ c.are_same.ensures c.if-not-are_same.false)
    c.requires.long c.requires.holds in
    record {
      ready = may.ready;
      dirty = may.dirty;
      passed = may.passed;
      stored = may.stored;
      long = may.long;
      holds = may.holds;
    }

pub returns-clause-object : goal.returns-clause-object
returns-clause-object g c =
    (settled_is g.D.Source c.in-Ok.image c.args.elf.now c.reserve.new.self c.tell_image.new.elf
    c.settle.new.self c.in_default.ensures.ok c.in-Ok.ensures c.settle.ensures).0

pub returns-clause-loaded : goal.returns-clause-loaded
returns-clause-loaded g c =
    (settled_is g.D.Source c.in-Ok.image c.args.elf.now c.reserve.new.self c.tell_image.new.elf
    c.settle.new.self c.in_default.ensures.ok c.in-Ok.ensures c.settle.ensures).1
