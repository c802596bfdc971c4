use Rattle.std.proofs.Common.{ℕ, List, ap, subst}
use Rattle.rebuild_plan.specs.rebuild_image.declared.ranges.ranges.ByteRange.{ByteRange}
use Rattle.rebuild_plan.specs.rebuild_image.Fronts.{HoldsAppended}
use Rattle.rebuild_copy.proofs.HoldLaws.{not_names, unread_stop, unheld_stop, names_held}
use Rattle.rebuild_copy.proofs.holding.hold_range.Goals as goal

pub returns-then-not-may_be_names : goal.returns-then-not-may_be_names
returns-then-not-may_be_names g c =
    not_names g.S.Source c.args.x.now c.args.elf.now c.args.elf.now c.requires.strings
    c.args.range c.requires.range c.requires.base

pub returns-in-Err : goal.returns-in-Err
returns-in-Err g c =
    unread_stop g.S.Source c.args.x.now c.args.elf.now c.copy_bytes.new.elf c.requires.strings
    c.args.range c.requires.range c.requires.base c.in-Err.ensures.stays
    (c.may_be_names.ensures.due c.if-not-may_be_names.false) c.in-Err.e c.in-Err.ensures.err
    c.in-Err.ensures.asks

pub returns-in-Ok-hold_bytes : goal.returns-in-Ok-hold_bytes
returns-in-Ok-hold_bytes g c =
    let x = c.args.x.now in
    names_held g.S.Source x c.args.elf.now c.copy_bytes.new.elf c.requires.strings
    c.args.range c.requires.range c.requires.base c.in-Ok.ensures.stays
    (c.may_be_names.ensures.due c.if-not-may_be_names.false) c.in-Ok.bytes
    c.in-Ok.ensures.long
    (rw c.as_slice.ensures at c.in-Ok-hold_bytes.ensures.bytes)
    (rw c.as_slice.ensures at c.in-Ok-hold_bytes.ensures.long)
    c.in-Ok.ensures.bytes
    (c.may_be_names.ensures.inside c.if-not-may_be_names.false)
    c.in-Ok.ensures.asks c.in-Ok-hold_bytes.found _
    (subst (λ (l : List ℕ). HoldsAppended l x.held c.hold_bytes.new.held c.in-Ok-hold_bytes.found)
    c.as_slice.ensures c.in-Ok-hold_bytes.ensures.ok)
    (ap (λ (l : List ByteRange). record x { ranges = l; held = c.hold_bytes.new.held })
    c.set_range.ensures)

pub returns : goal.returns
returns g c =
    unheld_stop g.S.Source c.args.x.now c.args.elf.now c.copy_bytes.new.elf c.requires.strings
    c.args.range c.requires.range c.requires.base c.in-Ok.ensures.stays
    (c.may_be_names.ensures.due c.if-not-may_be_names.false) c.in-Err-hold_bytes.e _
    c.in-Ok.bytes c.in-Err-hold_bytes.ensures.err c.in-Ok.ensures.asks
