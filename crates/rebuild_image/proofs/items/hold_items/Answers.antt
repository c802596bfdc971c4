use Rattle.elf_xlate.specs.Translation.{encoded}
use Rattle.rebuild_image.proofs.FrontLaws.{appended_bytes_held, behind}
use Rattle.rebuild_image.proofs.items.hold_items.Goals as goal

pub range_behind-requires : goal.range_behind-requires
range_behind-requires c =
    behind (encoded c.args.class c.args.order c.args.items.now) c.args.held.now
    c.append_items.new.self c.len-at.result c.in-Ok.ensures.ok c.len-at.ensures

pub returns-in-Ok-clause-ok : goal.returns-in-Ok-clause-ok
returns-in-Ok-clause-ok c =
    appended_bytes_held (encoded c.args.class c.args.order c.args.items.now) c.args.held.now
    c.append_items.new.self c.len-at.result c.range_behind.result c.in-Ok.ensures.ok
    c.len-at.ensures c.range_behind.ensures.held c.range_behind.ensures.at
    c.range_behind.ensures.len
