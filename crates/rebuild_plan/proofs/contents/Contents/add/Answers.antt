use Rattle.std.proofs.Common.{arith}
use Rattle.elf_types.specs.declared.records.Kind.TheVariants as kinds
use Rattle.rebuild_tables.specs.rebuild_image.Ranges.Ranges.{range_due}
use Rattle.rebuild_plan.proofs.KeepingLaws.{put_behind}
use Rattle.rebuild_plan.proofs.ReadingLaws.{pushed_read}
use Rattle.rebuild_plan.proofs.contents.Contents.add.Goals as goal

pub returns-clause-added : goal.returns-clause-added
returns-clause-added c =
    put_behind c.args.h c.kept_size.result c.args.range kinds.Bytes c.args.self.now
    c.push.new.self c.push.result c.kept_size.ensures c.push.ensures.pushed

pub returns-clause-read : goal.returns-clause-read
returns-clause-read c =
    pushed_read c.args.h c.kept_size.result c.args.range kinds.Bytes (range_due c.args.range)
    c.args.self.now c.push.new.self (omega arith) c.push.result c.push.ensures.pushed
