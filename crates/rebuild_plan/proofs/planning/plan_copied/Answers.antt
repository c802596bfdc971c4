use Rattle.rebuild_plan.proofs.CopyLaws.{segments_wanted, copied_planned, copied_refused}
use Rattle.rebuild_plan.proofs.planning.plan_copied.Goals as goal

pub returns-in-Err : goal.returns-in-Err
returns-in-Err g c =
    segments_wanted c.args.elf.now.o.phdrs c.args.x c.args.ranges c.args.held c.args.tail c.in-Err.e
    c.in-Err.ensures.err

pub returns-in-Ok-stream_listed : goal.returns-in-Ok-stream_listed
returns-in-Ok-stream_listed g c =
    rw c.plan_of.ensures (copied_planned c.args.elf.now.o.phdrs c.args.x c.args.ranges
    c.args.held c.args.tail c.is_some-layout.result c.unwrap_or-kept.result c.in-Ok.phdrs c.as_slice.result.now
    c.is_some-layout.ensures c.unwrap_or-kept.ensures c.in-Ok.ensures.ok c.as_slice.ensures
    c.stream_listed.new.held c.in-Ok-stream_listed.streamed
    (λ q laid pad phdrs. c.in-Ok-stream_listed.ensures.ok q laid pad phdrs))

pub returns-in-Err-stream_listed : goal.returns-in-Err-stream_listed
returns-in-Err-stream_listed g c =
    copied_refused c.args.elf.now.o.phdrs c.args.x c.args.ranges c.args.held c.args.tail
    c.is_some-layout.result c.unwrap_or-kept.result c.in-Ok.phdrs c.as_slice.result.now
    c.is_some-layout.ensures c.unwrap_or-kept.ensures c.in-Ok.ensures.ok c.as_slice.ensures
    c.in-Err-stream_listed.e c.in-Err-stream_listed.ensures.err
    c.in-Err-stream_listed.ensures.unread
