use Rattle.rebuild_plan.proofs.GatherLaws.{contents_arranged, contents_unarranged, contents_listed}
use Rattle.rebuild_plan.proofs.planning.arrange_contents.Goals as goal

pub returns-in-Ok : goal.returns-in-Ok
returns-in-Ok g c =
    let at = contents_listed c.args.elf.now.o c.args.index c.args.contents c.new_header.result _
    c.new_header.ensures c.len-count.ensures in
    contents_arranged c.args.elf.now.o c.args.index c.args.contents _ c.args.tail at
    c.in-Ok.listed c.requires.few c.in-Ok.ensures

pub returns-in-Err : goal.returns-in-Err
returns-in-Err g c =
    let at = contents_listed c.args.elf.now.o c.args.index c.args.contents c.new_header.result _
    c.new_header.ensures c.len-count.ensures in
    contents_unarranged c.args.elf.now.o c.args.index c.args.contents _ c.args.tail at
    c.in-Err.e c.in-Err.ensures
