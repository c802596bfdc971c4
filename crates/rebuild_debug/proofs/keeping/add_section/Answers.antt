use Rattle.rebuild_debug.proofs.KeepLaws.{half_added, half_refused}
use Rattle.rebuild_debug.proofs.keeping.add_section.Goals as goal

pub returns-in-Ok : goal.returns-in-Ok
returns-in-Ok g c =
    half_added c.args.elf.now c.args.s.0 c.args.contents.now c.add.new.self
    c.header_of_half-header.result c.in-Ok.range c.add.result c.header_of_half-header.ensures
    c.in-Ok.ensures c.add.ensures.added c.add.ensures.read c.add.ensures.err

pub returns-in-Err : goal.returns-in-Err
returns-in-Err g c =
    half_refused c.args.elf.now c.args.s.0 c.args.contents.now c.args.contents.now c.in-Err.e
    c.in-Err.ensures
