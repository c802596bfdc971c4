use Rattle.std.proofs.Common.{◌+◌}
use Rattle.gelf_view.proofs.EndedStrings.{front_string, front_all}
use Rattle.gelf_view.proofs.strings.front_of_ended.Goals as goal

pub returns-in-Some : goal.returns-in-Some
returns-in-Some c =
    front_string (c.args.longest + 1) c.args.bytes.now c.front_bytes-front.result.now
    c.requires c.front_bytes-front.ensures c.in-Some.string.now c.in-Some.ensures

pub returns-in-None : goal.returns-in-None
returns-in-None c =
    front_all (c.args.longest + 1) c.args.bytes.now c.front_bytes-front.result.now c.requires
    c.front_bytes-front.ensures c.in-None.ensures
