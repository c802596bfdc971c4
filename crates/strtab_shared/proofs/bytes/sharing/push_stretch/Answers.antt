use Rattle.std.proofs.Common.{◌+◌, drop, take, refl}
use Rattle.strtab_shared.proofs.bytes.PartLaws.{not_put}
use Rattle.strtab_shared.proofs.bytes.ShareLaws.{some_is}
use Rattle.strtab_shared.proofs.bytes.sharing.push_stretch.Goals as goal

pub push_ending-requires-clause-end : goal.push_ending-requires-clause-end
push_ending-requires-clause-end c =
    some_is c.checked_add.result _ c.in-Some.end (c.args.parts.now.count + c.args.len)
    c.in-Some.is c.checked_add.ensures

pub returns-in-None-clause-puts : goal.returns-in-None-clause-puts
returns-in-None-clause-puts c =
    not_put c.args.parts.now (take c.args.len (drop c.args.at c.args.parts.now.text)) _
    c.requires.kept refl
