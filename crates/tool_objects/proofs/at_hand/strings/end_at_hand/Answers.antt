use Rattle.std.proofs.Common.{refl}
use Rattle.tool_objects.proofs.at_hand.Ends.{ends_at}
use Rattle.tool_objects.proofs.at_hand.strings.end_at_hand.Goals as goal

pub returns-in-Some : goal.returns-in-Some
returns-in-Some g c = λ told.
    ends_at c.args.elf.now c.args.s.0 c.in-Some.bytes.now _ c.in-Some.ensures.strings
    c.in-Some.ensures.ended refl told
