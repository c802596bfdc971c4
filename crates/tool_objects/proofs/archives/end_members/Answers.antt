use Rattle.std.proofs.Common.{Ok, Err, refl}
use Rattle.tool_objects.proofs.archives.end_members.Goals as goal

pub returns-in-Ok : goal.returns-in-Ok
returns-in-Ok g c = record {
  own = Ok c.in-Ok.was_refused;
  refuses = rw (c.command.ensures, c.of.ensures) at c.in-Ok.ensures;
  joined = refl;
}

pub returns-in-Err : goal.returns-in-Err
returns-in-Err g c = record {
  own = Err c.in-Err.stop;
  refuses = rw (c.command.ensures, c.of.ensures) at c.in-Err.ensures;
  joined = refl;
}
