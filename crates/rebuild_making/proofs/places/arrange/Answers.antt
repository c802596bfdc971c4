use Rattle.std.proofs.Common.{refl}
use Rattle.rebuild_making.proofs.PlaceLaws.{arranged_as, arranged_none}
use Rattle.rebuild_making.proofs.places.arrange.Goals as goal

pub returns-in-Some-clause-arranged : goal.returns-in-Some-clause-arranged
returns-in-Some-clause-arranged g c =
    rw c.in-Some.is (arranged_as c.arrange_behind.result c.args.elf.now c.arrange_behind.new.elf
    c.in-Some.from c.arrange_behind.ensures.answer c.arrange_behind.ensures.state)

pub returns-in-Some-clause-answer : goal.returns-in-Some-clause-answer
returns-in-Some-clause-answer g c = rw c.in-Some.is c.arrange_behind.ensures.answer

pub returns-in-Some-clause-state : goal.returns-in-Some-clause-state
returns-in-Some-clause-state g c = rw c.in-Some.is c.arrange_behind.ensures.state

pub returns-in-None-clause-arranged : goal.returns-in-None-clause-arranged
returns-in-None-clause-arranged g c = rw c.in-None.is (arranged_none c.args.elf.now.o)

pub returns-in-None-clause-answer : goal.returns-in-None-clause-answer
returns-in-None-clause-answer g c = rw c.in-None.is refl

pub returns-in-None-clause-state : goal.returns-in-None-clause-state
returns-in-None-clause-state g c = rw c.in-None.is refl
