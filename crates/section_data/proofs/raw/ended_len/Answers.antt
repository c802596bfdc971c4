use Rattle.section_data.proofs.LastNuls.{found_last, found_none}
use Rattle.section_data.proofs.raw.ended_len.Goals as goal

pub returns-in-Some : goal.returns-in-Some
returns-in-Some c = found_last c.args.bytes.now c.in-Some.last c.in-Some.ensures

pub returns-in-None : goal.returns-in-None
returns-in-None c = found_none c.args.bytes.now c.in-None.ensures
