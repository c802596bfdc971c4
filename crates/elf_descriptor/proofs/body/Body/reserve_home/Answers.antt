use Rattle.section_table.specs.section_data.Refused.{home_out}
use Rattle.elf_descriptor.specs.Bodies.{no_raw_in}
use Rattle.elf_descriptor.specs.Views.{no_scn, scn_at}
use Rattle.elf_descriptor.proofs.Keeping.{so_same, first_then, refused_first}
use Rattle.elf_descriptor.proofs.body.Body.reserve_home.Goals as goal

pub returns-in-Err-clause-answer : goal.returns-in-Err-clause-answer
unfolding no_raw_in
returns-in-Err-clause-answer c =
    refused_first (no_scn c.args.self.now c.args.s) (home_out (scn_at c.args.self.now c.args.s).cell) c.in-Err.e c.in-Err.ensures.err c.in-Err.ensures.answer

pub returns-in-Err-clause-same : goal.returns-in-Err-clause-same
returns-in-Err-clause-same c = so_same c.args.self.now c.args.s

pub returns-clause-answer : goal.returns-clause-answer
unfolding no_raw_in
returns-clause-answer c =
    first_then (no_scn c.args.self.now c.args.s) (home_out (scn_at c.args.self.now c.args.s).cell) c.reserve_there.result (tt {0}) c.in_default.ensures.answer c.reserve_there.ensures.answer
