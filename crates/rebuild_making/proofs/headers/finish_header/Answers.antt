use Rattle.rebuild_making.proofs.HeaderLaws.{finish_answer, finish_state}
use Rattle.rebuild_making.proofs.headers.finish_header.Goals as goal

pub returns-clause-answer : goal.returns-clause-answer
returns-clause-answer g c =
    finish_answer c.args.elf.now.o c.args.made.now.o c.args.index c.ehdr.result
    c.update_ehdr.result c.ehdr.ensures c.update_ehdr.ensures.answer

pub returns-clause-state : goal.returns-clause-state
returns-clause-state g c =
    finish_state c.args.elf.now.o c.args.made.now c.update_ehdr.new.self c.args.index c.ehdr.result
    c.update_ehdr.result c.ehdr.ensures c.update_ehdr.ensures.state
