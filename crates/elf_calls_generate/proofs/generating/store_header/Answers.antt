use Rattle.elf_calls_generate.proofs.StageLaws.{header_made, header_wants}
use Rattle.elf_calls_generate.proofs.generating.store_header.Goals as goal

pub returns-clause-made : goal.returns-clause-made
returns-clause-made c =
    header_made c.args.n c.args.elf.now c.update_ehdr.new.self c.ehdr.result c.requires.made
    c.ehdr.ensures c.update_ehdr.result c.update_ehdr.ensures.state

pub returns-clause-err : goal.returns-clause-err
returns-clause-err c =
    header_wants c.args.n c.args.elf.now c.update_ehdr.new.self c.ehdr.result c.requires.made
    c.ehdr.ensures c.update_ehdr.result c.requires.few c.update_ehdr.ensures.answer
