use Rattle.elf_descriptor.proofs.CreateLaws.{created_body}
use Rattle.elf_descriptor.proofs.body.Body.created.Goals as goal

pub returns : goal.returns
returns c =
    created_body c.args.class c.args.order c.args.base c.new_ehdr.result _ _ c.new_ehdr.ensures
    c.new.ensures c.new-2.ensures
