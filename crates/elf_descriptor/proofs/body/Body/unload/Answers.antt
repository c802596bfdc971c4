use Rattle.elf_descriptor.proofs.Unloading.{refused_untouched}
use Rattle.elf_descriptor.proofs.body.Body.unload.Goals as goal

pub returns-in-Err-clause-gone : goal.returns-in-Err-clause-gone
returns-in-Err-clause-gone c = refused_untouched c.args.self.now c.args.base c.args.s c.in-Err.e c.in-Err.ensures.answer
