use Rattle.elf_descriptor.proofs.EditSteps.{layout_then}
use Rattle.elf_descriptor.proofs.body.Body.set_layout_if.Goals as goal

pub returns-then-whole-clause-step : goal.returns-then-whole-clause-step
returns-then-whole-clause-step c = layout_then c.args.whole c.args.layout c.args.self.now c.if-whole.true
