use Rattle.elf_descriptor.proofs.EditSteps.{flags_stepped}
use Rattle.elf_descriptor.proofs.body.Body.set_flags.Goals as goal

pub returns-clause-step : goal.returns-clause-step
returns-clause-step c =
    flags_stepped c.args.self.now c.mark_if.new.self c.set_layout_if.new.self c.args.part c.args.set c.args.bits c.is_marking.result c.is_laying_out.result
    c.is_marking.ensures c.is_laying_out.ensures c.mark_if.ensures.step c.set_layout_if.ensures.step

pub returns-clause-there : goal.returns-clause-there
returns-clause-there c = c.set_layout_if.ensures.there c.args.part c.mark_if.ensures.there
