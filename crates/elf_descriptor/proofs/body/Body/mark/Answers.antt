use Rattle.elf_descriptor.proofs.EditSteps.{object_marked, table_marked, header_marked, segments_marked}
use Rattle.elf_descriptor.proofs.body.Body.mark.Goals as goal

pub returns-in-Object-clause-step : goal.returns-in-Object-clause-step
returns-in-Object-clause-step c = object_marked c.args.self.now c.args.part c.in-Object.is

pub returns-in-Table-clause-step : goal.returns-in-Table-clause-step
returns-in-Table-clause-step c = table_marked c.args.self.now c.args.part c.in-Table.is

pub returns-in-Header-clause-step : goal.returns-in-Header-clause-step
returns-in-Header-clause-step c = header_marked c.args.self.now c.args.part c.in-Header.is

pub returns-in-Segments-clause-step : goal.returns-in-Segments-clause-step
returns-in-Segments-clause-step c = segments_marked c.args.self.now c.args.part c.in-Segments.is
