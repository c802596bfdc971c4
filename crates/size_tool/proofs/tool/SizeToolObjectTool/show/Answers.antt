use Rattle.tool_objects.proofs.ElfSteps.{elf_says, elf_left}
use Rattle.size_tool.specs.Tool.{size_report}
use Rattle.size_tool.proofs.tool.SizeToolObjectTool.show.Goals as goal

pub returns-clause-reports : goal.returns-clause-reports
unfolding size_report
returns-clause-reports g c =
    elf_says g.S.Source g.O.Sink g.E.Sink (size_report c.args.name.now) _ c.args.elf.now _ c.args.outputs.now _ (elf_left g.S.Source c.args.elf.now)
    (λ told. rw (← c.sum_sections-sums.ensures.sums) c.show_sums.ensures.reports) c.show_sums.ensures.leaves
