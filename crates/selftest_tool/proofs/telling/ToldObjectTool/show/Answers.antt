use Rattle.std.proofs.Common.{ℕ, ◌∙◌}
use Rattle.tool_output.specs.declared.stops.Stop.TheVariants.{Memory}
use Rattle.elfkit_outcomes.proofs.tool_objects.ElfSteps.{elf_left, elf_unread, left_as}
use Rattle.selftest_tool.specs.Told.{told_report}
use Rattle.selftest_tool.proofs.telling.ToldObjectTool.show.Goals as goal

pub show_told-requires-clause-last : goal.show_told-requires-clause-last
show_told-requires-clause-last g c =
    c.as_slice.ensures
    ∙ (rw c.from-in-Ok.ensures (rw c.from.ensures at c.in-Ok.ensures.ok))

pub returns-in-Ok-clause-reports : goal.returns-in-Ok-clause-reports
returns-in-Ok-clause-reports g c = rw c.from-in-Ok.ensures at c.show_told.ensures

pub returns-in-Ok-clause-unread : goal.returns-in-Ok-clause-unread
returns-in-Ok-clause-unread g c = λ no. cc

pub returns-in-Err-clause-reports : goal.returns-in-Err-clause-reports
returns-in-Err-clause-reports g c =
    let elf = c.args.elf.now in
    rw c.want_of.ensures (elf_unread g.S.Source g.O.Sink g.E.Sink ℕ Memory
    (told_report c.args.self.now.count c.args.name.now) elf elf c.args.outputs.now
    (record {
      elf = left_as g.S.Source (Unit {0}) ⊥ elf elf (λ never. tt) (elf_left g.S.Source elf);
      read = tt;
      write = tt;
    }))

pub returns-in-Err-clause-unread : goal.returns-in-Err-clause-unread
returns-in-Err-clause-unread g c = λ no. cc
