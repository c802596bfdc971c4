use Rattle.std.proofs.Common.{refl}
use Rattle.elf_lint_findings.proofs.tool_objects.ElfSteps.{elf_after, elf_failed, elf_unread}
use Rattle.elf_lint.specs.declared.survey.Survey.{Survey}
use Rattle.elf_lint.proofs.SurveyLemmas.{clears_stay}
use Rattle.elf_lint.proofs.rules.look_by_next.Goals as goal

pub look_unless_clear-requires : goal.look_unless_clear-requires
look_unless_clear-requires g c =
    let elf = c.args.elf.now in
    let left = c.in-Ok.ensures.reads.elf in
    clears_stay elf.told _ elf.o _ c.in-Ok.next left.told left.object c.in-Ok.ensures.clears

pub returns-in-Ok : goal.returns-in-Ok
returns-in-Ok g c = record {
  clears = c.in-Ok.ensures.clears;
  finds = elf_after g.S.Source g.O.Sink g.E.Sink _ _ _ c.args.elf.now c.survey_symbols.new.elf _
      c.args.outputs.now _ c.in-Ok.ensures.reads.elf c.look_unless_clear.ensures (λ told. refl);
}

pub returns-in-Err : goal.returns-in-Err
returns-in-Err g c = record {
  clears = c.requires;
  finds = elf_failed g.S.Source g.O.Sink g.E.Sink _ c.in-Err.stop c.args.elf.now _
      c.args.outputs.now _
      (elf_unread g.S.Source g.O.Sink g.E.Sink Survey c.in-Err.stop _ c.args.elf.now _
      c.args.outputs.now c.in-Err.ensures.reads);
}
