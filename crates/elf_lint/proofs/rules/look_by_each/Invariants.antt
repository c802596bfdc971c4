use Rattle.std.proofs.Common.{length, take, drop}
use Rattle.std.specs.List.{flat_map}
use Rattle.elf_lint_findings.specs.tool_objects.Steps.{ElfOver}
use Rattle.elf_lint_findings.specs.Findings.{findings_shown}
use Rattle.elf_lint.specs.Rules.{finds}
use Rattle.elf_lint.specs.Survey.{ClearsRules}
use Rattle.elf_lint.proofs.rules.look_by_each.Given as goal

abbrev pub invariant-loop-rule : goal.invariant-loop-rule
invariant-loop-rule g l = record {
  way : ElfOver g.S.Source g.O.Sink g.E.Sink (length (take l.rule-index l.rules)) l.found
      l.initial.elf l.elf l.initial.outputs l.outputs
      (λ o. findings_shown l.name (flat_map (λ r. finds r o) l.rules))
      (λ o. findings_shown l.name (flat_map (λ r. finds r o) (drop l.rule-index l.rules)));
  clears : ClearsRules l.elf.told l.elf.o l.survey;
}
