use Rattle.std.proofs.Common.{◌+◌, drop, refl, rules}
use Rattle.std.specs.List.{flat_map}
use Rattle.std.proofs.lemmas.Result.{err_from_is_err_and}
use Rattle.elf_lint_findings.proofs.tool_objects.ElfSteps.{elf_begins, elf_goes_on, elf_stops_at, elf_is_given, elf_failed, over_more}
use Rattle.elf_lint_findings.specs.Findings.{findings_shown}
use Rattle.elf_lint_findings.proofs.FindingLemmas.{findings_left, no_findings_left}
use Rattle.elf_lint.specs.Rules.{finds}
use Rattle.elf_lint.proofs.RuleLemmas.{one_more, no_more}
use Rattle.elf_lint.proofs.SurveyLemmas.{survey_clears, clears_stay}
use Rattle.elf_lint.proofs.rules.look_by_each.Goals as goal

pub loop-rule-init : goal.loop-rule-init
loop-rule-init g c =
    let elf = c.args.elf.now in record {
      way = elf_begins g.S.Source g.O.Sink g.E.Sink elf c.args.outputs.now _;
      clears = survey_clears elf.o c.survey_sections-survey.result
          c.survey_sections-survey.ensures elf.told;
    }

pub look_by_next-requires : goal.look_by_next-requires
look_by_next-requires g c = c.loop-rule.invariant.clears

pub loop-rule-preserved : goal.loop-rule-preserved
loop-rule-preserved g c =
    let name = c.args.name.now in
    let all = c.args.rules.now in
    let i = c.loop-rule.rule-index in
    let before = c.loop-rule.elf in
    let left = c.in_ok-was_found.ensures.finds.elf in
    record {
      way = over_more (elf_goes_on c.loop-rule.invariant.way _
          (λ o. findings_shown name (flat_map (λ r. finds r o) (drop (i + 1) all)))
          (λ told. findings_left name (λ r. finds r c.args.elf.now.o) all i _
          c.loop-rule-test.true (search rules))
          c.in_ok-was_found.ensures.finds refl) _ (one_more all i c.loop-rule-test.true);
      clears = clears_stay before.told _ before.o _ c.look_by_next.new.survey left.told
          left.object
          c.in_ok-was_found.ensures.clears;
    }

pub returns-in_err-was_found : goal.returns-in_err-was_found
returns-in_err-was_found g c =
    let name = c.args.name.now in
    let all = c.args.rules.now in
    let i = c.loop-rule.rule-index in
    let p = err_from_is_err_and c.from_residual.result c.from_residual.ensures.1 in
    rw (p.1, p.2) (elf_failed g.S.Source g.O.Sink g.E.Sink _ _ c.args.elf.now _ c.args.outputs.now _
    (elf_stops_at c.loop-rule.invariant.way _
    (λ o. findings_shown name (flat_map (λ r. finds r o) (drop (i + 1) all)))
    (λ told. findings_left name (λ r. finds r c.args.elf.now.o) all i _ c.loop-rule-test.true
    (search rules))
    c.in_err-was_found.ensures.finds))

pub returns : goal.returns
returns g c =
    elf_is_given (over_more c.loop-rule.invariant.way _
    (no_more c.args.rules.now c.loop-rule.rule-index))
    (λ told. no_findings_left c.args.name.now (λ r. finds r c.args.elf.now.o) c.args.rules.now c.loop-rule.rule-index c.loop-rule-test.false)
