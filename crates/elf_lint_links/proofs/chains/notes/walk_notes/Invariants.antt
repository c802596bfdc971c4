use Rattle.std.proofs.Common.{◌-◌}
use Rattle.elf_lint_findings.specs.elf_object.Answers.{count_at}
use Rattle.elf_lint_findings.specs.gelf_view.Chains.{notes}
use Rattle.elf_lint_links.specs.Chains.Chains.{bad_place}
use Rattle.elf_lint_links.proofs.chains.WalkLemmas.{Walking}
use Rattle.elf_lint_links.proofs.chains.notes.walk_notes.Given as goal

abbrev pub invariant-notes : goal.invariant-notes
invariant-notes g l = Walking g.S.Source l.initial.elf l.elf (λ o. bad_place (notes o l.fn.s.0 0 0).bad) (λ o. bad_place (notes o l.fn.s.0 0 l.at).bad)

abbrev pub decreases-notes : goal.decreases-notes
decreases-notes g l = count_at l.initial.elf.o l.fn.s.0 0 - l.at
