use Rattle.std.proofs.Common.{◌-◌}
use Rattle.elf_lint_findings.specs.elf_object.Answers.{count_at}
use Rattle.elf_lint_links.specs.Chains.Chains.{entries_bad}
use Rattle.elf_lint_links.proofs.chains.WalkLemmas.{Walking}
use Rattle.elf_lint_links.proofs.chains.entries.walk_from.Given as goal

abbrev pub invariant-entries : goal.invariant-entries
invariant-entries g l =
    let bad = g.R.CheckedVersionEntry.names_bad in
    let entries = g.R.VersionEntry.entries in
    Walking g.S.Source l.initial.elf l.elf
    (λ o. entries_bad (bad o l.fn.s.0) (entries o l.fn.s.0 0 l.fn.first))
    (λ o. entries_bad (bad o l.fn.s.0) (entries o l.fn.s.0 0 l.at))

abbrev pub decreases-entries : goal.decreases-entries
decreases-entries g l = count_at l.initial.elf.o l.fn.s.0 0 - l.at
