use Rattle.elf_lint_links.specs.Chains.Chains.{bad_place}
use Rattle.elf_lint_links.proofs.chains.WalkLemmas.{Walking}
use Rattle.elf_lint_links.proofs.chains.entries.walk_names.Given as goal

abbrev pub invariant-names : goal.invariant-names
invariant-names g l =
    let aux = g.A.VersionName in
    Walking g.S.Source l.initial.elf l.elf (λ o. bad_place (aux.names o l.fn.s.0 0 l.fn.first).bad) (λ o. bad_place (aux.names o l.fn.s.0 0 l.place).bad)

abbrev pub decreases-names : goal.decreases-names
decreases-names g l = l.place.left
