use Rattle.std.proofs.Common.{ℕ, List, [], sym, ◌∙◌, subst}
use Rattle.elf_lint_findings.specs.elf_object.Object.{Object}
use Rattle.elf_lint_findings.proofs.tool_objects.LearnLemmas.{learns_after, learns_stop}
use Rattle.elf_lint_findings.specs.Looking.{data_bytes}
use Rattle.elf_lint_links.specs.Chains.Chains.{entries_bad}
use Rattle.elf_lint_links.specs.Chains.Reach.{IsReach}
use Rattle.elf_lint_links.proofs.chains.entries.walk_reached.Goals as goal

pub walk_from-requires : goal.walk_from-requires
walk_from-requires g c = λ told.
    let s = c.args.s.0 in
    let left = c.in-Ok.ensures.reads.elf in
    subst (λ (m : Object). IsReach (g.R.CheckedVersionEntry.next_in m.header.order (data_bytes m s)) c.in-Ok.reach)
    (sym left.object) (c.in-Ok.ensures.is (sym left.told ∙ told))

pub returns-in-Ok : goal.returns-in-Ok
returns-in-Ok g c =
    let s = c.args.s.0 in
    learns_after g.S.Source
    (λ o. entries_bad (g.R.CheckedVersionEntry.names_bad o s) (g.R.VersionEntry.entries o s 0 c.args.first)) _
    c.args.elf.now c.find_reach.new.elf _ c.in-Ok.ensures.reads.elf c.walk_from.ensures

pub returns-in-Err : goal.returns-in-Err
returns-in-Err g c =
    let s = c.args.s.0 in
    let none : Object → List ℕ = λ o. [] in
    learns_stop g.S.Source none
    (λ o. entries_bad (g.R.CheckedVersionEntry.names_bad o s) (g.R.VersionEntry.entries o s 0 c.args.first))
    c.in-Err.stop c.args.elf.now _
    (record { value = λ told. tt; reads = c.in-Err.ensures.reads })
