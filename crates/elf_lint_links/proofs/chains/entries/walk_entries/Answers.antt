use Rattle.std.proofs.Common.{ℕ, true, Option, Some, None, refl, ap, sym}
use Rattle.std.specs.Prelude.{length}
use Rattle.elf_lint_findings.specs.gelf_view.Calls.{first_version_place}
use Rattle.elf_lint_findings.proofs.tool_objects.AnswerLemmas.{answers_stated}
use Rattle.elf_lint_findings.proofs.tool_objects.LearnLemmas.{learns_as, learns_by, learns_after}
use Rattle.elf_lint_findings.proofs.tool_objects.QueryLemmas.{queried, is_refusal_without_stop}
use Rattle.elf_lint_findings.specs.Looking.{data_bytes}
use Rattle.elf_lint_links.specs.Chains.Chains.{entries_bad, from_first}
use Rattle.elf_lint_links.proofs.chains.ChainLemmas.{first_there, first_refused}
use Rattle.elf_lint_findings.proofs.tool_objects.OnceReads.{once_read}
use Rattle.elf_lint_findings.proofs.tool_objects.ElfSteps.{settled_elf}
use Rattle.elf_lint_links.proofs.chains.entries.walk_entries.Goals as goal

pub returns-in-Ok-Some : goal.returns-in-Ok-Some
returns-in-Ok-Some g c =
    let entry = g.R.CheckedVersionEntry in
    let o = c.args.elf.now.o in
    let s = c.args.s.0 in
    let answer = rw c.in-Ok-Some.field-0-is at c.in-Ok-Some.ensures.answer in
    learns_as g.S.Source (λ o. entries_bad (entry.names_bad o s) (from_first (first_version_place (length (data_bytes o s))) (g.R.VersionEntry.entries o s 0))) (λ o. entries_bad (entry.names_bad o s) (g.R.VersionEntry.entries o s 0 c.in-Ok-Some.first)) _ c.args.elf.now _
    (λ told. ap (λ (p : Option ℕ). entries_bad (entry.names_bad o s) (from_first p (g.R.VersionEntry.entries o s 0))) (first_there o s (Some c.in-Ok-Some.first) (answer.1 refl)))
    (learns_after g.S.Source (λ o. entries_bad (entry.names_bad o s) (g.R.VersionEntry.entries o s 0 c.in-Ok-Some.first)) _ c.args.elf.now c.first_entry.new.elf _ (queried g.S.Source _ _ _ c.args.elf.now _ c.in-Ok-Some.ensures.queries (once_read _ _ _ _)) c.walk_reached.ensures)

pub returns-in-Ok-None : goal.returns-in-Ok-None
returns-in-Ok-None g c =
    let entry = g.R.CheckedVersionEntry in
    let o = c.args.elf.now.o in
    let s = c.args.s.0 in
    let answer = rw c.in-Ok-None.field-0-is at c.in-Ok-None.ensures.answer in
    learns_by g.S.Source (λ o. entries_bad (entry.names_bad o s) (from_first (first_version_place (length (data_bytes o s))) (g.R.VersionEntry.entries o s 0))) None c.args.elf.now _ (queried g.S.Source _ _ _ c.args.elf.now _ c.in-Ok-None.ensures.queries (once_read _ _ _ _))
    (λ told. ap (λ (p : Option ℕ). entries_bad (entry.names_bad o s) (from_first p (g.R.VersionEntry.entries o s 0))) (first_there o s None (answer.1 refl)))

pub returns-in-None : goal.returns-in-None
returns-in-None g c =
    let entry = g.R.CheckedVersionEntry in
    let o = c.args.elf.now.o in
    let s = c.args.s.0 in
    learns_by g.S.Source (λ o. entries_bad (entry.names_bad o s) (from_first (first_version_place (length (data_bytes o s))) (g.R.VersionEntry.entries o s 0))) None c.args.elf.now _ (settled_elf g.S.Source _ _ _ (is_refusal_without_stop c.in-Err.e (sym c.in-None.ensures)) (queried g.S.Source _ _ _ c.args.elf.now _ c.in-Err.ensures.queries (once_read _ _ _ _)))
    (λ told. sym (ap (λ (p : Option ℕ). entries_bad (entry.names_bad o s) (from_first p (g.R.VersionEntry.entries o s 0)))
    (first_refused o s c.in-Err.e (answers_stated true _ c.in-Err.e _ c.in-Err.ensures.answer (sym c.in-None.ensures)))))
