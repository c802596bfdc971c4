use Rattle.std.proofs.Common.{None, sym, ◌∙◌}
use Rattle.elf_lint_findings.specs.gelf_view.Chains.{notes}
use Rattle.elf_lint_findings.proofs.tool_objects.ElfSteps.{elf_left}
use Rattle.elf_lint_findings.proofs.tool_objects.LearnLemmas.{learns_as, learns_by}
use Rattle.elf_lint_links.specs.Chains.Chains.{bad_place, note_bad}
use Rattle.elf_lint_links.proofs.chains.ChainLemmas.{note_looked, note_passed}
use Rattle.elf_lint_links.proofs.chains.notes.NotesChainRule.find_bad.Goals as goal

pub returns-then-is_plain_of : goal.returns-then-is_plain_of
returns-then-is_plain_of g c =
    let s = c.args.s.0 in
    learns_as g.S.Source (λ o. note_bad o s) (λ o. bad_place (notes o s 0 0).bad) _ c.args.elf.now _
    (λ told. sym (note_looked c.args.elf.now.o s (sym c.is_plain_of.ensures ∙ c.if-is_plain_of.true))) c.walk_notes.ensures

pub returns-else-is_plain_of : goal.returns-else-is_plain_of
returns-else-is_plain_of g c =
    let s = c.args.s.0 in
    learns_by g.S.Source (λ o. note_bad o s) None c.args.elf.now _ (elf_left g.S.Source c.args.elf.now)
    (λ told. sym (note_passed c.args.elf.now.o s (sym c.is_plain_of.ensures ∙ c.if-is_plain_of.false)))
