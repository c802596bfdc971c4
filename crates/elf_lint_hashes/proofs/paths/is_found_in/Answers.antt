use Rattle.std.proofs.Common.{ℕ, Option, refl, sym, ap, ◌∙◌}
use Rattle.hash_model.specs.HashSections.{is_on}
use Rattle.elf_lint_hashes.specs.Sysv.{is_found, bucket_has}
use Rattle.elf_lint_hashes.specs.Paths.{chain_from}
use Rattle.elf_lint_hashes.proofs.PathLaws.{walked_on}
use Rattle.elf_lint_hashes.proofs.paths.is_found_in.Goals as goal

pub returns-then-is_met : goal.returns-then-is_met
unfolding is_found bucket_has
returns-then-is_met c =
    let w = c.args.words.now in
    let t = c.args.t in
    let i = c.args.i in
    sym (walked_on w t _ i _ refl
    ∙ ap (λ (k : ℕ). is_on i (chain_from w t k)) (sym c.bucket_at-first.ensures)
    ∙ c.is_met.ensures c.if-is_met.true)
    ∙ ap (λ (listed : Option ℕ). is_found w t listed i) (sym c.in-Some.is)

pub returns : goal.returns
unfolding is_found bucket_has
returns c =
    let w = c.args.words.now in
    let t = c.args.t in
    let i = c.args.i in
    c.is_walked.ensures
    ∙ ap (λ (k : ℕ). is_on i (chain_from w t k)) c.bucket_at-first.ensures
    ∙ sym (walked_on w t _ i _ refl)
    ∙ ap (λ (listed : Option ℕ). is_found w t listed i) (sym c.in-Some.is)
