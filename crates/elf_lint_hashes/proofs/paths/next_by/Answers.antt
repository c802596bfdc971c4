use Rattle.std.proofs.Common.{◌≡◌, ℕ, true, subst}
use Rattle.hash_model.specs.HashSections.{is_on}
use Rattle.elf_lint_hashes.specs.Paths.{chain_from}
use Rattle.elf_lint_hashes.proofs.PathLaws.{next_leads}
use Rattle.elf_lint_hashes.proofs.paths.next_by.Goals as goal

pub returns-then-number_of-number_at : goal.returns-then-number_of-number_at
returns-then-number_of-number_at c = λ k on.
    c.requires.are.leads c.args.at k (subst (λ (j : ℕ).
    is_on k (chain_from c.args.words.now c.args.t j) ≡ true) c.number_of-leap.ensures on)

pub returns-in-Some : goal.returns-in-Some
returns-in-Some c =
    next_leads c.args.words.now c.args.t c.args.paths.now c.requires.are c.args.at c.in-Some.next
    c.requires.other c.requires.known c.in-Some.ensures

pub returns-in-None : goal.returns-in-None
returns-in-None c = λ k on. on
