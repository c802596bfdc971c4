use Rattle.std.proofs.Common.{◌≡◌, ℕ, drop}
use Rattle.std.specs.List.{list_all}
use Rattle.hash_model.specs.HashSections.{ends, gnu_chain_from}
use Rattle.elf_lint_hashes.specs.Gnu.{gnu_section_of}
use Rattle.elf_lint_hashes.proofs.gnu.chains_end.Given as goal

abbrev pub invariant-loop-bucket : goal.invariant-loop-bucket
invariant-loop-bucket l =
    let h = gnu_section_of l.t l.bytes in
    let test = λ (first : ℕ). ends (gnu_chain_from h l.t.count first) in
    list_all test (drop l.bucket h.buckets) ≡ list_all test h.buckets
