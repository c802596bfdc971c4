use Rattle.std.proofs.Common.{◌≡◌, drop}
use Rattle.std.specs.List.{list_all}
use Rattle.elf_lint_hashes.specs.Sysv.{has_end, sysv_section_of}
use Rattle.elf_lint_hashes.specs.Paths.{ArePaths}
use Rattle.elf_lint_hashes.proofs.paths.chains_end.Given as goal

abbrev pub invariant-loop-bucket : goal.invariant-loop-bucket
invariant-loop-bucket l =
    let test = has_end l.words l.t in
    let rows = (sysv_section_of l.t l.words).buckets in
    record {
      left : list_all test (drop l.bucket rows) ≡ list_all test rows;
      are : ArePaths l.words l.t l.paths;
    }
