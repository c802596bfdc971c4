use Rattle.std.proofs.Common.{◌≡◌, ◌≤◌, ℕ, Bool, true, Option, Some, None, List, drop, IsTrue}
use Rattle.std.specs.List.{list_all, enumerate_from}
use Rattle.hash_model.specs.Hashes.{elf_hash}
use Rattle.hash_model.specs.Listed.{listed_names}
use Rattle.tool_objects.specs.Steps.{LeavesElf}
use Rattle.elf_lint_hashes.specs.Sysv.{is_found}
use Rattle.elf_lint_hashes.proofs.sysv.all_are_found.Given as goal

abbrev pub invariant-loop-i : goal.invariant-loop-i
invariant-loop-i g l =
    let test : ℕ × Option (List ℕ) → Bool = λ row.
    elim (row.1) [ None ↦ true | Some name ↦ is_found l.held l.t (Some (elf_hash name)) row.0 ] in
    let rows = enumerate_from 0 (listed_names l.initial.elf.o l.l.section.0) in
    record {
      begun : 1 ≤ l.i;
      left : IsTrue l.initial.elf.told → list_all test (drop l.i rows) ≡ list_all test rows;
      elf : LeavesElf g.S.Source l.initial.elf l.elf;
    }
