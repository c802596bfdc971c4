use Rattle.std.proofs.Common.{◌≡◌, ◌≤◌, ℕ, Bool, true, Option, Some, None, List, drop, IsTrue}
use Rattle.std.specs.List.{list_all, enumerate_from}
use Rattle.hash_model.specs.HashSections.{is_found_gnu}
use Rattle.hash_model.specs.Listed.{listed_names}
use Rattle.tool_objects.specs.Steps.{LeavesElf}
use Rattle.elf_lint_findings.specs.Looking.{data_bytes}
use Rattle.elf_lint_hashes.specs.Gnu.{gnu_section_of, IsChainRun}
use Rattle.elf_lint_hashes.proofs.gnu_sections.all_are_found.Given as goal

abbrev pub invariant-loop-i : goal.invariant-loop-i
invariant-loop-i g l =
    let o = l.initial.elf.o in
    let h = gnu_section_of l.t (data_bytes o l.s.0) in
    let test : ℕ × Option (List ℕ) → Bool = λ row. elim (row.1) [ None ↦ true | Some name ↦ is_found_gnu l.t.class h l.t.count row.0 name ] in
    let rows = enumerate_from 0 (listed_names o l.l.section.0) in
    record {
      begun : 1 ≤ l.i;
      run : IsTrue l.initial.elf.told → IsChainRun h l.t.count l.i l.start;
      left : IsTrue l.initial.elf.told → list_all test (drop l.i rows) ≡ list_all test rows;
      elf : LeavesElf g.S.Source l.initial.elf l.elf;
    }
