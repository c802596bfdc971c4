use Rattle.std.proofs.Common.{◌≡◌, ◌≤◌, ◌+◌, ◌-◌, false, not}
use Rattle.std.specs.List.{range_with_len, list_any}
use Rattle.rebuild_select.specs.elf_object.Sections.{is_among}
use Rattle.rebuild_select.specs.Steps.{links_to}
use Rattle.rebuild_numbers.proofs.kept.names.is_linked_by_kept.Given as goal

abbrev pub invariant-loop-s : goal.invariant-loop-s
invariant-loop-s g l = record {
  none : list_any (links_to l.elf.o (λ user. not (is_among l.removed user)) l.target)
      (range_with_len 1 (l.s - 1))
      ≡ false;
  within : l.s ≤ l.s-end + 1;
}
