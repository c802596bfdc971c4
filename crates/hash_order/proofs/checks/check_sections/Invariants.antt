use Rattle.std.proofs.Common.{◌≡◌, length, map}
use Rattle.std.specs.List.{range_with_len}
use Rattle.elf_types.specs.Answers.{first_refusal}
use Rattle.symbol_lookup.specs.hash_model.Reordered.{reorder_refusal_of}
use Rattle.hash_order.proofs.CheckLaws.{left_to_check}
use Rattle.hash_order.proofs.checks.check_sections.Given as goal

abbrev pub invariant-loop-n : goal.invariant-loop-n
invariant-loop-n g l =
    left_to_check (reorder_refusal_of l.elf.o l.s.0) (length l.elf.o.sections) l.n
    ≡ first_refusal (map (reorder_refusal_of l.elf.o l.s.0)
    (range_with_len 0 (length l.elf.o.sections)))
