use Rattle.std.proofs.Common.{Ok, take}
use Rattle.tool_objects.specs.Steps.{Learns}
use Rattle.elf_lint_findings.specs.Looking.{section_words}
use Rattle.elf_lint_hashes.proofs.sysv.read_words.Given as goal

abbrev pub invariant-loop-i : goal.invariant-loop-i
invariant-loop-i g l =
    Learns g.S.Source (λ o. take l.i (section_words o l.s.0)) (Ok l.list) l.initial.elf l.elf
