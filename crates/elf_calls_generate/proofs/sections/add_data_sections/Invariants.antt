use Rattle.std.proofs.Common.{◌≤◌}
use Rattle.elf_calls_generate.specs.Stages.{IsStage, data_sections, data_names}
use Rattle.elf_calls_generate.proofs.sections.add_data_sections.Given as goal

abbrev pub invariant-loop-k : goal.invariant-loop-k
invariant-loop-k l = record {
  stage : IsStage (data_sections l.n l.k) (data_names l.k) l.elf l.names;
  within : l.k ≤ l.n;
}
