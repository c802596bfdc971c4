-- The command elflint: what the rules find in each file that it names.
use Rattle.std.specs.Prelude.{ℕ, List, codes}
use Rattle.elf_outside.specs.Names.{Map}
use Rattle.tool_output.specs.Outcomes.{Outcome}
use Rattle.tool_objects.specs.Looks.{looks_over}
use Rattle.elf_lint.specs.Rules.{lint_passes, lint_report}
use Rattle.elfkit_read.specs.Objects.{objects_outcome}

-- the files in their order, and the members of one that is an archive
unfoldable pub elflint_outcome : List (List ℕ) → Map → Outcome
elflint_outcome names named =
    objects_outcome (codes "elflint") lint_report lint_report (looks_over lint_passes) names named
