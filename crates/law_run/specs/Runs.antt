-- A run of elfkit over files that tell their bytes, as the clause `delivers` of `run` says it.
use Rattle.std.specs.Prelude.{ℕ, List, Option}
use Rattle.elf_outside.specs.Names.{Map}
use Rattle.tool_output.specs.declared.statuses.Status.{Status}
use Rattle.tool_output.specs.Statuses.{status_code}
use Rattle.tool_output.specs.Outcomes.{Delivers}
use Rattle.elfkit_run.specs.Program.{program}

-- what the two outputs hold, and the map from names to bytes, before and after
pub record Around : Type 0 where
  pub out_old : Option (List ℕ)
  pub out_new : Option (List ℕ)
  pub err_old : Option (List ℕ)
  pub err_new : Option (List ℕ)
  pub named_old : Map
  pub named_new : Map

-- the run on the words ended with the status
abbrev pub Ran : List (List ℕ) → Status → Around → Type 0
Ran words status run =
    Delivers (program words run.named_old) (status_code status)
    run.out_old run.out_new run.err_old run.err_new run.named_old run.named_new
