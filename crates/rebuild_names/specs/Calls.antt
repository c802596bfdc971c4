-- The table of the names that is made anew, as a call on an object: what it reads, and when it may
-- want memory.
use Rattle.std.specs.Prelude.{◌≡◌, ℕ, List, None}
use Rattle.elf_types.specs.declared.errors.ElfError.TheVariants.{TooLarge}
use Rattle.elf_types.specs.Answers.{answered}
use Rattle.rebuild_numbers.specs.elf_object.Words.{Refusals}
use Rattle.rebuild_numbers.specs.elf_object.Calls.{Call, some_memory}
use Rattle.rebuild_numbers.specs.rebuild_model.Rebuilt.{kept_names, table_refusal}
use Rattle.rebuild_numbers.specs.rebuild_select.Calls.{names_home}
use Rattle.rebuild_names.specs.declared.building.NewNames.{NewNames}
use Rattle.rebuild_names.specs.Names as stated

abbrev pub new_names : List ℕ → Call NewNames
new_names removed = record {
  answer = λ o. answered (table_refusal (kept_names o removed)) (stated.new_names o removed);
  after = λ o. o;
  reads = names_home;
  memory = some_memory;
}

-- that the table is too large is found in its names
abbrev pub names_refusals : Refusals
names_refusals = record { unread = None; early = None; met = λ e. e ≡ TooLarge }
