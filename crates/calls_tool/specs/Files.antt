-- What calls say of a file.
use Rattle.std.specs.Prelude.{ℕ, ◌+◌, List, codes, Ok, Err}
use Rattle.symbol_lookup.specs.elf_ident.Front.{front_bytes}
use Rattle.tool_output.specs.Names.{Name}
use Rattle.tool_output.specs.Reports.{Report}
use Rattle.tool_objects.specs.Images.{file_object, object_report}
use Rattle.elf_calls_script.specs.declared.calls.Call.{Call}
use Rattle.calls_tool.specs.Reads.{homes_read}
use Rattle.calls_tool.specs.Runs.{calls_report, stated_calls}

-- the lines of the calls on the image that it is, or the message that says why it is none; an
-- archive is refused
unfoldable pub calls_file_report : List Call → Name → List ℕ → Report
calls_file_report cs name bytes =
    object_report (codes "calls") (λ name o. calls_report cs o) name (file_object bytes)

-- how many bytes they ask for at most: the kind takes eight, then the front what is stated of it,
-- and then the calls the homes that they read, each once
unfoldable pub calls_asks : List Call → List ℕ → ℕ
calls_asks cs bytes =
    (8 + front_bytes bytes)
    + elim (file_object bytes) [ Ok o ↦ homes_read (stated_calls cs) o | Err e ↦ 0 ]
