-- Why copy makes no image, as it is said.
use Rattle.std.specs.Prelude.{◌++◌, ℕ, List, [], Option, None, codes}
use Rattle.elf_types.specs.Text.{error_text}
use Rattle.tool_output.specs.declared.stops.Stop.{Stop}
use Rattle.tool_output.specs.Stops.{stop_of}
use Rattle.rebuild_changes.specs.declared.faults.CopyFault.{CopyFault}
use Rattle.rebuild_changes.specs.declared.faults.CopyFault.TheVariants.{NoSection, NoBytes, Allocated, Fixed, NoTable, Strip}

-- a name between two texts
unfoldable pub named_text : List ℕ → List ℕ → List ℕ → List ℕ
named_text before name after = before ++ name ++ after

-- the text of a fault that came; of one that is stated it is `Copy.copy_text`
unfoldable pub copy_fault_text : CopyFault → List ℕ
copy_fault_text (NoSection name) = named_text (codes "no section ") name []
copy_fault_text (NoBytes name) = named_text (codes "section ") name (codes " has no bytes")
copy_fault_text (Allocated name) = named_text (codes "section ") name (codes " is allocated")
copy_fault_text (Fixed name) = named_text (codes "allocation of ") name (codes " is fixed")
copy_fault_text NoTable = codes "no name table of its own"
copy_fault_text (Strip e) = error_text e

-- the stop of a fault that is no refusal
abbrev pub fault_stop : CopyFault → Option Stop
fault_stop (Strip e) = stop_of e
fault_stop _ = None
