-- A unit of a line table: what `unit_at` gives.
use Rattle.std.specs.Prelude.{ℕ, ◌+◌, ◌==◌, List, ◌++◌, length, drop, Option, Some, None, Result, Ok, if◌then◌else◌}
use Rattle.elf_types.specs.declared.records.Class.{Class}
use Rattle.elf_types.specs.declared.records.Order.{Order}
use Rattle.line_table.specs.declared.faults.LineFault.{LineFault}
use Rattle.line_table.specs.declared.rows.Row.{Row}
use Rattle.line_table.specs.declared.units.Unit.{Unit as LineUnit}
use Rattle.elf_types.specs.Answers.{◌>>=◌}
use Rattle.line_table.specs.Header.{UnitHeader, unit_length, program_of, opened_unit}
use Rattle.line_table.specs.Program.{blamed, ops}
use Rattle.line_table.specs.Rows.{rows, all_names_added}

-- the files and the rows of a unit whose program begins at a place, or the first place where the
-- fold or the grammar stops: the grammar gives the instructions before the place where it stops, so
-- a place where the fold stops is before that one
unfoldable pub executed : UnitHeader → ℕ → List (List ℕ) → List ℕ
    → Result (List (List ℕ) × List Row) LineFault
executed u at files program =
    let instructions = ops u at program in do
      table ← rows u instructions.items
      end ← instructions.after
      Ok (files ++ all_names_added instructions.items, table)

-- the unit at a place of a section, where its body stands behind the four bytes of unit_length
unfoldable pub unit_of : Class → Order → List ℕ → ℕ → Result LineUnit LineFault
unit_of class order section at =
    let unit = drop at section in do
      o ← blamed at (opened_unit class order unit)
      made ← executed o.header (at + 4 + program_of o.header) o.files o.program
      Ok (record {
        at = at;
        next = at + 4 + unit_length order unit;
        version = o.header.version;
        files = made.0;
        rows = made.1;
      })

-- there is no unit exactly at the section's end
unfoldable pub unit_at : Class → Order → List ℕ → ℕ → Result (Option LineUnit) LineFault
unit_at class order section at =
    if at == length section then Ok None
    else (unit_of class order section at >>= λ unit. Ok (Some unit))
