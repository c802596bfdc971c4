-- The units of a section (DWARF 4, 6.2.4): one behind the other, up to the section's end or to the
-- first that is not well formed.
use Rattle.std.specs.Prelude.{ℕ, suc, zero, List, [], ◌∷◌, length, Option, Some, None, Result, Ok, Err}
use Rattle.elf_types.specs.declared.records.Class.{Class}
use Rattle.elf_types.specs.declared.records.Order.{Order}
use Rattle.line_table.specs.declared.faults.LineFault.{LineFault}
use Rattle.line_table.specs.declared.units.Unit.{Unit as LineUnit}
use Rattle.line_table.specs.Units.{unit_at}

-- units that are well formed, and the fault that ends them, if one does
pub record UnitList : Type 0 where
  pub units : List LineUnit
  pub fault : Option LineFault

-- a unit before others, or the end of them
abbrev pub unit_then : Result (Option LineUnit) LineFault → (LineUnit → UnitList) → UnitList
unit_then (Err fault) later = record { units = []; fault = Some fault }
unit_then (Ok None) later = record { units = []; fault = None }
unit_then (Ok (Some u)) later =
    record { units = u ∷ (later u).units; fault = (later u).fault }

-- at most so many units from a place on
abbrev pub units_at_most : ℕ → Class → Order → List ℕ → ℕ → UnitList
units_at_most zero class order section at = record { units = []; fault = None }
units_at_most (suc n) class order section at =
    unit_then (unit_at class order section at)
    (λ u. units_at_most n class order section u.next)

-- all units: since a unit takes a byte, there is one turn more than they can need
unfoldable pub units_of : Class → Order → List ℕ → UnitList
units_of class order section = units_at_most (suc (length section)) class order section 0
