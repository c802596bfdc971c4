-- A unit from its parts.
use Rattle.std.proofs.Common.{◌≡◌, ℕ, ◌+◌, List, drop, Ok, Err, IfSome, refl}
use Rattle.elf_types.specs.declared.records.Class.{Class}
use Rattle.elf_types.specs.declared.records.Order.{Order}
use Rattle.line_table.specs.declared.faults.LineFault.{LineFault}
use Rattle.line_table.specs.declared.faults.LineFault.TheVariants as LineFaults
use Rattle.line_table.specs.declared.faults.UnitFault.{UnitFault}
use Rattle.line_table.specs.declared.faults.UnitFault.TheVariants as UnitFaults
use Rattle.line_table.specs.declared.rows.Row.{Row}
use Rattle.line_table.specs.Header.{OpenedUnit, unit_length, program_of, opened_unit}
use Rattle.line_table.specs.Units.{executed, unit_of}
use Rattle.line_table.specs.Outcomes.{why_of, stated_fault, fault_at}

module _ (class : Class) (order : Order) (section : List ℕ) (at : ℕ) where
  -- the unit is refused before its program is executed
  pub unit_refused : (e : UnitFault) → IfSome (why_of e) (λ w. opened_unit class order (drop at section) ≡ Err w) → IfSome (stated_fault (fault_at e at)) (λ f. unit_of class order section at ≡ Err f)
  unfolding unit_of
  unit_refused UnitFaults.Memory h = tt
  unit_refused (UnitFaults.Why why) h = rw h refl

  -- the program is refused
  pub unit_faulted : (e : LineFault) (o : OpenedUnit) (place : ℕ) → opened_unit class order (drop at section) ≡ Ok o → place ≡ at + 4 + program_of o.header
      → IfSome (stated_fault e) (λ f. executed o.header place o.files o.program ≡ Err f) → IfSome (stated_fault e) (λ f. unit_of class order section at ≡ Err f)
  unfolding unit_of
  unit_faulted LineFaults.Memory o place h p f = tt
  unit_faulted (LineFaults.Bad bad why) o place h p f = rw (h, ← p, f) refl

  -- the unit is made
  pub unit_made : (o : OpenedUnit) (place next : ℕ) (files : List (List ℕ)) (rows : List Row) → opened_unit class order (drop at section) ≡ Ok o → place ≡ at + 4 + program_of o.header
      → executed o.header place o.files o.program ≡ Ok (files, rows) → next ≡ at + 4 + unit_length order (drop at section)
      → unit_of class order section at ≡ Ok (record { at = at; next = next; version = o.header.version; files = files; rows = rows })
  unfolding unit_of
  unit_made o place next files rows h p made n = rw (h, ← p, made, n) refl
