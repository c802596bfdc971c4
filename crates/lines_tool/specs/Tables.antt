-- What is said of a section that is named `.debug_line`: its line table, or why there is none.
use Rattle.std.specs.Prelude.{◌+◌, ℕ, List, Bool, true, false, Option, Some, None, Result, Ok, Err, codes}
use Rattle.elf_types.specs.declared.records.Class.{Class}
use Rattle.elf_types.specs.declared.records.Order.{Order}
use Rattle.elf_types.specs.declared.errors.ElfError.{ElfError}
use Rattle.elf_types.specs.Text.{error_text}
use Rattle.elf_types.specs.Kinds.{is_compressed}
use Rattle.elf_object.specs.Object.{Object, section_at}
use Rattle.elf_object.specs.Calls.{raw_answer}
use Rattle.line_table.specs.declared.faults.LineFault.{LineFault}
use Rattle.line_table.specs.declared.faults.LineFault.TheVariants.{Memory, Bad}
use Rattle.line_table.specs.declared.units.Unit.{Unit as LineUnit}
use Rattle.tool_output.specs.Names.{Name}
use Rattle.tool_output.specs.Lines.{numbered_lines}
use Rattle.tool_output.specs.Messages.{section_message}
use Rattle.tool_output.specs.Reports.{Report, no_report, shown_report, refusal_report, joined_reports, reports_of}
use Rattle.lines_tool.specs.Rows.{line_table_title, unit_title, file_line, row_line, fault_text}
use Rattle.lines_tool.specs.Units.{UnitList, units_of}

-- a message on a section
unfoldable pub section_message_report : Name → ℕ → List ℕ → Report
section_message_report name s text = refusal_report (codes "lines") name (section_message s text)

-- the message of the fault that ends a section's units; no definition states want of memory
unfoldable pub fault_report : Name → ℕ → Option LineFault → Report
fault_report name s None = no_report
fault_report name s (Some Memory) = no_report
fault_report name s (Some (Bad at why)) = section_message_report name s (fault_text at why)

-- a unit: its files, of which the first is file 1, and its rows
unfoldable pub unit_report : LineUnit → Report
unit_report u =
    joined_reports (shown_report (unit_title u.at u.version))
    (joined_reports (shown_report (numbered_lines (λ i name. file_line (i + 1) name) 0 u.files))
    (reports_of (λ r. shown_report (row_line r)) u.rows))

-- the units that are well formed, and then the message
unfoldable pub units_report : Name → ℕ → UnitList → Report
units_report name s l =
    joined_reports (reports_of unit_report l.units) (fault_report name s l.fault)

-- the table in a section's bytes
unfoldable pub line_table_report : Name → ℕ → Class → Order → List ℕ → Report
line_table_report name s class order bytes =
    joined_reports (shown_report (line_table_title s))
    (units_report name s (units_of class order bytes))

-- the same of a section whose data may be compressed, which then has a message
unfoldable pub report_by_compression : Bool → Name → ℕ → Class → Order → List ℕ → Report
report_by_compression true name s class order bytes =
    section_message_report name s (codes "compressed")
report_by_compression false name s class order bytes = line_table_report name s class order bytes

-- the same of a section whose bytes may be out of the file, which then has the message of that
unfoldable pub line_section_report : Name → Object → ℕ → Report
line_section_report name o s = by_bytes (raw_answer o s)
  where
    by_bytes : Result (List ℕ) ElfError → Report
    by_bytes (Err e) = refusal_report (codes "lines") name (error_text e)
    by_bytes (Ok bytes) =
        report_by_compression (is_compressed (section_at o s).header.flags) name s
        o.header.class o.header.order bytes
