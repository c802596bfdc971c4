-- The parts of a layout as C sees them.
use Rattle.std.specs.Prelude.{ℕ, List, length, slice_get, Option, Some, None, Result}
use Rattle.elf_types.specs.declared.errors.ElfError.{ElfError}
use Rattle.elf_types.specs.declared.errors.ElfError.TheVariants.{NoEntry}
use Rattle.elf_types.specs.declared.records.Part.{Part}
use Rattle.elf_types.specs.declared.records.Part.TheVariants as part
use Rattle.elf_types.specs.Answers.{or_refused}
use Rattle.elf_layout.specs.declared.parts.PartAt.{PartAt}
use Rattle.c_handles.specs.declared.layout.planned.PlannedLayout.{PlannedLayout}
use Rattle.c_calls.specs.declared.layout.records.PartRecord.{PartRecord}

-- the bytes of the ELF header and of the two tables; a section's are the program's own
abbrev pub front_of : PlannedLayout → Part → Option (List ℕ)
front_of l part.Header = Some l.header
front_of l part.Segments = Some l.segments
front_of l part.Table = Some l.table
front_of l _ = None

-- those of the part at an index
abbrev pub front_at : PlannedLayout → ℕ → Option (List ℕ)
front_at l i = elim (slice_get l.parts i) [ None ↦ None | Some p ↦ front_of l p.part ]

-- the number of a section; 0 of each other part
abbrev pub section_number : Part → ℕ
section_number (part.Section s) = s
section_number _ = 0

abbrev pub part_len : PlannedLayout → PartAt → ℕ
part_len l p = elim (front_of l p.part) [ None ↦ p.len | Some bytes ↦ length bytes ]

-- a part
abbrev pub part_record : PlannedLayout → PartAt → PartRecord
part_record l p = record { at = p.at; len = part_len l p; section = section_number p.part }

-- the part at an index, or the refusal where there is none
abbrev pub part_at : List PartAt → ℕ → Result PartAt ElfError
part_at parts i = or_refused (slice_get parts i) (NoEntry i (length parts))
