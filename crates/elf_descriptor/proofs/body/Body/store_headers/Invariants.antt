-- The headers so far.
use Rattle.std.proofs.Common.{◌≡◌}
use Rattle.section_table.specs.Sections.{absent_scn}
use Rattle.elf_descriptor.proofs.Rows.{changed_from}
use Rattle.elf_descriptor.proofs.Placing.{stored_rows}
use Rattle.elf_descriptor.proofs.body.Body.store_headers.Given as goal

abbrev pub invariant-loop-s : goal.invariant-loop-s
invariant-loop-s l =
    (l.self ≡ record l.initial.self { sections = l.self.sections })
    × (l.self.sections
    ≡ changed_from (stored_rows l.places l.h) absent_scn 0 l.s l.initial.self.sections)
