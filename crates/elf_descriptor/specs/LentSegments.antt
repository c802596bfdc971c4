-- The program headers, lent for writing (gelf_getphdr and gelf_update_phdr of gelf(3E), on all).
use Rattle.std.specs.Prelude.{List, true, false}
use Rattle.std.specs.Borrow.{Lends, Fml}
use denote.RattleType.{RattleType}
use denote.Array.{Array}
use denote.Ref.{MutBor}
use Rattle.elf_types.specs.declared.records.Phdr.{Phdr}
use Rattle.elf_types.specs.contracts.records.Phdr.{the_row as phdr_row}
use Rattle.elf_types.specs.Lists.{refilled}
use Rattle.section_table.specs.elf_outside.declared.sources.Source.{Ghosts}
use Rattle.section_table.specs.elf_object.Calls as calls
use Rattle.elf_descriptor.specs.declared.body.Body.{Body}
use Rattle.elf_descriptor.specs.contracts.body.Body.{the_row as body_row}
use Rattle.elf_descriptor.specs.contracts.descriptor.Elf.{the_row}
use Rattle.elf_descriptor.specs.State.{State}
use Rattle.elf_descriptor.specs.Edits.{stepped}

-- what the program keeps, with what the borrower left
abbrev pub refilled_body : Body → List Phdr → Body
refilled_body b left =
    record b { phdrs = refilled b.phdrs left; segments_marked = true; ready = false }

abbrev pub LendsBodySegments : MutBor Body → MutBor (List Phdr) → Fml
LendsBodySegments b r = Lends body_row (Array phdr_row 0) b r (refilled_body b.now)

-- the program headers are what the borrower left, as many as there were, and are marked
abbrev pub LendsSegments : (S : RattleType) → (g : Ghosts S.Denot) → MutBor (State S.Denot)
    → MutBor (List Phdr) → Fml
LendsSegments S g e r =
    Lends (the_row S g) (Array phdr_row 0) e r
    (λ left. stepped (calls.phdrs_mut (refilled e.now.o.phdrs left)) e.now)
