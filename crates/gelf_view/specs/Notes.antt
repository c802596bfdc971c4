-- Notes (gABI chapter 5, "Note Section"): a header of three numbers, a name, and a descriptor. The
-- descriptor and the next note begin at multiples of the alignment of the section's notes. Places
-- count from the first byte of the piece.
use Rattle.std.specs.Prelude.{◌≡◌, ℕ, ◌+◌, ◌<◌, ◌≤◌, min, nat_le, nat_lt, not, ◌==◌, ◌&&◌, Bool, List, length, Option, Some, None, Result, Ok, if◌then◌else◌}
use Rattle.elf_types.specs.declared.records.Order.{Order}
use Rattle.elf_types.specs.declared.errors.ElfError.{ElfError}
use Rattle.elf_types.specs.declared.errors.ElfError.TheVariants.{BadChain}
use Rattle.elf_types.specs.Answers.{refused_if, answered, ◌>>=◌}
use Rattle.elf_descriptor.specs.elf_xlate.Numbers.{number_at}
use Rattle.elf_descriptor.specs.elf_layout.Layout.{rounded_up}
use Rattle.elf_descriptor.specs.elf_object.Words.{result_map}
use Rattle.gelf_view.specs.declared.notes.NoteAt.{NoteAt}
use Rattle.gelf_view.specs.declared.notes.TheConstants.{NOTE_HEADER_SIZE}
use Rattle.gelf_view.specs.Records.{record_at}

-- the alignment of notes, by the sh_addralign of their section: 8 where that is 8, and else 4
unfoldable pub note_align : ℕ → ℕ
note_align addralign = if addralign == 8 then 8 else 4

-- ---- A note by its header: place and width of each field

unfoldable pub namesz : Order → List ℕ → ℕ
namesz order header = number_at order header 0 4  -- n_namesz

unfoldable pub descsz : Order → List ℕ → ℕ
descsz order header = number_at order header 4 4  -- n_descsz

unfoldable pub note_type : Order → List ℕ → ℕ
note_type order header = number_at order header 8 4  -- n_type

-- where the name of a note at a place ends
unfoldable pub name_end : Order → List ℕ → ℕ → ℕ
name_end order header at = at + NOTE_HEADER_SIZE + namesz order header

-- where its descriptor begins, in so many bytes: one without bytes begins at their end at the
-- latest
unfoldable pub desc_place : Order → ℕ → ℕ → List ℕ → ℕ → ℕ
desc_place order align size header at =
    let place = rounded_up (name_end order header at) align in
    if descsz order header == 0 then min place size else place

unfoldable pub desc_end : Order → ℕ → ℕ → List ℕ → ℕ → ℕ
desc_end order align size header at =
    desc_place order align size header at + descsz order header

-- whether its name and its descriptor lie in the bytes
unfoldable pub note_lies : Order → ℕ → ℕ → List ℕ → ℕ → Bool
note_lies order align size header at =
    nat_le (name_end order header at) size && nat_le (desc_end order align size header at) size

unfoldable pub note_of : Order → ℕ → ℕ → List ℕ → ℕ → NoteAt
note_of order align size header at = record {
  ntype = note_type order header;
  name_at = at + NOTE_HEADER_SIZE;
  namesz = namesz order header;
  desc_at = desc_place order align size header at;
  descsz = descsz order header;
  next = min (rounded_up (desc_end order align size header at) align) size;
}

-- the note at a place of so many bytes, where that header stands
unfoldable pub note_with : Order → ℕ → ℕ → List ℕ → ℕ → Result NoteAt ElfError
note_with order align size header at =
    answered
    (refused_if (not (note_lies order align size header at)) (BadChain at))
    (note_of order align size header at)

-- ---- The note at a place

-- none at the end of the bytes; that its header, its name or its descriptor does not lie in them
unfoldable pub note_at : Order → ℕ → List ℕ → ℕ → Result (Option NoteAt) ElfError
note_at order align bytes at =
    if at == length bytes then Ok None
    else record_at NOTE_HEADER_SIZE bytes at
    >>= λ header. result_map Some (note_with order align (length bytes) header at)

-- what is refused by the number of the bytes alone
abbrev pub note_header_refusal : ℕ → ℕ → Option ElfError
note_header_refusal size at =
    refused_if (not (at == size) && nat_lt size (at + NOTE_HEADER_SIZE)) (BadChain at)

-- a note at a place lies in so many bytes, and the next one comes after it
pub record IsNoteWithin (size at : ℕ) (note : NoteAt) : Type 0 where
  pub name_at : note.name_at ≡ at + NOTE_HEADER_SIZE
  pub name : note.name_at + note.namesz ≤ size
  pub desc : note.desc_at + note.descsz ≤ size
  pub after : at < note.next
  pub next : note.next ≤ size
