use Rattle.readelf_chains.proofs.notes.NoteRecordsRecords.show.Goals as goal

pub show_each_note-requires : goal.show_each_note-requires
show_each_note-requires g c = c.requires.passed
