-- The sizes of the records of notes (gABI chapter 5, "Note Section") and of GNU's version sections
-- in bytes, each name beside its number.
use Rattle.std.specs.Prelude.{ℕ, List, [], ◌∷◌}
use Rattle.gelf_view.specs.declared.notes.TheConstants.{NOTE_HEADER_SIZE}
use Rattle.gelf_view.specs.declared.versions.TheConstants.{VERDEF_SIZE, VERDAUX_SIZE, VERNEED_SIZE, VERNAUX_SIZE}

abbrev pub record_sizes : List (ℕ × ℕ)
record_sizes =
    (NOTE_HEADER_SIZE, 12) ∷
    (VERDEF_SIZE, 20) ∷
    (VERDAUX_SIZE, 8) ∷
    (VERNEED_SIZE, 16) ∷
    (VERNAUX_SIZE, 16) ∷ []
