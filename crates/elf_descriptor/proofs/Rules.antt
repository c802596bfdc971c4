-- Lemmas that the proofs of several functions need together.
use Rattle.std.proofs.lemmas.List.Folds.{list_any_more}
use Rattle.elf_descriptor.proofs.EditSteps.{layout_else, layout_there}
use Rattle.elf_descriptor.proofs.Homes.{out_is}
use Rattle.elf_descriptor.proofs.Marks.{any_at}
use Rattle.elf_descriptor.proofs.Objects.{no_section_is, piece_refusal_is, section_marked_is, piece_is}
use Rattle.elf_descriptor.proofs.Refusals.{answered_err, answered_ok}

-- a value behind a test, or its refusal
pub ruleset answered = (answered_err, answered_ok)

-- whether a home is out of the file, or the refusal of its section
pub ruleset out_of_file = (out_is, answered_err, answered_ok)

-- a mark that is found
pub ruleset marks = (any_at, list_any_more)

-- a part that is there
pub ruleset part = (no_section_is, piece_refusal_is)

-- the marks of a part
pub ruleset flags = (section_marked_is, piece_is)

-- the flag of a layout
pub ruleset layout = (layout_else, layout_there)
