-- The marks that an update in place sets before it writes (ELF_F_DIRTY).
use Rattle.std.specs.Prelude.{Bool, List, ◌∷◌, length, flat_map}
use Rattle.elf_types.specs.declared.records.Part.{Part}
use Rattle.elf_types.specs.declared.records.Part.TheVariants as part
use Rattle.elf_object.specs.Object.{Object}
use Rattle.elf_update_to.specs.law_object.Writing.Marks.{pieces_of}
use Rattle.elf_update_in_place.specs.Loads.{told_sections}

-- the object, and the pieces of the sections that a list tells
abbrev pub told_parts : Object → List Bool → List Part
told_parts o moves = part.Object ∷ flat_map (pieces_of o) (told_sections moves (length o.sections))
