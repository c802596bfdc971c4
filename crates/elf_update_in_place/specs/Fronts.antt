-- Whether a part of the front changes, where something is dirty (elf_update with ELF_C_WRITE).
use Rattle.std.specs.Prelude.{Bool, ◌||◌}
use Rattle.elf_types.specs.declared.records.Part.{Part}
use Rattle.elf_object.specs.Object.{Object}
use Rattle.elf_object.specs.Layout.{places_of}
use Rattle.elf_object.specs.Changed.{front_differs}

-- the object as a whole is marked, or the part is, or it differs from what stands in the image
abbrev pub changes_by : Object → Part → Bool → Bool
changes_by o of marked = o.marked || marked || front_differs (places_of o) o of
