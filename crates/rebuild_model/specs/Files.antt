-- The bytes that a command writes, or why it writes none.
use Rattle.std.specs.Prelude.{ℕ, List, Result}
use Rattle.elf_types.specs.Answers.{answered, ◌>>=◌}
use Rattle.elf_types.specs.declared.errors.ElfError.{ElfError}
use Rattle.hash_model.specs.elf_object.Object.{Object}
use Rattle.hash_model.specs.elf_object.Image.{image}
use Rattle.hash_model.specs.elf_object.Refusal.{refusal}
use Rattle.rebuild_model.specs.Arranged.{Rebuilt}

-- what an update writes of an object
unfoldable pub file_of : Object → Result (List ℕ) ElfError
file_of o = answered (refusal o) (image o)

-- the same of what was made anew
abbrev pub file_made : Result Rebuilt ElfError → Result (List ℕ) ElfError
file_made made = made >>= λ r. file_of r.object
