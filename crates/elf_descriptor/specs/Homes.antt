-- Whether a section's home lies in the image as opened (gABI chapter 4, "Section Header").
use Rattle.std.specs.Prelude.{ℕ, Bool, Result}
use Rattle.elf_types.specs.declared.errors.ElfError.{ElfError}
use Rattle.elf_types.specs.Answers.{answered}
use Rattle.section_table.specs.elf_object.Object.{Object, section_at}
use Rattle.section_table.specs.elf_object.Answers.{no_section}

-- whether it is out of the file: it is not empty and passes the image's end
unfoldable pub out_answer : Object → ℕ → Result Bool ElfError
out_answer o s = answered (no_section o s) (section_at o s).home.out
