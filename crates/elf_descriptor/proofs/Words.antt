-- Words that a proof opens together. The value of the one that stands for them says nothing: what
-- counts is that a proof that unfolds it unfolds the others.
use Rattle.std.specs.Prelude.{Bool, true}
use Rattle.section_table.specs.elf_object.Answers.{part_refusal, flags_of}
use Rattle.section_table.specs.elf_object.Calls.{phdr_answer, flags_answer}
use Rattle.section_table.specs.section_data.Held.{piece_in}
use Rattle.elf_descriptor.specs.Views.{object_of}

-- a piece of a section
unfoldable pub piece : Bool
unfolding piece_in
piece = true

-- a program header
unfoldable pub phdr : Bool
unfolding phdr_answer object_of
phdr = true

-- how a part is refused
unfoldable pub part : Bool
unfolding part_refusal
part = true

-- the flags of a part that is there
unfoldable pub part_flags : Bool
unfolding flags_of object_of
part_flags = true

-- those of any part
unfoldable pub flags : Bool
unfolding flags_answer
flags = true
