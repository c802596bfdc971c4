use Rattle.tool_objects.proofs.ImageLemmas.{object_of_archive, object_of_image, begun_over, elf_is_no_archive, other_is_no_archive}
use Rattle.tool_objects.proofs.images.begin_image.Goals as goal

pub returns-in-Ok-Archive-clause-answer : goal.returns-in-Ok-Archive-clause-answer
returns-in-Ok-Archive-clause-answer g c =
    object_of_archive (g.S.Source.holds c.args.src) (rw c.in-Ok-Archive.field-0-is at c.in-Ok-Archive.ensures.kind)

pub returns-in-Ok-Elf-clause-answer : goal.returns-in-Ok-Elf-clause-answer
returns-in-Ok-Elf-clause-answer g c =
    object_of_image (g.S.Source.holds c.args.src) _ _ _ c.in-Ok-Elf.ensures.asks.leaves.same_bytes
    (rw c.in-Ok-Elf.field-0-is at c.in-Ok-Elf.ensures.kind) elf_is_no_archive c.begin.ensures.answer

pub returns-in-Ok-Other-clause-answer : goal.returns-in-Ok-Other-clause-answer
returns-in-Ok-Other-clause-answer g c =
    object_of_image (g.S.Source.holds c.args.src) _ _ _ c.in-Ok-Other.ensures.asks.leaves.same_bytes
    (rw c.in-Ok-Other.field-0-is at c.in-Ok-Other.ensures.kind) other_is_no_archive c.begin-in-Ok-Other.ensures.answer

pub returns-in-Ok-Elf-clause-begun : goal.returns-in-Ok-Elf-clause-begun
returns-in-Ok-Elf-clause-begun g c =
    begun_over g.S.Source c.args.src _ _ _ _ c.in-Ok-Elf.ensures.asks c.begin.ensures.begun

pub returns-in-Ok-Other-clause-begun : goal.returns-in-Ok-Other-clause-begun
returns-in-Ok-Other-clause-begun g c =
    begun_over g.S.Source c.args.src _ _ _ _ c.in-Ok-Other.ensures.asks c.begin-in-Ok-Other.ensures.begun
