use Rattle.std.proofs.Common.{◌∙◌, sym}
use Rattle.elf_update_to.proofs.elf_update_plan.InFileLaws.{inside_of}
use Rattle.elf_update_in_place.proofs.moves.sections.section_changes.Goals as goal

pub some_piece_is_marked-requires : goal.some_piece_is_marked-requires
some_piece_is_marked-requires g c =
    inside_of c.args.elf.now.o c.args.s (sym c.is_in_file.ensures ∙ c.if-not-is_in_file.false)

pub stands_at_home-requires-clause-there : goal.stands_at_home-requires-clause-there
stands_at_home-requires-clause-there g c =
    inside_of c.args.elf.now.o c.args.s (sym c.is_in_file.ensures ∙ c.if-not-is_in_file.false)
