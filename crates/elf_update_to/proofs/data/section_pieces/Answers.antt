use Rattle.std.proofs.Common.{◌∙◌, sym}
use Rattle.elf_update_plan.proofs.InFileLaws.{inside_of}
use Rattle.elf_update_to.proofs.DataLaws.{none_stored, counted}
use Rattle.elf_update_to.proofs.data.section_pieces.Goals as goal

pub returns-then-not-is_in_file : goal.returns-then-not-is_in_file
returns-then-not-is_in_file g c =
    none_stored c.args.elf.now.o c.args.s (sym c.is_in_file.ensures ∙ c.if-not-is_in_file.true)

pub count_pieces-requires : goal.count_pieces-requires
count_pieces-requires g c = inside_of c.args.elf.now.o c.args.s (sym c.is_in_file.ensures ∙ c.if-not-is_in_file.false)

pub returns : goal.returns
returns g c =
    counted c.args.elf.now.o c.args.s c.count_pieces.result (sym c.is_in_file.ensures
    ∙ c.if-not-is_in_file.false) c.count_pieces.ensures
