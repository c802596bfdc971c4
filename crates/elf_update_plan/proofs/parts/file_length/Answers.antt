use Rattle.std.proofs.Common.{sym, ◌∙◌}
use Rattle.elf_update_plan.proofs.PartLaws.{file_none, file_some}
use Rattle.elf_update_plan.proofs.parts.file_length.Goals as goal

pub returns-then-not-has_file_bytes : goal.returns-then-not-has_file_bytes
returns-then-not-has_file_bytes g c =
    file_none c.args.elf.now.o c.args.s (sym c.has_file_bytes.ensures
    ∙ c.if-not-has_file_bytes.true)

pub returns : goal.returns
returns g c =
    file_some c.args.elf.now.o c.args.s c.in-Ok.size (sym c.has_file_bytes.ensures
    ∙ c.if-not-has_file_bytes.false) c.in-Ok.ensures
