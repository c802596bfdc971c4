use Rattle.std.proofs.Common.{sym, ◌∙◌}
use Rattle.elf_lint_headers.proofs.OddLemmas.{bytes_are_whole}
use Rattle.elf_lint_headers.proofs.odd.is_ragged_of.Goals as goal

pub returns-in-Bytes : goal.returns-in-Bytes
returns-in-Bytes g c =
    bytes_are_whole c.args.elf.now.o c.args.s.0 (sym c.in-Bytes.is ∙ c.requires.kind)
