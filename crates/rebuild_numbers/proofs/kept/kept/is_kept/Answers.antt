use Rattle.std.proofs.Common.{sym, ◌∙◌}
use Rattle.rebuild_numbers.proofs.kept.KeptLaws.{kept_among}
use Rattle.rebuild_numbers.proofs.kept.kept.is_kept.Goals as goal

pub returns : goal.returns
returns g c =
    c.is_left.ensures ∙ sym (kept_among c.args.elf.now.o c.args.removed.now c.args.s)
