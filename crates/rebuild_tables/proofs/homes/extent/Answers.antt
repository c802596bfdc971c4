use Rattle.std.proofs.Common.{sym}
use Rattle.rebuild_image.proofs.elf_object.AnswerLaws.{home_value}
use Rattle.rebuild_keep.proofs.EndLaws.{home_never}
use Rattle.rebuild_tables.proofs.homes.extent.Goals as goal

pub unreachable-requires : goal.unreachable-requires
unreachable-requires g c =
    home_never c.args.elf.now.o c.args.s.0 _ c.requires c.in-Err.ensures

pub returns-clause-at : goal.returns-clause-at
returns-clause-at g c =
    (home_value c.args.elf.now.o c.args.s.0 (c.in-Ok.at, c.in-Ok.len) (sym c.in-Ok.ensures)).1

pub returns-clause-len : goal.returns-clause-len
returns-clause-len g c =
    (home_value c.args.elf.now.o c.args.s.0 (c.in-Ok.at, c.in-Ok.len) (sym c.in-Ok.ensures)).2
