use Rattle.std.proofs.Common.{sym}
use Rattle.rebuild_model.specs.elf_object.Answers.{no_section}
use Rattle.rebuild_model.proofs.elf_object.AnswerLaws.{answered_value}
use Rattle.rebuild_making.proofs.PlaceLaws.{section_known}
use Rattle.rebuild_making.proofs.StoreLaws.{never_refused}
use Rattle.rebuild_making.proofs.places.size_of_data.Goals as goal

pub returns : goal.returns
returns g c =
    (answered_value (no_section c.args.elf.now.o c.args.s.0) _ c.in-Ok.size
    (sym c.in-Ok.ensures)).1

pub unreachable-requires : goal.unreachable-requires
unreachable-requires g c =
    never_refused (no_section c.args.elf.now.o c.args.s.0) _ _
    (section_known c.args.elf.now.o c.args.s.0 c.requires) c.in-Err.ensures
