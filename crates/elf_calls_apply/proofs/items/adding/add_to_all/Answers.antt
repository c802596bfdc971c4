use Rattle.std.proofs.Common.{sym}
use Rattle.elf_calls_apply.specs.Stated.{stated_call}
use Rattle.symbol_lookup.proofs.elf_object.AnswerLaws.{piece_kind_value}
use Rattle.elf_calls_apply.proofs.Refusing.{piece_kind_refuses}
use Rattle.elf_calls_apply.proofs.AddLaws.{piece_missing}
use Rattle.elf_calls_apply.proofs.items.adding.add_to_all.Goals as goal

pub add_by_kind-requires : goal.add_by_kind-requires
add_by_kind-requires g c = sym (piece_kind_value c.args.elf.now.o c.args.d.section c.args.d.piece c.in-Ok.kind (sym c.in-Ok.ensures)).1

pub returns-in-Err : goal.returns-in-Err
unfolding stated_call
returns-in-Err g c =
    piece_missing g.S.Source c.args.d c.args.n c.in-Err.e c.args.elf.now (piece_kind_refuses c.args.elf.now.o c.args.d.section c.args.d.piece c.in-Err.e (sym c.in-Err.ensures)) (sym c.in-Err.ensures)
