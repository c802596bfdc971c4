use Rattle.std.proofs.Common.{is_some}
use Rattle.elf_descriptor.specs.elf_object.Object.{piece_at}
use Rattle.gelf_view.proofs.FetchLemmas.{kind_missing}
use Rattle.gelf_view.proofs.fetching.is_own.Goals as goal

pub returns-in-Err-clause-answer : goal.returns-in-Err-clause-answer
returns-in-Err-clause-answer g c = (kind_missing c.args.elf.now.o c.args.d.section c.args.d.piece (is_some (piece_at c.args.elf.now.o c.args.d.section c.args.d.piece).own) c.in-Err.e c.in-Err.ensures).0

pub returns-in-Err-clause-err : goal.returns-in-Err-clause-err
returns-in-Err-clause-err g c = (kind_missing c.args.elf.now.o c.args.d.section c.args.d.piece (is_some (piece_at c.args.elf.now.o c.args.d.section c.args.d.piece).own) c.in-Err.e c.in-Err.ensures).1
