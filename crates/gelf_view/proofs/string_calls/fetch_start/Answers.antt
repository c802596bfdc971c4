use Rattle.elf_descriptor.specs.elf_object.Strings.{strptr}
use Rattle.elf_descriptor.specs.Reads.{wanted}
use Rattle.gelf_view.proofs.StringCalls.{unread_refused}
use Rattle.gelf_view.proofs.string_calls.fetch_start.Goals as goal

pub returns-in-Err-clause-answer : goal.returns-in-Err-clause-answer
returns-in-Err-clause-answer g c =
    unread_refused c.args.elf.now.o c.args.elf.now.told (wanted (strptr c.args.s.0 c.args.offset) c.args.elf.now) c.args.s.0 c.args.offset c.in-Err.e c.in-Err.ensures.err c.in-Err.ensures.refused
