use Rattle.gelf_view.proofs.EndedStrings.{no_string_past_end}
use Rattle.gelf_view.proofs.strings.string_from.Goals as goal

pub returns-then-bytes-at : goal.returns-then-bytes-at
returns-then-bytes-at c = no_string_past_end c.args.bytes.now c.args.place c.if-bytes-at.true
