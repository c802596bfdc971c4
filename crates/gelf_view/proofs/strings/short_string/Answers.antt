use Rattle.std.proofs.Common.{◌+◌, ap, ◌∙◌}
use Rattle.gelf_view.specs.Records.{string_front}
use Rattle.gelf_view.proofs.EndedStrings.{front_short}
use Rattle.gelf_view.proofs.strings.short_string.Goals as goal

pub returns : goal.returns
returns c =
    c.string_in.ensures ∙ ap string_front c.front_bytes.ensures
    ∙ front_short (c.args.longest + 1) c.args.bytes.now
