use Rattle.std.proofs.Common.{◌+◌, List, ℕ, Option, sym, ap, ◌∙◌}
use Rattle.gelf_view.specs.Records.{first_bytes_of}
use Rattle.gelf_view.proofs.EndedStrings.{last_nul}
use Rattle.gelf_view.proofs.strings.front_of_string.Goals as goal

pub front_of_ended-requires : goal.front_of_ended-requires
front_of_ended-requires c =
    last_nul c.args.bytes.now (sym c.end_in_nul.ensures ∙ c.if-end_in_nul.true)

pub returns-then-end_in_nul : goal.returns-then-end_in_nul
returns-then-end_in_nul c = c.front_of_ended.ensures

pub returns : goal.returns
returns c =
    c.front_of_found.ensures
    ∙ ap (λ (found : Option (List ℕ)). first_bytes_of (c.args.longest + 1) found) c.string_in.ensures
