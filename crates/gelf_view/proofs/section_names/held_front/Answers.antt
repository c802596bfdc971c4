use Rattle.std.proofs.Common.{◌+◌, List, ℕ, Option, ap, ◌∙◌}
use Rattle.gelf_view.specs.Records.{first_bytes_of}
use Rattle.gelf_view.proofs.TableStrings.{held_string}
use Rattle.gelf_view.proofs.section_names.held_front.Goals as goal

pub ended_bytes-requires : goal.ended_bytes-requires
ended_bytes-requires g c = c.requires.loaded

pub returns : goal.returns
returns g c = λ told.
    c.front_of_string_at.ensures
    ∙ ap (λ (found : Option (List ℕ)). first_bytes_of (c.args.longest + 1) found)
    (held_string c.args.elf.now c.args.s.0 c.args.offset c.ended_bytes.result.now c.requires
    (c.ended_bytes.ensures told))
