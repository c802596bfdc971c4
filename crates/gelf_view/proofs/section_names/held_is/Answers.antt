use Rattle.std.proofs.Common.{List, ℕ, Option, ap, ◌∙◌}
use Rattle.elf_descriptor.specs.elf_object.Strings.{is_name}
use Rattle.gelf_view.proofs.TableStrings.{held_string}
use Rattle.gelf_view.proofs.section_names.held_is.Goals as goal

pub ended_bytes-requires : goal.ended_bytes-requires
ended_bytes-requires g c = c.requires.loaded

pub returns : goal.returns
returns g c = λ told.
    c.is_string_at.ensures
    ∙ ap (λ (found : Option (List ℕ)). is_name c.args.name.now found)
    (held_string c.args.elf.now c.args.s.0 c.args.offset c.ended_bytes.result.now c.requires
    (c.ended_bytes.ensures told))
