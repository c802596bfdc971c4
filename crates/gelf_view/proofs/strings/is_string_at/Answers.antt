use Rattle.std.proofs.Common.{◌+◌, ◌-◌, List, ℕ, Option, drop, take, length, ap, ◌∙◌, arith}
use Rattle.std.proofs.lemmas.List.{take_all, length-drop}
use Rattle.elf_descriptor.specs.elf_object.Strings.{is_name}
use Rattle.gelf_view.specs.Records.{string_front}
use Rattle.gelf_view.proofs.EndedStrings.{no_string_past_end, short_name}
use Rattle.gelf_view.proofs.strings.is_string_at.Goals as goal

pub returns-then-bytes-at : goal.returns-then-bytes-at
returns-then-bytes-at c =
    ap (λ (found : Option (List ℕ)). is_name c.args.name.now found)
    (no_string_past_end c.args.bytes.now c.args.place c.if-bytes-at.true)

pub returns : goal.returns
returns c =
    c.is_called.ensures
    ∙ ap (λ (found : Option (List ℕ)). is_name c.args.name.now found) c.short_string.ensures
    ∙ short_name (length c.args.name.now + 1) c.args.name.now
    (string_front (take (length c.args.bytes.now - c.args.place)
    (drop c.args.place c.args.bytes.now))) (omega arith)
    ∙ ap (λ (l : List ℕ). is_name c.args.name.now (string_front l))
    (take_all (length c.args.bytes.now - c.args.place) (drop c.args.place c.args.bytes.now)
    (omega (arith, length-drop c.args.place c.args.bytes.now)))
