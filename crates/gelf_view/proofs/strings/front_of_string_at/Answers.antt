use Rattle.std.proofs.Common.{◌+◌, ◌-◌, List, ℕ, Option, drop, length, ap, ◌∙◌, arith}
use Rattle.std.proofs.lemmas.List.{take_all, length-drop}
use Rattle.gelf_view.specs.Records.{first_bytes_of, string_front}
use Rattle.gelf_view.proofs.EndedStrings.{no_string_past_end}
use Rattle.gelf_view.proofs.strings.front_of_string_at.Goals as goal

pub returns-then-bytes-at : goal.returns-then-bytes-at
returns-then-bytes-at c =
    ap (λ (found : Option (List ℕ)). first_bytes_of (c.args.longest + 1) found)
    (no_string_past_end c.args.bytes.now c.args.place c.if-bytes-at.true)

pub returns : goal.returns
returns c =
    c.front_of_string.ensures
    ∙ ap (λ (l : List ℕ). first_bytes_of (c.args.longest + 1) (string_front l))
    (take_all (length c.args.bytes.now - c.args.place) (drop c.args.place c.args.bytes.now)
    (omega (arith, length-drop c.args.place c.args.bytes.now)))
