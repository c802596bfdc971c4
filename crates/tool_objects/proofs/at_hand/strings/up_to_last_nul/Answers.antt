use Rattle.std.proofs.Common.{◌≡◌, List, ℕ, length, drop, ap, sym, ◌∙◌, subst}
use Rattle.std.specs.Prelude.{nat_lt, is_some}
use Rattle.gelf_view.specs.Records.{string_front}
use Rattle.gelf_view.proofs.EndedStrings.{same_strings, each_ended}
use Rattle.tool_objects.proofs.at_hand.strings.up_to_last_nul.Goals as goal

pub returns-clause-same : goal.returns-clause-same
returns-clause-same c = λ at.
    ap (λ (l : List ℕ). string_front (drop at l)) c.first_bytes.ensures
    ∙ same_strings c.args.bytes.now c.ended_len-n.result c.ended_len-n.ensures at

pub returns-clause-ended : goal.returns-clause-ended
returns-clause-ended c = λ at.
    subst (λ (l : List ℕ). is_some (string_front (drop at l)) ≡ nat_lt at (length l))
    (sym c.first_bytes.ensures)
    (each_ended c.args.bytes.now c.ended_len-n.result c.ended_len-n.ensures at)
