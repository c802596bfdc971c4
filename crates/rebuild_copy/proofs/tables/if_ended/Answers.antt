use Rattle.std.proofs.Common.{ℕ, List, refl, sym, ap, ◌∙◌}
use Rattle.std.specs.Prelude.{is_some}
use Rattle.rebuild_edits.specs.gelf_view.Records.{string_front}
use Rattle.rebuild_copy.proofs.tables.if_ended.Goals as goal

pub returns-then-is_ended : goal.returns-then-is_ended
returns-then-is_ended c = (
  refl,
  ap (λ (l : List ℕ). is_some (string_front l)) (sym c.as_slice.ensures)
      ∙ sym c.is_ended.ensures ∙ c.if-is_ended.true,
)
