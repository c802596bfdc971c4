use Rattle.std.proofs.Common.{sym, ap, ◌∙◌, subst, length, List, ℕ}
use Rattle.std.proofs.lemmas.List.Elements.{All-nil}
use Rattle.c_handles.specs.declared.lent.writes.KeptWrite.{KeptWrite}
use Rattle.c_handles.specs.Lent.Writes.{with_writes, IsSoundWrite, AreSound}
use Rattle.c_handles.proofs.lent.WriteLaws.{with_no_writes}
use Rattle.c_handles.proofs.lent.image.LentImage.new.Goals as goal

pub invariant_of-result : goal.invariant_of-result
invariant_of-result c = record {
  sound = subst AreSound (sym c.new.ensures) (All-nil IsSoundWrite);
  sized = ap (λ (l : List ℕ). length l) (c.bytes-bytes.ensures
      ∙ sym (ap (λ (ws : List KeptWrite). with_writes ws c.args.loan.bytes) c.new.ensures
      ∙ with_no_writes c.args.loan.bytes));
}
