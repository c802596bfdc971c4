use Rattle.std.proofs.Common.{◌^◌, ◌<◌, sym, ap, ◌∙◌, subst, length, List, ℕ, arith}
use Rattle.std.proofs.lemmas.List.Elements.{All-from_get_or}
use Rattle.elf_types.specs.Lists.{AreBytes}
use Rattle.c_handles.specs.declared.lent.writes.KeptWrite.{KeptWrite}
use Rattle.c_handles.specs.Lent.Writes.{with_writes, IsSoundWrite, AreSound}
use Rattle.c_handles.proofs.lent.WriteLaws.{sound_pushed, length_pushed}
use Rattle.c_handles.proofs.lent.image.LentImage.keep.Goals as goal

pub invariant_of-self-2 : goal.invariant_of-self-2
invariant_of-self-2 c =
    let was = c.args.self.now in
    let w : KeptWrite = record { size = c.args.size; at = c.args.at; bytes = c.in_ok-own.own } in
    let fits : AreBytes c.args.bytes.now =
    All-from_get_or (λ n. n < 2 ^ 8) c.args.bytes.now 0 (λ i below. (c.type_inv.bytes i).fits) in
    let is : IsSoundWrite w = record {
      lies = omega (arith, c.requires, ap (λ (l : List ℕ). length l) c.in_ok-own.ensures.ok);
      fits = subst AreBytes (sym c.in_ok-own.ensures.ok) fits;
    } in
    record {
      sound = subst AreSound (sym c.in_ok-push.ensures.ok) (sound_pushed was.writes w was.sound is);
      sized = length_pushed was.writes w was.loan.bytes is
          ∙ ap (λ (l : List KeptWrite). length (with_writes l was.loan.bytes))
          (sym c.in_ok-push.ensures.ok);
    }
