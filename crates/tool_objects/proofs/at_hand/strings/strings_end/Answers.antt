use Rattle.std.proofs.Common.{IfSome, subst}
use Rattle.gelf_view.specs.elf_object.Object.{Object}
use Rattle.tool_objects.proofs.ElfSteps.{still_told}
use Rattle.tool_objects.specs.AtHand.Strings.{EndsAt}
use Rattle.tool_objects.proofs.at_hand.strings.strings_end.Goals as goal

pub returns-in-Ok : goal.returns-in-Ok
returns-in-Ok g c = record {
  end = λ told.
      subst (λ (m : Object). IfSome c.end_at_hand.result (EndsAt m c.args.s.0))
      c.in-Ok.ensures.elf.object
      (c.end_at_hand.ensures (still_told g.S.Source c.args.elf.now _ c.in-Ok.ensures.elf told));
  reads = record { elf = c.in-Ok.ensures.elf; read = tt; write = tt };
}
