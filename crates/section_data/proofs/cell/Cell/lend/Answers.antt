use Rattle.std.proofs.Common.{refl}
use Rattle.section_data.proofs.Owning.{own_kind, owns_over}
use Rattle.section_data.proofs.cell.Cell.lend.Goals as goal

pub returns-in-Ok : goal.returns-in-Ok
returns-in-Ok g c = (
  (refl, (λ left is. record { own = c.own.new.self; owns = c.in-Ok.ensures.owns; cell = refl }), tt),
  record {
    lends = tt;
    answer = c.in-Ok.ensures.answer;
    kind = own_kind c.args.kind _ c.items_mut.result.now c.in-Ok.ensures.own c.items_mut.ensures.value;
    value = owns_over _ c.args.class c.args.order c.args.self.now c.own.new.self c.args.piece c.items_mut.result.now c.in-Ok.ensures.owns
        c.in-Ok.ensures.there c.items_mut.ensures.value;
    asks = let a = c.in-Ok.ensures.asks in record { leaves = a.leaves; later = a.later; read = a.read; taken = a.taken };
  },
)
