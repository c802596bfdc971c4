use Rattle.std.proofs.Common.{refl}
use Rattle.section_data.proofs.Owning.{list_over}
use Rattle.section_data.proofs.cell.Cell.lend_list.Goals as goal

pub returns-in-Ok : goal.returns-in-Ok
returns-in-Ok g c = (
  (refl, (λ left is. record { own = c.own.new.self; owns = c.in-Ok.ensures.owns; cell = refl }), tt),
  record {
    lends = tt;
    answer = rw c.kind.ensures at c.in-Ok.ensures.answer;
    value = list_over g.T.Listed.list_of _ c.args.class c.args.order c.args.self.now c.own.new.self c.args.piece _ c.list_mut.result.now
        c.in-Ok.ensures.owns c.in-Ok.ensures.there c.in-Ok.ensures.own c.list_mut.ensures.value;
    asks = let a = rw c.kind.ensures at c.in-Ok.ensures.asks in record { leaves = a.leaves; later = a.later; read = a.read; taken = a.taken };
  },
)
