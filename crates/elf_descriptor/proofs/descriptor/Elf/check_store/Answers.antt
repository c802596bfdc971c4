use Rattle.std.proofs.Common.{◌≡◌, sym, ap, ◌∙◌, subst}
use Rattle.elf_types.specs.Answers.{answered}
use Rattle.section_table.specs.elf_object.Calls.{update_item_refusal}
use Rattle.elf_descriptor.specs.State.{State}
use Rattle.elf_descriptor.specs.Views.{object_of}
use Rattle.elf_descriptor.proofs.StoreCalls.{store_refusal_is}
use Rattle.elf_descriptor.proofs.descriptor.Elf.check_store.Goals as goal

pub returns-clause-answer : goal.returns-clause-answer
unfolding object_of
returns-clause-answer g c =
    subst (λ (st : State g.row.S.Denot). c.check_store.result ≡ answered (update_item_refusal st.o g.T.Listed.kind c.args.d.section c.args.d.piece c.args.i (g.T.Storable.fitting st.o.header.class c.args.item.now)) (tt {0})) c.self.view_is
    (c.check_store.ensures.answer ∙ ap (λ r. answered r (tt {0})) (sym (store_refusal_is _ _ c.self.inside.body g.T.Listed.kind c.args.d.section c.args.d.piece c.args.i (g.T.Storable.fitting c.self.inside.body.header.class c.args.item.now) c.self.invariant)))
