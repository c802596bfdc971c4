use Rattle.std.proofs.Common.{true, subst}
use Rattle.elf_types.specs.Answers.{answered}
use Rattle.section_table.specs.elf_object.Words.{Answers}
use Rattle.section_table.specs.elf_object.Answers.{data_refusal}
use Rattle.section_table.specs.elf_object.Calls as calls
use Rattle.elf_descriptor.specs.State.{State}
use Rattle.elf_descriptor.specs.Views.{state_of}
use Rattle.elf_descriptor.specs.Reads.{Looks, wanted}
use Rattle.elf_descriptor.proofs.Warming.{lies_at, items_held_at, warmed_left}
use Rattle.elf_descriptor.proofs.PieceCalls.{holds_is}
use Rattle.elf_descriptor.proofs.DataCalls.{data_answers, data_loaded, data_looks}
use Rattle.elf_descriptor.proofs.descriptor.Elf.prepare.Goals as goal

pub prepare-requires-clause-lies : goal.prepare-requires-clause-lies
prepare-requires-clause-lies g c = lies_at _ _ c.self.inside.body c.args.d.section c.self.invariant

pub prepare-requires-clause-items : goal.prepare-requires-clause-items
prepare-requires-clause-items g c = items_held_at _ _ c.self.inside.body c.args.d.section c.self.invariant

pub invariant_of-self : goal.invariant_of-self
invariant_of-self g c =
    warmed_left g.S.Source c.self.inside.src c.prepare.new.src c.self.inside.body c.prepare.new.self c.args.d.section c.prepare.ensures.asks.leaves c.prepare.ensures.warmed c.self.invariant

pub returns-clause-answer : goal.returns-clause-answer
returns-clause-answer g c =
    subst (λ (st : State g.row.S.Denot). Answers true (wanted (calls.section_data c.args.d.section c.args.d.piece) st) c.prepare.result (answered (data_refusal st.o c.args.d.section c.args.d.piece) (tt {0})))
    c.self.view_is (data_answers _ _ c.self.inside.body c.args.d.section c.args.d.piece c.prepare.result c.self.invariant c.prepare.ensures.answer)

pub returns-clause-holds : goal.returns-clause-holds
returns-clause-holds g c = rw (holds_is _ _ c.prepare.new.self c.args.d.section c.args.d.piece) c.prepare.ensures.holds

pub returns-clause-loaded : goal.returns-clause-loaded
returns-clause-loaded g c =
    data_loaded _ _ c.prepare.new.self c.args.d.section c.args.d.piece c.prepare.result
    (warmed_left g.S.Source c.self.inside.src c.prepare.new.src c.self.inside.body
    c.prepare.new.self c.args.d.section c.prepare.ensures.asks.leaves c.prepare.ensures.warmed
    c.self.invariant)
    c.prepare.ensures.holds

pub returns-clause-looks : goal.returns-clause-looks
returns-clause-looks g c =
    let after = warmed_left g.S.Source c.self.inside.src c.prepare.new.src c.self.inside.body c.prepare.new.self c.args.d.section c.prepare.ensures.asks.leaves c.prepare.ensures.warmed c.self.invariant in
    subst (λ (st : State g.row.S.Denot). Looks g.S.Source (calls.section_data c.args.d.section c.args.d.piece) c.prepare.result st (state_of g.S.Source c.prepare.new.src c.prepare.new.self)) c.self.view_is
    (data_looks g.S.Source c.prepare.result c.self.inside.src c.prepare.new.src c.self.inside.body c.prepare.new.self c.args.d.section c.args.d.piece c.self.invariant after c.prepare.ensures.warmed
    c.prepare.ensures.answer c.prepare.ensures.holds c.prepare.ensures.unchanged c.prepare.ensures.own c.prepare.ensures.asks)
