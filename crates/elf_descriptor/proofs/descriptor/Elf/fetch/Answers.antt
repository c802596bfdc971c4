use Rattle.std.proofs.Common.{true, subst}
use Rattle.elf_types.specs.Answers.{answered}
use Rattle.section_table.specs.elf_object.Words.{Answers}
use Rattle.section_table.specs.elf_object.Answers.{lend_refusal}
use Rattle.elf_descriptor.specs.State.{State}
use Rattle.elf_descriptor.specs.Views.{state_of}
use Rattle.elf_descriptor.specs.Entries.{entry}
use Rattle.elf_descriptor.specs.Reads.{Looks, wanted}
use Rattle.elf_descriptor.proofs.Warming.{lies_at, warmed_left}
use Rattle.elf_descriptor.proofs.EntryCalls.{entry_answers, entry_looks, entry_hand}
use Rattle.elf_descriptor.proofs.descriptor.Elf.fetch.Goals as goal

pub fetch-requires-clause-lies : goal.fetch-requires-clause-lies
fetch-requires-clause-lies g c = lies_at _ _ c.self.inside.body c.args.d.section c.self.invariant

pub invariant_of-self : goal.invariant_of-self
invariant_of-self g c =
    warmed_left g.S.Source c.self.inside.src c.fetch.new.src c.self.inside.body c.fetch.new.self c.args.d.section c.fetch.ensures.asks.leaves c.fetch.ensures.warmed c.self.invariant

pub returns-clause-answer : goal.returns-clause-answer
returns-clause-answer g c = λ i.
    subst (λ (st : State g.row.S.Denot). Answers true (wanted (entry g.T.Listed.kind g.T.Listed.list_of c.args.d.section c.args.d.piece i) st) c.fetch.result
    (answered (lend_refusal st.o g.T.Listed.kind c.args.d.section c.args.d.piece) (tt {0}))) c.self.view_is
    (entry_answers _ _ c.self.inside.body g.T.Listed.kind g.T.Listed.list_of c.args.d.section c.args.d.piece i c.fetch.result c.self.invariant (rw (← c.kind.ensures) c.fetch.ensures.answer))

pub returns-clause-hand : goal.returns-clause-hand
returns-clause-hand g c = entry_hand _ _ c.fetch.new.self _ c.args.d.section c.args.d.piece c.fetch.result c.fetch.ensures.hand

pub returns-clause-looks : goal.returns-clause-looks
returns-clause-looks g c = λ i.
    subst (λ (st : State g.row.S.Denot). Looks g.S.Source (entry g.T.Listed.kind g.T.Listed.list_of c.args.d.section c.args.d.piece i) c.fetch.result st (state_of g.S.Source c.fetch.new.src c.fetch.new.self))
    c.self.view_is
    (entry_looks g.S.Source g.T.Listed.kind g.T.Listed.list_of c.fetch.result c.self.inside.src c.fetch.new.src c.self.inside.body c.fetch.new.self c.args.d.section c.args.d.piece i c.self.invariant
    c.fetch.ensures.warmed (rw (← c.kind.ensures) c.fetch.ensures.answer) (rw (← c.kind.ensures) c.fetch.ensures.hand) c.fetch.ensures.unchanged c.fetch.ensures.own
    (rw (← c.kind.ensures) c.fetch.ensures.asks))
