use Rattle.std.proofs.Common.{true, [], sym, ◌∙◌, subst}
use Rattle.std.specs.Prelude.{OnOk, OnErr}
use Rattle.elf_types.specs.Answers.{answered}
use Rattle.section_table.specs.elf_object.Words.{Answers}
use Rattle.section_table.specs.elf_object.Answers.{lend_refusal, items_at}
use Rattle.section_table.specs.elf_object.Steps.{BecomesOwn}
use Rattle.section_table.specs.elf_object.Calls.{due}
use Rattle.section_table.specs.elf_object.Calls as calls
use Rattle.elf_descriptor.specs.State.{State}
use Rattle.elf_descriptor.specs.Views.{state_of}
use Rattle.elf_descriptor.specs.Reads.{Queries, wanted}
use Rattle.elf_descriptor.specs.Lends.{ReadsToOwn}
use Rattle.elf_descriptor.proofs.Warming.{lies_at, items_held_at}
use Rattle.elf_descriptor.proofs.LendCalls.{own_elf, own_object, own_there, own_asks, kind_answers, kind_refused_queries, kind_reads}
use Rattle.elf_descriptor.proofs.descriptor.Elf.own.Goals as goal

pub own-requires-clause-lies : goal.own-requires-clause-lies
own-requires-clause-lies g c = lies_at _ _ c.self.inside.body c.args.d.section c.self.invariant

pub own-requires-clause-items : goal.own-requires-clause-items
own-requires-clause-items g c = items_held_at _ _ c.self.inside.body c.args.d.section c.self.invariant

pub invariant_of-self : goal.invariant_of-self
invariant_of-self g c =
    own_elf g.S.Source c.self.inside.src c.own.new.src c.self.inside.body c.own.new.self c.kind.result c.args.d.section c.args.d.piece c.own.result
    (c.every_step_is_sound.ensures.object.lend c.args.d.section c.args.d.piece) (c.every_step_is_sound.ensures.tied.lend c.args.d.section c.args.d.piece)
    (c.every_step_is_sound.ensures.based.lend c.args.d.section c.args.d.piece)
    c.own.ensures.answer c.own.ensures.owned c.own.ensures.warmed c.own.ensures.asks.leaves c.self.invariant

pub returns-clause-answer : goal.returns-clause-answer
returns-clause-answer g c =
    subst (λ (st : State g.row.S.Denot). Answers true (wanted (calls.lend c.args.d.section c.args.d.piece (g.T.Listed.variant [])) st) c.own.result
    (answered (lend_refusal st.o g.T.Listed.kind c.args.d.section c.args.d.piece) (tt {0}))) c.self.view_is
    (kind_answers g.T.Listed.kind (g.T.Listed.variant []) (g.met.T.Listed.of_kind []) _ _ c.self.inside.body c.args.d.section c.args.d.piece c.own.result c.self.invariant (rw (← c.kind.ensures) c.own.ensures.answer))

pub returns-clause-object : goal.returns-clause-object
returns-clause-object g c =
    subst (λ (st : State g.row.S.Denot). OnOk c.own.result (BecomesOwn st.told st.o (state_of g.S.Source c.own.new.src c.own.new.self).o c.args.d.section c.args.d.piece (items_at st.o c.args.d.section c.args.d.piece))) c.self.view_is
    (own_object g.S.Source c.self.inside.src c.own.new.src c.self.inside.body c.own.new.self c.kind.result c.args.d.section c.args.d.piece c.own.result c.own.ensures.answer c.own.ensures.owned
    c.own.ensures.asks.leaves c.self.invariant)

pub returns-clause-own : goal.returns-clause-own
returns-clause-own g c =
    rw (← c.kind.ensures) (own_there g.S.Source c.self.inside.src c.own.new.src c.self.inside.body c.own.new.self c.kind.result c.args.d.section c.args.d.piece c.own.result c.own.ensures.answer c.own.ensures.owned
    c.own.ensures.asks.leaves c.self.invariant)

pub returns-clause-reads : goal.returns-clause-reads
returns-clause-reads g c =
    subst (λ (st : State g.row.S.Denot). OnOk c.own.result (ReadsToOwn g.S.Source c.own.result st (state_of g.S.Source c.own.new.src c.own.new.self)
    ((calls.lend c.args.d.section c.args.d.piece (g.T.Listed.variant [])).reads st.o) (due (calls.lend c.args.d.section c.args.d.piece (g.T.Listed.variant [])) st.o st.loaded))) c.self.view_is
    (kind_reads c.kind.result (g.T.Listed.variant []) (g.met.T.Listed.of_kind [] ∙ sym c.kind.ensures) g.S.Source c.own.result (state_of g.S.Source c.self.inside.src c.self.inside.body) (state_of g.S.Source c.own.new.src c.own.new.self)
    c.args.d.section c.args.d.piece
    (own_asks g.S.Source c.self.inside.src c.own.new.src c.self.inside.body c.own.new.self c.kind.result c.args.d.section c.args.d.piece c.own.result c.own.ensures.answer c.own.ensures.owned
    c.own.ensures.asks c.self.invariant))

pub returns-clause-refused : goal.returns-clause-refused
returns-clause-refused g c =
    subst (λ (st : State g.row.S.Denot). OnErr c.own.result (Queries g.S.Source (calls.lend c.args.d.section c.args.d.piece (g.T.Listed.variant [])) [] c.own.result st (state_of g.S.Source c.own.new.src c.own.new.self))) c.self.view_is
    (kind_refused_queries c.kind.result (g.T.Listed.variant []) (g.met.T.Listed.of_kind [] ∙ sym c.kind.ensures) g.S.Source c.own.result c.self.inside.src c.own.new.src c.self.inside.body c.own.new.self
    c.args.d.section c.args.d.piece c.self.invariant c.own.ensures.answer c.own.ensures.warmed c.own.ensures.held c.own.ensures.unchanged c.own.ensures.asks)
