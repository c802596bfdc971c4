use Rattle.std.proofs.Common.{true, [], subst}
use Rattle.elf_types.specs.Answers.{answered}
use Rattle.section_table.specs.elf_object.Words.{Answers}
use Rattle.section_table.specs.elf_object.Answers.{raw_refusal}
use Rattle.section_table.specs.elf_object.Calls as calls
use Rattle.elf_descriptor.specs.State.{State}
use Rattle.elf_descriptor.specs.Views.{state_of}
use Rattle.elf_descriptor.specs.Reads.{Queries, wanted}
use Rattle.elf_descriptor.proofs.Warming.{lies_at, warmed_left}
use Rattle.elf_descriptor.proofs.Loaded.{loaded_is}
use Rattle.elf_descriptor.proofs.RawCalls.{raw_answers, raw_queries}
use Rattle.elf_descriptor.proofs.descriptor.Elf.load.Goals as goal

pub load-requires-clause-lies : goal.load-requires-clause-lies
load-requires-clause-lies g c = lies_at _ _ c.self.inside.body c.args.s c.self.invariant

pub invariant_of-self : goal.invariant_of-self
invariant_of-self g c =
    warmed_left g.S.Source c.self.inside.src c.load.new.src c.self.inside.body c.load.new.self c.args.s c.load.ensures.asks.leaves c.load.ensures.warmed c.self.invariant

pub returns-clause-answer : goal.returns-clause-answer
returns-clause-answer g c =
    subst (λ (st : State g.row.S.Denot). Answers true (wanted (calls.raw c.args.s) st) c.load.result (answered (raw_refusal st.o c.args.s) (tt {0}))) c.self.view_is
    (raw_answers _ _ c.self.inside.body c.args.s c.load.result c.self.invariant c.load.ensures.answer)

pub returns-clause-loaded : goal.returns-clause-loaded
returns-clause-loaded g c = rw (loaded_is c.load.new.self c.args.s) c.load.ensures.loaded

pub returns-clause-queries : goal.returns-clause-queries
returns-clause-queries g c =
    subst (λ (st : State g.row.S.Denot). Queries g.S.Source (calls.raw c.args.s) [] c.load.result st (state_of g.S.Source c.load.new.src c.load.new.self)) c.self.view_is
    (raw_queries g.S.Source c.load.result c.self.inside.src c.load.new.src c.self.inside.body c.load.new.self c.args.s c.self.invariant c.load.ensures.warmed
    c.load.ensures.answer c.load.ensures.loaded c.load.ensures.unchanged c.load.ensures.held c.load.ensures.asks)
