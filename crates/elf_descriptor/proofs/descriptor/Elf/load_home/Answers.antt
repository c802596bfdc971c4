use Rattle.std.proofs.Common.{true, [], sym, subst}
use Rattle.std.specs.Prelude.{IsTrue}
use Rattle.elf_types.specs.Answers.{answered}
use Rattle.section_table.specs.elf_object.Words.{Answers}
use Rattle.section_table.specs.elf_object.Answers.{raw_refusal}
use Rattle.section_table.specs.elf_object.Calls as calls
use Rattle.elf_descriptor.specs.State.{State}
use Rattle.elf_descriptor.specs.Views.{state_of}
use Rattle.elf_descriptor.specs.Reads.{Queries}
use Rattle.elf_descriptor.specs.Rooms.{has_room_for, reads_home}
use Rattle.elf_descriptor.proofs.Warming.{lies_at}
use Rattle.elf_descriptor.proofs.Keeping.{room_there, load_home_elf, load_home_answers, load_home_loaded, load_home_queries}
use Rattle.elf_descriptor.proofs.descriptor.Elf.load_home.Goals as goal

pub load_home-requires-clause-there : goal.load_home-requires-clause-there
load_home-requires-clause-there g c =
    (room_there c.self.inside.body c.args.s.0 (subst (λ (st : State g.row.S.Denot). IsTrue (has_room_for st c.args.s.0)) (sym c.self.view_is) c.requires.room)).0

pub load_home-requires-clause-lies : goal.load_home-requires-clause-lies
load_home-requires-clause-lies g c = lies_at _ _ c.self.inside.body c.args.s.0 c.self.invariant

pub load_home-requires-clause-room : goal.load_home-requires-clause-room
load_home-requires-clause-room g c =
    (room_there c.self.inside.body c.args.s.0 (subst (λ (st : State g.row.S.Denot). IsTrue (has_room_for st c.args.s.0)) (sym c.self.view_is) c.requires.room)).1

pub invariant_of-self : goal.invariant_of-self
invariant_of-self g c =
    let there = (room_there c.self.inside.body c.args.s.0 (subst (λ (st : State g.row.S.Denot). IsTrue (has_room_for st c.args.s.0)) (sym c.self.view_is) c.requires.room)).0 in
    load_home_elf g.S.Source c.self.inside.src c.load_home.new.src c.self.inside.body c.load_home.new.self c.args.s.0 c.self.invariant there c.load_home.result c.load_home.ensures.asks.leaves c.load_home.ensures.fills
    c.load_home.ensures.same

pub returns-clause-answer : goal.returns-clause-answer
returns-clause-answer g c =
    let there = (room_there c.self.inside.body c.args.s.0 (subst (λ (st : State g.row.S.Denot). IsTrue (has_room_for st c.args.s.0)) (sym c.self.view_is) c.requires.room)).0 in
    subst (λ (st : State g.row.S.Denot). Answers true (reads_home c.args.s.0 st) c.load_home.result (answered (raw_refusal st.o c.args.s.0) (tt {0}))) c.self.view_is
    (load_home_answers g.S.Source c.self.inside.src c.load_home.new.src c.self.inside.body c.load_home.new.self c.args.s.0 c.self.invariant there c.load_home.result c.load_home.ensures.answer c.load_home.ensures.err)

pub returns-clause-loaded : goal.returns-clause-loaded
returns-clause-loaded g c =
    let there = (room_there c.self.inside.body c.args.s.0 (subst (λ (st : State g.row.S.Denot). IsTrue (has_room_for st c.args.s.0)) (sym c.self.view_is) c.requires.room)).0 in
    load_home_loaded g.S.Source c.self.inside.src c.load_home.new.src c.self.inside.body c.load_home.new.self c.args.s.0 c.self.invariant there c.load_home.result c.load_home.ensures.fills

pub returns-clause-queries : goal.returns-clause-queries
returns-clause-queries g c =
    let there = (room_there c.self.inside.body c.args.s.0 (subst (λ (st : State g.row.S.Denot). IsTrue (has_room_for st c.args.s.0)) (sym c.self.view_is) c.requires.room)).0 in
    subst (λ (st : State g.row.S.Denot). Queries g.S.Source (calls.raw c.args.s.0) [] c.load_home.result st (state_of g.S.Source c.load_home.new.src c.load_home.new.self)) c.self.view_is
    (load_home_queries g.S.Source c.self.inside.src c.load_home.new.src c.self.inside.body c.load_home.new.self c.args.s.0 c.self.invariant there c.load_home.result c.load_home.ensures.answer c.load_home.ensures.fills
    c.load_home.ensures.same c.load_home.ensures.asks)
