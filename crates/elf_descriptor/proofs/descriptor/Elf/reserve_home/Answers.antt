use Rattle.std.proofs.Common.{subst}
use Rattle.elf_types.specs.Answers.{answered}
use Rattle.section_table.specs.elf_object.Words.{Edits}
use Rattle.section_table.specs.elf_object.Answers.{raw_refusal}
use Rattle.elf_descriptor.specs.State.{State}
use Rattle.elf_descriptor.specs.Views.{state_of}
use Rattle.elf_descriptor.specs.Rooms.{with_room_for}
use Rattle.elf_descriptor.proofs.Keeping.{reserve_elf, reserve_edits, reserve_room}
use Rattle.elf_descriptor.proofs.descriptor.Elf.reserve_home.Goals as goal

pub invariant_of-self : goal.invariant_of-self
invariant_of-self g c =
    reserve_elf g.S.Source c.self.inside.src c.self.inside.body c.reserve_home.new.self c.args.s.0 c.self.invariant c.reserve_home.result c.reserve_home.ensures.ok c.reserve_home.ensures.there c.reserve_home.ensures.same

pub returns-clause-edits : goal.returns-clause-edits
returns-clause-edits g c =
    subst (λ (st : State g.row.S.Denot). Edits c.reserve_home.result st (state_of g.S.Source c.self.inside.src c.reserve_home.new.self) (answered (raw_refusal st.o c.args.s.0) (tt {0})) (with_room_for c.args.s.0 st)) c.self.view_is
    (reserve_edits g.S.Source c.self.inside.src c.self.inside.body c.reserve_home.new.self c.args.s.0 c.self.invariant c.reserve_home.result c.reserve_home.ensures.answer c.reserve_home.ensures.ok c.reserve_home.ensures.there
    c.reserve_home.ensures.same)

pub returns-clause-room : goal.returns-clause-room
returns-clause-room g c =
    reserve_room g.S.Source c.self.inside.src c.self.inside.body c.reserve_home.new.self c.args.s.0 c.self.invariant c.reserve_home.result
    c.reserve_home.ensures.ok c.reserve_home.ensures.there
