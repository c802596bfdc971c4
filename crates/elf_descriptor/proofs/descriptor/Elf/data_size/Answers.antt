use Rattle.std.proofs.Common.{◌≡◌, ◌-◌, ◌^◌, ◌∙◌, subst}
use Rattle.std.specs.Prelude.{min}
use Rattle.elf_types.specs.Answers.{answered}
use Rattle.section_table.specs.elf_object.Answers.{no_section}
use Rattle.section_table.specs.elf_object.Joined.{pieces_end}
use Rattle.elf_descriptor.specs.State.{State}
use Rattle.elf_descriptor.proofs.Sizes.{size_answer}
use Rattle.elf_descriptor.proofs.descriptor.Elf.data_size.Goals as goal

pub returns : goal.returns
returns g c =
    subst (λ (st : State g.row.S.Denot). c.data_size.result ≡ answered (no_section st.o c.args.s.0) (min (pieces_end st.o c.args.s.0) (2 ^ 64 - 1))) c.self.view_is
    (c.data_size.ensures ∙ size_answer _ _ c.self.inside.body c.args.s.0 c.self.invariant)
