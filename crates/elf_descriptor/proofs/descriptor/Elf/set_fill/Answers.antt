use Rattle.std.proofs.Common.{◌≡◌, false, Ok, refl, subst}
use Rattle.section_table.specs.elf_object.Calls as calls
use Rattle.elf_descriptor.specs.State.{State}
use Rattle.elf_descriptor.specs.Views.{state_of}
use Rattle.elf_descriptor.specs.Edits.{stepped}
use Rattle.elf_descriptor.proofs.EditLaws.{stated_elf, state_stepped}
use Rattle.elf_descriptor.proofs.descriptor.Elf.set_fill.Goals as goal

pub invariant_of-self : goal.invariant_of-self
invariant_of-self g c =
    stated_elf (calls.set_fill c.args.byte) (g.S.Source.holds c.self.inside.src) (g.S.Source.size c.self.inside.src) (Ok (tt {0})) false c.self.inside.body c.set_fill.new.self
    (c.every_step_is_sound.ensures.object.set_fill c.args.byte c.byte_is_ranged.ensures) (c.every_step_is_sound.ensures.tied.set_fill c.args.byte) (c.every_step_is_sound.ensures.based.set_fill c.args.byte)
    refl c.set_fill.ensures (tt {0}) c.self.invariant

pub returns : goal.returns
returns g c =
    subst (λ (st : State g.row.S.Denot). state_of g.S.Source c.self.inside.src c.set_fill.new.self ≡ stepped (calls.set_fill c.args.byte) st) c.self.view_is
    (state_stepped g.S.Source c.self.inside.src (calls.set_fill c.args.byte).after false c.self.inside.body c.set_fill.new.self c.set_fill.ensures)
