use Rattle.std.proofs.Common.{refl, subst, List, ℕ, length, ◌<◌, ◌^◌}
use Rattle.section_table.specs.elf_outside.contracts.no_source.NoSourceSource.TheImpl.{ghosts}
use Rattle.elf_types.specs.Lists.{AreBytes}
use Rattle.elf_descriptor.proofs.CreateLaws.{created_elf, created_state}
use Rattle.elf_descriptor.proofs.descriptor.create.Elf+NoSource.create_over.Goals as goal

pub invariant_of-result : goal.invariant_of-result
invariant_of-result c =
    created_elf c.creating_is_sound.ensures.object c.creating_is_sound.ensures.tied c.creating_is_sound.ensures.based c.args.class c.args.order c.args.base c.created.result
    (subst AreBytes c.as_slice.ensures c.bytes_are_ranged.ensures.bytes) (subst (λ (l : List ℕ). length l < 2 ^ 64) c.as_slice.ensures c.bytes_are_ranged.ensures.length) c.created.ensures

pub returns : goal.returns
returns c = created_state ghosts _ c.args.class c.args.order c.args.base c.created.result refl c.created.ensures
