use Rattle.std.proofs.Common.{Result, sym, subst}
use Rattle.elf_types.specs.declared.errors.ElfError.{ElfError}
use Rattle.c_handles.proofs.objects.ImageLaws.{same_image}
use Rattle.c_calls.specs.Updating.Updated.{PutsInto}
use Rattle.c_calls.proofs.updating.UpdateLemmas as lemmas
use Rattle.c_calls.proofs.updating.updates.put_into.Goals as goal

pub returns-clause-puts : goal.returns-clause-puts
returns-clause-puts c =
    subst (λ (r : Result (Unit {0}) ElfError). PutsInto r c.args.object.now.elf
    c.update_to.new.elf c.update_to.new.sink) (sym c.filled.ensures)
    (lemmas.put_into c.update_to.result c.args.object.now.elf _ c.args.room.now _
    c.args.object.now.told c.requires c.update_to.ensures)

pub returns-clause-image : goal.returns-clause-image
returns-clause-image c = same_image _ _ c.update_to.ensures.source.leaves
