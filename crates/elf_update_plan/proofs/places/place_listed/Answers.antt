use Rattle.std.proofs.Common.{◌∙◌, sym, subst, Result}
use Rattle.elf_types.specs.declared.errors.ElfError.{ElfError}
use Rattle.elf_descriptor.specs.elf_layout.declared.parts.Places.{Places}
use Rattle.elf_descriptor.specs.elf_layout.Layout.{placing}
use Rattle.elf_update_plan.specs.Placing.{IsUnplaced}
use Rattle.elf_update_plan.proofs.RowLaws.{ok_is}
use Rattle.elf_update_plan.proofs.PlacingLaws.{placing_same, unplaced}
use Rattle.elf_update_plan.proofs.places.place_listed.Goals as goal

pub returns-in-Ok-clause-ok : goal.returns-in-Ok-clause-ok
returns-in-Ok-clause-ok g c =
    let same = placing_same c.args.elf.now.o c.args.parts c.has_layout.result c.base_len.result
    c.ehdr-class.result c.has_layout.ensures c.base_len.ensures
    (ok_is _ _ c.ehdr-class.ensures) in
    sym same ∙ c.in-Ok.ensures.answer

pub returns-in-Err-clause-err : goal.returns-in-Err-clause-err
returns-in-Err-clause-err g c =
    let same = placing_same c.args.elf.now.o c.args.parts c.has_layout.result c.base_len.result
    c.ehdr-class.result c.has_layout.ensures c.base_len.ensures
    (ok_is _ _ c.ehdr-class.ensures) in
    subst (λ (r : Result Places ElfError). IsUnplaced r c.in-Err.e) same
    (unplaced (placing c.args.parts c.has_layout.result c.base_len.result c.ehdr-class.result.class)
    c.in-Err.e c.in-Err.ensures.answer c.in-Err.ensures.memory)
