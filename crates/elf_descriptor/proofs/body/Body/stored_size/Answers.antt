use Rattle.std.proofs.Common.{ap, ◌∙◌}
use Rattle.elf_types.specs.declared.records.Shdr.{Shdr}
use Rattle.section_table.specs.section_data.Views.{CellView}
use Rattle.elf_descriptor.specs.Views.{scn_at}
use Rattle.elf_descriptor.specs.Places.{size_to_store, stored_size}
use Rattle.elf_descriptor.proofs.body.Body.stored_size.Goals as goal

pub returns : goal.returns
unfolding stored_size
returns c =
    c.size_to_store.ensures
    ∙ ap (λ (h : Shdr). size_to_store c.args.class h c.cell.result.now) c.header_at.ensures
    ∙ ap (λ (x : CellView). size_to_store c.args.class (scn_at c.args.self.now c.args.s).header x)
    (c.cell.ensures ∙ c.cell_at-at.ensures)
