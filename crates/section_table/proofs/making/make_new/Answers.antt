use Rattle.std.proofs.Common.{◌∷◌, ◌++◌, [], inr, refl, ap, ◌∙◌, arith}
use Rattle.elf_types.specs.declared.records.Shdr.{Shdr}
use Rattle.section_data.specs.elf_object.Open.{home_of}
use Rattle.section_data.specs.Views.{CellView, opened_cell}
use Rattle.section_table.proofs.making.make_new.Goals as goal

pub overflow_cast-place : goal.overflow_cast-place
overflow_cast-place c = omega (arith, c.requires.few, c.len-place.ensures, c.args.cells.now.ok.0)

pub index_mut-requires : goal.index_mut-requires
index_mut-requires c = omega (arith, c.requires.there, c.args.slots.now.ok.0)

pub put_last-requires : goal.put_last-requires
put_last-requires c = omega (arith, c.requires.room, c.args.cells.now.ok.0)

pub returns-clause-makes : goal.returns-clause-makes
returns-clause-makes c = inr (record {
  none = c.requires.none;
  at = omega (arith, c.len-place.ensures, c.args.cells.now.ok.0);
  slot = refl;
  cell = c.put_last.ensures.items
      ∙ ap (λ (x : CellView). c.args.cells.now.items ++ x ∷ []) (c.unread-cell.ensures.value
      ∙ ap (λ (h : Shdr). opened_cell c.args.s (home_of c.args.form.size h))
      c.at-header.ensures);
})
