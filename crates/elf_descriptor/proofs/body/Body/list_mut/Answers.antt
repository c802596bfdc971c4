use Rattle.std.proofs.Common.{◌≡◌, ◌<◌, length, set, refl, sym, ap, subst}
use Rattle.std.specs.Prelude.{IfSome}
use Rattle.section_table.specs.elf_xlate.Translation.{items_count}
use Rattle.section_table.specs.section_data.Held.{piece_in}
use Rattle.section_table.specs.section_data.Leaves.{OwnsKind}
use Rattle.section_table.specs.section_data.Lends.{with_items}
use Rattle.section_table.specs.Sections.{SectionView as Scn}
use Rattle.elf_descriptor.proofs.Warming.{lent_read}
use Rattle.elf_descriptor.proofs.OwnedBodies.{own_is_some, own_is_kind}
use Rattle.elf_descriptor.proofs.body.Body.list_mut.Goals as goal

pub list_mut-requires-clause-piece : goal.list_mut-requires-clause-piece
list_mut-requires-clause-piece g c =
    let read = lent_read c.args.self.now c.args.d.section _ c.cell_mut-cell.ensures.value in
    subst (λ (x : Scn). c.args.d.piece < length x.cell.pieces) (sym read) c.requires.piece

pub list_mut-requires-clause-own : goal.list_mut-requires-clause-own
list_mut-requires-clause-own g c =
    let read = lent_read c.args.self.now c.args.d.section _ c.cell_mut-cell.ensures.value in
    own_is_some g.T.Listed.kind _ (subst (λ (x : Scn). OwnsKind g.T.Listed.kind (piece_in x.cell c.args.d.piece)) (sym read) c.requires.own)

pub list_mut-requires-clause-kind : goal.list_mut-requires-clause-kind
list_mut-requires-clause-kind g c =
    let read = lent_read c.args.self.now c.args.d.section _ c.cell_mut-cell.ensures.value in
    own_is_kind g.T.Listed.kind _ (subst (λ (x : Scn). OwnsKind g.T.Listed.kind (piece_in x.cell c.args.d.piece)) (sym read) c.requires.own)

pub returns : goal.returns
returns g c =
    let read = lent_read c.args.self.now c.args.d.section _ c.cell_mut-cell.ensures.value in (
      (
        refl,
        λ w. ap (λ (x : Scn). record c.args.self.now {
          sections =
              set c.args.self.now.sections c.args.d.section
              (record x { cell = with_items x.cell c.args.d.piece (g.T.Listed.variant w) });
        }) read,
      ),
      record {
        lends = tt;
        value = subst (λ (x : Scn). IfSome (piece_in x.cell c.args.d.piece).own (λ items. c.list_mut.result.now ≡ g.T.Listed.list_of items)) read c.list_mut.ensures.value;
        counted = subst (λ (x : Scn). IfSome (piece_in x.cell c.args.d.piece).own (λ items. length c.list_mut.result.now ≡ items_count items)) read c.list_mut.ensures.counted;
      },
    )
