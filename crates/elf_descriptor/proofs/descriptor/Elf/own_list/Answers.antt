use Rattle.std.proofs.Common.{◌≡◌, Option, refl, sym, ap, ◌∙◌, subst}
use Rattle.std.specs.Prelude.{IfSome, length}
use Rattle.section_table.specs.elf_xlate.declared.content.Items.{Items}
use Rattle.section_table.specs.elf_xlate.Translation.{items_count}
use Rattle.section_table.specs.elf_object.Object.{Piece, piece_at}
use Rattle.section_table.specs.elf_object.Steps.{with_own}
use Rattle.elf_descriptor.specs.State.{State}
use Rattle.elf_descriptor.specs.Owned.{IsOwnPiece}
use Rattle.elf_descriptor.proofs.Objects.{piece_is}
use Rattle.elf_descriptor.proofs.LendCalls.{own_section, own_piece_count, piece_own, left_elf, left_state}
use Rattle.elf_descriptor.proofs.descriptor.Elf.own_list.Goals as goal

pub list_mut-requires-clause-section : goal.list_mut-requires-clause-section
list_mut-requires-clause-section g c =
    let x = subst (λ (st : State g.row.S.Denot). IsOwnPiece st.o g.T.Listed.kind c.args.d.section c.args.d.piece) (sym c.self.view_is) c.requires in
    own_section _ _ c.self.inside.body g.T.Listed.kind c.args.d.section c.args.d.piece x

pub list_mut-requires-clause-piece : goal.list_mut-requires-clause-piece
list_mut-requires-clause-piece g c =
    let x = subst (λ (st : State g.row.S.Denot). IsOwnPiece st.o g.T.Listed.kind c.args.d.section c.args.d.piece) (sym c.self.view_is) c.requires in
    own_piece_count _ _ c.self.inside.body g.T.Listed.kind c.args.d.section c.args.d.piece x

pub list_mut-requires-clause-own : goal.list_mut-requires-clause-own
list_mut-requires-clause-own g c =
    let x = subst (λ (st : State g.row.S.Denot). IsOwnPiece st.o g.T.Listed.kind c.args.d.section c.args.d.piece) (sym c.self.view_is) c.requires in
    piece_own _ _ c.self.inside.body g.T.Listed.kind c.args.d.section c.args.d.piece x

pub invariant_of-self-lent : goal.invariant_of-self-lent
invariant_of-self-lent g c = λ w.
    let x = subst (λ (st : State g.row.S.Denot). IsOwnPiece st.o g.T.Listed.kind c.args.d.section c.args.d.piece) (sym c.self.view_is) c.requires in
    left_elf _ _ c.self.inside.body g.T.Listed.kind c.args.d.section c.args.d.piece (g.T.Listed.variant w) c.self.invariant x
    (c.every_step_is_sound.ensures.object.lend c.args.d.section c.args.d.piece) (c.every_step_is_sound.ensures.tied.lend c.args.d.section c.args.d.piece)
    (c.every_step_is_sound.ensures.based.lend c.args.d.section c.args.d.piece) (g.met.T.Listed.of_kind w)

pub returns : goal.returns
returns g c =
    let x = subst (λ (st : State g.row.S.Denot). IsOwnPiece st.o g.T.Listed.kind c.args.d.section c.args.d.piece) (sym c.self.view_is) c.requires in
    let body = c.self.inside.body in
    let s = c.args.d.section in
    let p = c.args.d.piece in
    let own = ap (λ (q : Piece). q.own) (sym (piece_is _ _ body s p)) in (
      (
        refl,
        λ w. left_state g.S.Source c.self.inside.src body g.T.Listed.kind s p (g.T.Listed.variant w) c.self.invariant x
            ∙ ap (λ (st : State g.row.S.Denot). record st { o = with_own st.o s p (g.T.Listed.variant w) }) c.self.view_is,
      ),
      record {
        lends = tt;
        value = subst (λ (st : State g.row.S.Denot). IfSome (piece_at st.o s p).own (λ items. c.list_mut.result.now ≡ g.T.Listed.list_of items)) c.self.view_is
            (subst (λ (o : Option Items). IfSome o (λ items. c.list_mut.result.now ≡ g.T.Listed.list_of items)) own c.list_mut.ensures.value);
        counted = subst (λ (st : State g.row.S.Denot). IfSome (piece_at st.o s p).own (λ items. length c.list_mut.result.now ≡ items_count items)) c.self.view_is
            (subst (λ (o : Option Items). IfSome o (λ items. length c.list_mut.result.now ≡ items_count items)) own c.list_mut.ensures.counted);
      },
    )
