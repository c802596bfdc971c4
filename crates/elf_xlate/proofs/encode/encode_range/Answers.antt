-- Each kind's items are put as a list.
use Rattle.std.proofs.Common.{refl}
use Rattle.elf_types.specs.declared.records.Kind.TheVariants as kinds
use Rattle.elf_xlate.specs.declared.content.Items.TheVariants.{Half, Word, Addr, Sym, Rel, Rela, Dyn}
use Rattle.elf_xlate.specs.Items.{item_size}
use Rattle.elf_xlate.specs.Translation.{encoded, first_unfit}
use Rattle.elf_xlate.proofs.Pieces.{slice_passes, range_room, range_put}
use Rattle.elf_xlate.proofs.encode.encode_range.Goals as goal

pub put_list-requires-clause-room : goal.put_list-requires-clause-room
put_list-requires-clause-room g c =
    range_room 2 c.args.from c.args.to _ c.in-Half.l _ c.as_slice-in-Half.ensures
    c.requires.order (rw c.in-Half.is at c.requires.inside)
    (rw c.in-Half.is at c.requires.room)

pub put_list-requires-clause-fits : goal.put_list-requires-clause-fits
put_list-requires-clause-fits g c = λ k d low. refl

pub returns-in-Half : goal.returns-in-Half
unfolding encoded
returns-in-Half g c =
    range_put Half _ _ _ _ _ _ c.in-Half.l _ _ (λ m. refl) (λ m. refl) c.in-Half.is
    c.as_slice-in-Half.ensures c.put_list.ensures

pub put_list-requires-in-Word-clause-room : goal.put_list-requires-in-Word-clause-room
put_list-requires-in-Word-clause-room g c =
    range_room 4 c.args.from c.args.to _ c.in-Word.l _ c.as_slice-in-Word.ensures
    c.requires.order (rw c.in-Word.is at c.requires.inside)
    (rw c.in-Word.is at c.requires.room)

pub put_list-requires-in-Word-clause-fits : goal.put_list-requires-in-Word-clause-fits
put_list-requires-in-Word-clause-fits g c = λ k d low. refl

pub returns-in-Word : goal.returns-in-Word
unfolding encoded
returns-in-Word g c =
    range_put Word _ _ _ _ _ _ c.in-Word.l _ _ (λ m. refl) (λ m. refl) c.in-Word.is
    c.as_slice-in-Word.ensures c.put_list-in-Word.ensures

pub put_list-requires-in-Addr-clause-room : goal.put_list-requires-in-Addr-clause-room
put_list-requires-in-Addr-clause-room g c =
    range_room (item_size kinds.Addr _) c.args.from c.args.to _ c.in-Addr.l _ c.as_slice-in-Addr.ensures
    c.requires.order (rw c.in-Addr.is at c.requires.inside)
    (rw c.in-Addr.is at c.requires.room)

pub put_list-requires-in-Addr-clause-fits : goal.put_list-requires-in-Addr-clause-fits
unfolding first_unfit
put_list-requires-in-Addr-clause-fits g c =
    slice_passes _ c.in-Addr.l _ _ _ c.as_slice-in-Addr.ensures (rw c.in-Addr.is at c.requires.fits)

pub returns-in-Addr : goal.returns-in-Addr
unfolding encoded
returns-in-Addr g c =
    range_put Addr _ _ _ _ _ _ c.in-Addr.l _ _ (λ m. refl) (λ m. refl) c.in-Addr.is
    c.as_slice-in-Addr.ensures c.put_list-in-Addr.ensures

pub put_list-requires-in-Sym-clause-room : goal.put_list-requires-in-Sym-clause-room
put_list-requires-in-Sym-clause-room g c =
    range_room (item_size kinds.Sym _) c.args.from c.args.to _ c.in-Sym.l _ c.as_slice-in-Sym.ensures
    c.requires.order (rw c.in-Sym.is at c.requires.inside)
    (rw c.in-Sym.is at c.requires.room)

pub put_list-requires-in-Sym-clause-fits : goal.put_list-requires-in-Sym-clause-fits
unfolding first_unfit
put_list-requires-in-Sym-clause-fits g c =
    slice_passes _ c.in-Sym.l _ _ _ c.as_slice-in-Sym.ensures (rw c.in-Sym.is at c.requires.fits)

pub returns-in-Sym : goal.returns-in-Sym
unfolding encoded
returns-in-Sym g c =
    range_put Sym _ _ _ _ _ _ c.in-Sym.l _ _ (λ m. refl) (λ m. refl) c.in-Sym.is
    c.as_slice-in-Sym.ensures c.put_list-in-Sym.ensures

pub put_list-requires-in-Rel-clause-room : goal.put_list-requires-in-Rel-clause-room
put_list-requires-in-Rel-clause-room g c =
    range_room (item_size kinds.Rel _) c.args.from c.args.to _ c.in-Rel.l _ c.as_slice-in-Rel.ensures
    c.requires.order (rw c.in-Rel.is at c.requires.inside)
    (rw c.in-Rel.is at c.requires.room)

pub put_list-requires-in-Rel-clause-fits : goal.put_list-requires-in-Rel-clause-fits
unfolding first_unfit
put_list-requires-in-Rel-clause-fits g c =
    slice_passes _ c.in-Rel.l _ _ _ c.as_slice-in-Rel.ensures (rw c.in-Rel.is at c.requires.fits)

pub returns-in-Rel : goal.returns-in-Rel
unfolding encoded
returns-in-Rel g c =
    range_put Rel _ _ _ _ _ _ c.in-Rel.l _ _ (λ m. refl) (λ m. refl) c.in-Rel.is
    c.as_slice-in-Rel.ensures c.put_list-in-Rel.ensures

pub put_list-requires-in-Rela-clause-room : goal.put_list-requires-in-Rela-clause-room
put_list-requires-in-Rela-clause-room g c =
    range_room (item_size kinds.Rela _) c.args.from c.args.to _ c.in-Rela.l _ c.as_slice-in-Rela.ensures
    c.requires.order (rw c.in-Rela.is at c.requires.inside)
    (rw c.in-Rela.is at c.requires.room)

pub put_list-requires-in-Rela-clause-fits : goal.put_list-requires-in-Rela-clause-fits
unfolding first_unfit
put_list-requires-in-Rela-clause-fits g c =
    slice_passes _ c.in-Rela.l _ _ _ c.as_slice-in-Rela.ensures (rw c.in-Rela.is at c.requires.fits)

pub returns-in-Rela : goal.returns-in-Rela
unfolding encoded
returns-in-Rela g c =
    range_put Rela _ _ _ _ _ _ c.in-Rela.l _ _ (λ m. refl) (λ m. refl) c.in-Rela.is
    c.as_slice-in-Rela.ensures c.put_list-in-Rela.ensures

pub put_list-requires-in-Dyn-clause-room : goal.put_list-requires-in-Dyn-clause-room
put_list-requires-in-Dyn-clause-room g c =
    range_room (item_size kinds.Dyn _) c.args.from c.args.to _ c.in-Dyn.l _ c.as_slice-in-Dyn.ensures
    c.requires.order (rw c.in-Dyn.is at c.requires.inside)
    (rw c.in-Dyn.is at c.requires.room)

pub put_list-requires-in-Dyn-clause-fits : goal.put_list-requires-in-Dyn-clause-fits
unfolding first_unfit
put_list-requires-in-Dyn-clause-fits g c =
    slice_passes _ c.in-Dyn.l _ _ _ c.as_slice-in-Dyn.ensures (rw c.in-Dyn.is at c.requires.fits)

pub returns-in-Dyn : goal.returns-in-Dyn
unfolding encoded
returns-in-Dyn g c =
    range_put Dyn _ _ _ _ _ _ c.in-Dyn.l _ _ (λ m. refl) (λ m. refl) c.in-Dyn.is
    c.as_slice-in-Dyn.ensures c.put_list-in-Dyn.ensures
