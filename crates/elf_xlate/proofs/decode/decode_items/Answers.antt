-- Each kind's items are those of its list.
use Rattle.std.proofs.Common.{refl}
use Rattle.elf_types.specs.declared.records.Kind.TheVariants as kinds
use Rattle.elf_xlate.specs.declared.content.Items.TheVariants.{Half, Word, Addr, Sym, Rel, Rela, Dyn}
use Rattle.elf_xlate.specs.Translation.{first_unfit}
use Rattle.elf_xlate.proofs.Bytes.{read_are_bytes}
use Rattle.elf_xlate.proofs.ListedItems.{half_decoded, word_decoded, addr_decoded, sym_decoded, rel_decoded, rela_decoded, dyn_decoded}
use Rattle.elf_xlate.proofs.Pieces.{all_pass}
use Rattle.elf_xlate.proofs.ReadItems.{nothing_left, items_read, empty_read, bytes_read}
use Rattle.elf_xlate.proofs.decode.decode_items.Goals as goal

pub returns-in-Empty-clause-value : goal.returns-in-Empty-clause-value
returns-in-Empty-clause-value g c = empty_read _ _ _ _ c.in-Empty.is

pub returns-in-Empty-clause-fits : goal.returns-in-Empty-clause-fits
unfolding first_unfit
returns-in-Empty-clause-fits g c = refl

pub returns-in_ok-from_slice-in-Bytes-clause-value : goal.returns-in_ok-from_slice-in-Bytes-clause-value
returns-in_ok-from_slice-in-Bytes-clause-value g c =
    bytes_read _ _ _ _ _ c.in-Bytes.is c.in_ok-from_slice-in-Bytes.ensures.ok

pub returns-in_ok-from_slice-in-Bytes-clause-ranged : goal.returns-in_ok-from_slice-in-Bytes-clause-ranged
returns-in_ok-from_slice-in-Bytes-clause-ranged g c =
    read_are_bytes _ _ c.type_inv.bytes c.in_ok-from_slice-in-Bytes.ensures.ok

pub returns-in_ok-from_slice-in-Bytes-clause-fits : goal.returns-in_ok-from_slice-in-Bytes-clause-fits
unfolding first_unfit
returns-in_ok-from_slice-in-Bytes-clause-fits g c = refl

pub decode_list-requires : goal.decode_list-requires
decode_list-requires g c =
    nothing_left kinds.Half _ _ _ (λ e. cc) c.in-Half.is c.requires

pub returns-in_ok-decode_list-in-Half-clause-value : goal.returns-in_ok-decode_list-in-Half-clause-value
returns-in_ok-decode_list-in-Half-clause-value g c =
    items_read Half _ kinds.Half _ _ _ _ _ (λ e. cc) (half_decoded _ _ _) c.in-Half.is c.requires
    c.in_ok-decode_list-in-Half.ensures.ok

pub returns-in_ok-decode_list-in-Half-clause-ranged : goal.returns-in_ok-decode_list-in-Half-clause-ranged
returns-in_ok-decode_list-in-Half-clause-ranged g c = c.in_ok-decode_list-in-Half.ensures.ranged

pub returns-in_ok-decode_list-in-Half-clause-fits : goal.returns-in_ok-decode_list-in-Half-clause-fits
unfolding first_unfit
returns-in_ok-decode_list-in-Half-clause-fits g c = refl

pub decode_list-requires-in-Word : goal.decode_list-requires-in-Word
decode_list-requires-in-Word g c =
    nothing_left kinds.Word _ _ _ (λ e. cc) c.in-Word.is c.requires

pub returns-in_ok-decode_list-in-Word-clause-value : goal.returns-in_ok-decode_list-in-Word-clause-value
returns-in_ok-decode_list-in-Word-clause-value g c =
    items_read Word _ kinds.Word _ _ _ _ _ (λ e. cc) (word_decoded _ _ _) c.in-Word.is c.requires
    c.in_ok-decode_list-in-Word.ensures.ok

pub returns-in_ok-decode_list-in-Word-clause-ranged : goal.returns-in_ok-decode_list-in-Word-clause-ranged
returns-in_ok-decode_list-in-Word-clause-ranged g c = c.in_ok-decode_list-in-Word.ensures.ranged

pub returns-in_ok-decode_list-in-Word-clause-fits : goal.returns-in_ok-decode_list-in-Word-clause-fits
unfolding first_unfit
returns-in_ok-decode_list-in-Word-clause-fits g c = refl

pub decode_list-requires-in-Addr : goal.decode_list-requires-in-Addr
decode_list-requires-in-Addr g c =
    nothing_left kinds.Addr _ _ _ (λ e. cc) c.in-Addr.is c.requires

pub returns-in_ok-decode_list-in-Addr-clause-value : goal.returns-in_ok-decode_list-in-Addr-clause-value
returns-in_ok-decode_list-in-Addr-clause-value g c =
    items_read Addr _ kinds.Addr _ _ _ _ _ (λ e. cc) (addr_decoded _ _ _) c.in-Addr.is c.requires
    c.in_ok-decode_list-in-Addr.ensures.ok

pub returns-in_ok-decode_list-in-Addr-clause-ranged : goal.returns-in_ok-decode_list-in-Addr-clause-ranged
returns-in_ok-decode_list-in-Addr-clause-ranged g c = c.in_ok-decode_list-in-Addr.ensures.ranged

pub returns-in_ok-decode_list-in-Addr-clause-fits : goal.returns-in_ok-decode_list-in-Addr-clause-fits
unfolding first_unfit
returns-in_ok-decode_list-in-Addr-clause-fits g c = all_pass _ _ c.in_ok-decode_list-in-Addr.ensures.fits

pub decode_list-requires-in-Sym : goal.decode_list-requires-in-Sym
decode_list-requires-in-Sym g c =
    nothing_left kinds.Sym _ _ _ (λ e. cc) c.in-Sym.is c.requires

pub returns-in_ok-decode_list-in-Sym-clause-value : goal.returns-in_ok-decode_list-in-Sym-clause-value
returns-in_ok-decode_list-in-Sym-clause-value g c =
    items_read Sym _ kinds.Sym _ _ _ _ _ (λ e. cc) (sym_decoded _ _ _) c.in-Sym.is c.requires
    c.in_ok-decode_list-in-Sym.ensures.ok

pub returns-in_ok-decode_list-in-Sym-clause-ranged : goal.returns-in_ok-decode_list-in-Sym-clause-ranged
returns-in_ok-decode_list-in-Sym-clause-ranged g c = c.in_ok-decode_list-in-Sym.ensures.ranged

pub returns-in_ok-decode_list-in-Sym-clause-fits : goal.returns-in_ok-decode_list-in-Sym-clause-fits
unfolding first_unfit
returns-in_ok-decode_list-in-Sym-clause-fits g c = all_pass _ _ c.in_ok-decode_list-in-Sym.ensures.fits

pub decode_list-requires-in-Rel : goal.decode_list-requires-in-Rel
decode_list-requires-in-Rel g c =
    nothing_left kinds.Rel _ _ _ (λ e. cc) c.in-Rel.is c.requires

pub returns-in_ok-decode_list-in-Rel-clause-value : goal.returns-in_ok-decode_list-in-Rel-clause-value
returns-in_ok-decode_list-in-Rel-clause-value g c =
    items_read Rel _ kinds.Rel _ _ _ _ _ (λ e. cc) (rel_decoded _ _ _) c.in-Rel.is c.requires
    c.in_ok-decode_list-in-Rel.ensures.ok

pub returns-in_ok-decode_list-in-Rel-clause-ranged : goal.returns-in_ok-decode_list-in-Rel-clause-ranged
returns-in_ok-decode_list-in-Rel-clause-ranged g c = c.in_ok-decode_list-in-Rel.ensures.ranged

pub returns-in_ok-decode_list-in-Rel-clause-fits : goal.returns-in_ok-decode_list-in-Rel-clause-fits
unfolding first_unfit
returns-in_ok-decode_list-in-Rel-clause-fits g c = all_pass _ _ c.in_ok-decode_list-in-Rel.ensures.fits

pub decode_list-requires-in-Rela : goal.decode_list-requires-in-Rela
decode_list-requires-in-Rela g c =
    nothing_left kinds.Rela _ _ _ (λ e. cc) c.in-Rela.is c.requires

pub returns-in_ok-decode_list-in-Rela-clause-value : goal.returns-in_ok-decode_list-in-Rela-clause-value
returns-in_ok-decode_list-in-Rela-clause-value g c =
    items_read Rela _ kinds.Rela _ _ _ _ _ (λ e. cc) (rela_decoded _ _ _) c.in-Rela.is c.requires
    c.in_ok-decode_list-in-Rela.ensures.ok

pub returns-in_ok-decode_list-in-Rela-clause-ranged : goal.returns-in_ok-decode_list-in-Rela-clause-ranged
returns-in_ok-decode_list-in-Rela-clause-ranged g c = c.in_ok-decode_list-in-Rela.ensures.ranged

pub returns-in_ok-decode_list-in-Rela-clause-fits : goal.returns-in_ok-decode_list-in-Rela-clause-fits
unfolding first_unfit
returns-in_ok-decode_list-in-Rela-clause-fits g c = all_pass _ _ c.in_ok-decode_list-in-Rela.ensures.fits

pub decode_list-requires-in-Dyn : goal.decode_list-requires-in-Dyn
decode_list-requires-in-Dyn g c =
    nothing_left kinds.Dyn _ _ _ (λ e. cc) c.in-Dyn.is c.requires

pub returns-in_ok-decode_list-in-Dyn-clause-value : goal.returns-in_ok-decode_list-in-Dyn-clause-value
returns-in_ok-decode_list-in-Dyn-clause-value g c =
    items_read Dyn _ kinds.Dyn _ _ _ _ _ (λ e. cc) (dyn_decoded _ _ _) c.in-Dyn.is c.requires
    c.in_ok-decode_list-in-Dyn.ensures.ok

pub returns-in_ok-decode_list-in-Dyn-clause-ranged : goal.returns-in_ok-decode_list-in-Dyn-clause-ranged
returns-in_ok-decode_list-in-Dyn-clause-ranged g c = c.in_ok-decode_list-in-Dyn.ensures.ranged

pub returns-in_ok-decode_list-in-Dyn-clause-fits : goal.returns-in_ok-decode_list-in-Dyn-clause-fits
unfolding first_unfit
returns-in_ok-decode_list-in-Dyn-clause-fits g c = all_pass _ _ c.in_ok-decode_list-in-Dyn.ensures.fits
