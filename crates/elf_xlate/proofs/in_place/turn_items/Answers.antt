-- Each kind's items are those of its list.
use Rattle.std.proofs.Common.{refl}
use Rattle.elf_types.specs.declared.records.Kind.TheVariants as kinds
use Rattle.elf_xlate.specs.declared.content.Items.TheVariants.{Half, Word, Addr, Sym, Rel, Rela, Dyn}
use Rattle.elf_xlate.specs.Translation.{encoded}
use Rattle.elf_xlate.proofs.Bytes.{read_are_bytes}
use Rattle.elf_xlate.proofs.InPlace.{form_has, bytes_stay}
use Rattle.elf_xlate.proofs.ListedItems.{half_decoded, word_decoded, addr_decoded, sym_decoded, rel_decoded, rela_decoded, dyn_decoded}
use Rattle.elf_xlate.proofs.ReadItems.{items_read}
use Rattle.elf_xlate.proofs.in_place.turn_items.Goals as goal

pub returns-in-Half : goal.returns-in-Half
unfolding encoded
returns-in-Half g c =
    form_has _ _ _ _ _ _
    (items_read Half _ kinds.Half _ _ _ _ _ (λ e. cc) (half_decoded _ _ _) c.in-Half.is
    c.requires.whole refl)
    c.turn_list.ensures

pub returns-in-Word : goal.returns-in-Word
unfolding encoded
returns-in-Word g c =
    form_has _ _ _ _ _ _
    (items_read Word _ kinds.Word _ _ _ _ _ (λ e. cc) (word_decoded _ _ _) c.in-Word.is
    c.requires.whole refl)
    c.turn_list-in-Word.ensures

pub returns-in-Addr : goal.returns-in-Addr
unfolding encoded
returns-in-Addr g c =
    form_has _ _ _ _ _ _
    (items_read Addr _ kinds.Addr _ _ _ _ _ (λ e. cc) (addr_decoded _ _ _) c.in-Addr.is
    c.requires.whole refl)
    c.turn_list-in-Addr.ensures

pub returns-in-Sym : goal.returns-in-Sym
unfolding encoded
returns-in-Sym g c =
    form_has _ _ _ _ _ _
    (items_read Sym _ kinds.Sym _ _ _ _ _ (λ e. cc) (sym_decoded _ _ _) c.in-Sym.is
    c.requires.whole refl)
    c.turn_list-in-Sym.ensures

pub returns-in-Rel : goal.returns-in-Rel
unfolding encoded
returns-in-Rel g c =
    form_has _ _ _ _ _ _
    (items_read Rel _ kinds.Rel _ _ _ _ _ (λ e. cc) (rel_decoded _ _ _) c.in-Rel.is
    c.requires.whole refl)
    c.turn_list-in-Rel.ensures

pub returns-in-Rela : goal.returns-in-Rela
unfolding encoded
returns-in-Rela g c =
    form_has _ _ _ _ _ _
    (items_read Rela _ kinds.Rela _ _ _ _ _ (λ e. cc) (rela_decoded _ _ _) c.in-Rela.is
    c.requires.whole refl)
    c.turn_list-in-Rela.ensures

pub returns-in-Dyn : goal.returns-in-Dyn
unfolding encoded
returns-in-Dyn g c =
    form_has _ _ _ _ _ _
    (items_read Dyn _ kinds.Dyn _ _ _ _ _ (λ e. cc) (dyn_decoded _ _ _) c.in-Dyn.is
    c.requires.whole refl)
    c.turn_list-in-Dyn.ensures

pub returns-in-Empty : goal.returns-in-Empty
returns-in-Empty g c =
    bytes_stay _ _ _ _ _ c.requires.some (read_are_bytes _ _ c.type_inv.bytes refl) c.in-Empty.is
