-- The number of bytes of an item, and of items, in the file.
use Rattle.std.proofs.Common.{◌≡◌, ℕ, ◌*◌, ◌%◌, List, [], ◌∷◌, length, refl, arith}
use Rattle.std.specs.List.{flat_map}
use Rattle.std.proofs.lemmas.List.{length-append, length-map}
use Rattle.elf_types.specs.declared.records.Class.{Class}
use Rattle.elf_types.specs.declared.records.Order.{Order}
use Rattle.elf_types.specs.declared.records.Kind.TheVariants as kinds
use Rattle.elf_types.specs.declared.records.Sym.{Sym as Symbol}
use Rattle.elf_types.specs.declared.records.Rel.{Rel as Relocation}
use Rattle.elf_types.specs.declared.records.Rela.{Rela as RelocationWithAddend}
use Rattle.elf_types.specs.declared.records.Dyn.{Dyn as Entry}
use Rattle.elf_xlate.specs.declared.content.Items.{Items}
use Rattle.elf_xlate.specs.declared.content.Items.TheVariants.{Empty, Bytes, Half, Word, Addr, Sym, Rel, Rela, Dyn}
use Rattle.elf_xlate.specs.Items.{item_size, half_fields, half_bytes, word_fields, word_bytes, addr_fields, addr_bytes, sym_fields, sym_numbers, sym_bytes, rel_fields, rel_numbers, rel_bytes, rela_fields, rela_numbers, rela_bytes, dyn_fields, dyn_numbers, dyn_bytes}
use Rattle.elf_xlate.specs.Translation.{encoded, items_kind, items_count}
use Rattle.elf_xlate.proofs.Tables.{half_table, word_table, addr_table, sym_table, rel_table, rela_table, dyn_table}
use Rattle.elf_xlate.proofs.EachItem.{length_record}

pub length_half : (class : Class) (order : Order) (x : ℕ) → length (half_bytes class order x) ≡ item_size kinds.Half class
unfolding half_bytes
length_half class order x = length_record class order (item_size kinds.Half class) half_fields (x ∷ []) (half_table class)

pub length_word : (class : Class) (order : Order) (x : ℕ) → length (word_bytes class order x) ≡ item_size kinds.Word class
unfolding word_bytes
length_word class order x = length_record class order (item_size kinds.Word class) word_fields (x ∷ []) (word_table class)

pub length_addr : (class : Class) (order : Order) (x : ℕ) → length (addr_bytes class order x) ≡ item_size kinds.Addr class
unfolding addr_bytes
length_addr class order x = length_record class order (item_size kinds.Addr class) addr_fields (x ∷ []) (addr_table class)

pub length_sym : (class : Class) (order : Order) (x : Symbol) → length (sym_bytes class order x) ≡ item_size kinds.Sym class
unfolding sym_bytes
length_sym class order x = length_record class order (item_size kinds.Sym class) sym_fields (sym_numbers x) (sym_table class)

pub length_rel : (class : Class) (order : Order) (x : Relocation) → length (rel_bytes class order x) ≡ item_size kinds.Rel class
unfolding rel_bytes
length_rel class order x = length_record class order (item_size kinds.Rel class) rel_fields (rel_numbers class x) (rel_table class)

pub length_rela : (class : Class) (order : Order) (x : RelocationWithAddend) → length (rela_bytes class order x) ≡ item_size kinds.Rela class
unfolding rela_bytes
length_rela class order x = length_record class order (item_size kinds.Rela class) rela_fields (rela_numbers class x) (rela_table class)

pub length_dyn : (class : Class) (order : Order) (x : Entry) → length (dyn_bytes class order x) ≡ item_size kinds.Dyn class
unfolding dyn_bytes
length_dyn class order x = length_record class order (item_size kinds.Dyn class) dyn_fields (dyn_numbers class x) (dyn_table class)

-- items of one size each
pub length_each : {X : Type 0} (bytes_of : X → List ℕ) (size : ℕ) → ((x : X) → length (bytes_of x) ≡ size) → (l : List X)
    → length (flat_map bytes_of l) ≡ size * length l
length_each bytes_of size one [] = omega arith
length_each bytes_of size one (x ∷ l) =
    let rest = length_each bytes_of size one l in
    let here = one x in
    omega (arith, length-append (bytes_of x) (flat_map bytes_of l), here, rest)

-- The file form of items has as many bytes as their number and their kind say.
pub length_encoded : (class : Class) (order : Order) (items : Items)
    → length (encoded class order items) ≡ item_size (items_kind items) class * items_count items
unfolding encoded
length_encoded class order Empty = refl
length_encoded class order (Bytes l) = omega (arith, length-map l (λ n. n % 256))
length_encoded class order (Half l) = length_each (half_bytes class order) (item_size kinds.Half class) (length_half class order) l
length_encoded class order (Word l) = length_each (word_bytes class order) (item_size kinds.Word class) (length_word class order) l
length_encoded class order (Addr l) = length_each (addr_bytes class order) (item_size kinds.Addr class) (length_addr class order) l
length_encoded class order (Sym l) = length_each (sym_bytes class order) (item_size kinds.Sym class) (length_sym class order) l
length_encoded class order (Rel l) = length_each (rel_bytes class order) (item_size kinds.Rel class) (length_rel class order) l
length_encoded class order (Rela l) = length_each (rela_bytes class order) (item_size kinds.Rela class) (length_rela class order) l
length_encoded class order (Dyn l) = length_each (dyn_bytes class order) (item_size kinds.Dyn class) (length_dyn class order) l
