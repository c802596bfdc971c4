-- A symbol table in another order, and what goes by the indexes of its symbols: extended
-- indexes, versions, relocations and the signatures of groups (gABI chapter 4, "Sections",
-- sh_link and sh_info).
use Rattle.std.specs.Prelude.{ℕ, ◌-◌, not, ◌==◌, ◌&&◌, ◌||◌, Bool, nat_lt, nat_eq, List, [], ◌∷◌, ◌++◌, length, drop, map, slice_get, if◌then◌else◌, Option, Some, None}
use Rattle.std.specs.List.{position, flat_map, fold}
use Rattle.elf_types.specs.Answers.{refused_if, first_refusal}
use Rattle.elf_types.specs.declared.records.Kind.{Kind}
use Rattle.elf_types.specs.declared.records.Kind.TheVariants as kinds
use Rattle.elf_types.specs.declared.records.Rel.{Rel}
use Rattle.elf_types.specs.declared.records.Rela.{Rela}
use Rattle.elf_types.specs.declared.errors.ElfError.{ElfError}
use Rattle.elf_types.specs.declared.errors.ElfError.TheVariants.{NoEntry}
use Rattle.elf_types.specs.declared.constants.TheConstants.{SHT_REL, SHT_RELA, SHT_GROUP, SHT_SYMTAB_SHNDX, SHT_GNU_VERSYM}
use Rattle.elf_object.specs.elf_xlate.declared.content.Items.{Items}
use Rattle.elf_object.specs.elf_xlate.declared.content.Items.TheVariants as items
use Rattle.elf_object.specs.Object.{Object}
use Rattle.elf_object.specs.Answers.{items_at, count_at, syms_of, lend_refusal}
use Rattle.elf_object.specs.Steps.{with_own, with_shdr}
use Rattle.elf_object.specs.Due.{all_sections}
use Rattle.elf_object.specs.Sections.{header_at}

-- ---- Lists

-- the items in the order of these old indexes
unfoldable pub in_order : {A : Type 0} → List ℕ → List A → List A
in_order order l = flat_map (λ i. elim (slice_get l i) [ None ↦ [] | Some x ↦ x ∷ [] ]) order

-- the same with the items behind them, which stay
abbrev pub moved_along : {A : Type 0} → List ℕ → List A → List A
moved_along order l = in_order order l ++ drop (length order) l

-- the new index of an old one; one that is no symbol's stays
unfoldable pub new_index : List ℕ → ℕ → ℕ
new_index order i = elim (position (nat_eq i) order) [ None ↦ i | Some new ↦ new ]

-- ---- What goes by the symbols of section s

-- each symbol has an item of its own there: an extended index, or a version
abbrev pub has_item_each : ℕ → Bool
has_item_each stype = stype == SHT_SYMTAB_SHNDX || stype == SHT_GNU_VERSYM

abbrev pub with_rel : List ℕ → Rel → Rel
with_rel order r = record r { sym = new_index order r.sym }

abbrev pub with_rela : List ℕ → Rela → Rela
with_rela order r = record r { sym = new_index order r.sym }

-- the items of a section of a type that goes by the symbols, and their kind; another type has none
abbrev pub kind_by_symbols : ℕ → Option Kind
kind_by_symbols stype =
    if stype == SHT_SYMTAB_SHNDX then Some kinds.Word
    else (if stype == SHT_GNU_VERSYM then Some kinds.Half
    else (if stype == SHT_REL then Some kinds.Rel
    else (if stype == SHT_RELA then Some kinds.Rela else None)))

abbrev pub items_by_symbols : List ℕ → Items → Items
items_by_symbols order (items.Word l) = items.Word (moved_along order l)
items_by_symbols order (items.Half l) = items.Half (moved_along order l)
items_by_symbols order (items.Rel l) = items.Rel (map (with_rel order) l)
items_by_symbols order (items.Rela l) = items.Rela (map (with_rela order) l)
items_by_symbols order other = other

-- the signature of a group is a symbol
abbrev pub with_signature : Object → List ℕ → ℕ → Object
with_signature o order n =
    if nat_lt (header_at o n).info (length order)
    then with_shdr o n (record (header_at o n) { info = new_index order (header_at o n).info })
    else o

-- section n follows the new order of the symbols of section s
unfoldable pub reordered_section : ℕ → List ℕ → Object → ℕ → Object
reordered_section s order o n =
    if not ((header_at o n).link == s) then o
    else (if (header_at o n).stype == SHT_GROUP && not (n == 0) then with_signature o order n
    else (elim (kind_by_symbols (header_at o n).stype) [
      | None ↦ o
      | Some kind ↦ with_own o n 0 (items_by_symbols order (items_at o n 0))
    ]))

-- the symbols of section s in that order, and then each section by number
unfoldable pub reordered : Object → ℕ → List ℕ → Object
reordered o s order = fold
    (reordered_section s order)
    (with_own o s 0 (items.Sym (in_order order (syms_of (items_at o s 0)))))
    (all_sections o)

-- ---- Refusals

-- fewer items than there are symbols
abbrev pub too_few_items : Object → ℕ → ℕ → Option ElfError
too_few_items o count n =
    refused_if
    (has_item_each (header_at o n).stype && nat_lt (count_at o n 0) count)
    (NoEntry (count - 1) (count_at o n 0))

-- of a section that goes by the symbols of section s: as the lend of its items
unfoldable pub reorder_refusal_of : Object → ℕ → ℕ → Option ElfError
reorder_refusal_of o s n =
    if not ((header_at o n).link == s) then None
    else (elim (kind_by_symbols (header_at o n).stype) [
      | None ↦ None
      | Some kind ↦
          first_refusal (lend_refusal o kind n 0 ∷ too_few_items o (count_at o s 0) n ∷ [])
    ])

-- the symbol table first, and then the sections by number
unfoldable pub reorder_refusal : Object → ℕ → Option ElfError
reorder_refusal o s =
    first_refusal (lend_refusal o kinds.Sym s 0 ∷ map (reorder_refusal_of o s) (all_sections o))
