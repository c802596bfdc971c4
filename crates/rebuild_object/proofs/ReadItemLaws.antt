-- Items that whole bytes are read as.
use Rattle.std.proofs.Common.{◌≡◌, ℕ, true, List, length, Option, None, Some, refl, sym, ap, ◌∙◌, subst}
use Rattle.std.specs.Prelude.{IfSome}
use Rattle.std.specs.Option.{option_map}
use Rattle.elf_types.specs.declared.records.Class.{Class}
use Rattle.elf_types.specs.declared.records.Order.{Order}
use Rattle.elf_types.specs.declared.records.Kind.{Kind}
use Rattle.elf_types.specs.declared.records.Kind.TheVariants as kinds
use Rattle.elf_types.specs.Lists.{AreBytes}
use Rattle.elf_xlate.specs.declared.content.Items.{Items}
use Rattle.elf_xlate.specs.declared.content.Items.TheVariants as items
use Rattle.elf_xlate.specs.Items.{item_size, half_of, word_of, addr_of, sym_of, rel_of, rela_of, dyn_of}
use Rattle.elf_xlate.specs.Translation.{AreItems, decoded, encoded, first_unfit, is_whole, items_kind, listed}
use Rattle.elf_xlate.proofs.Narrow.{decoded_fits, decoded_ranged}
use Rattle.elf_xlate.proofs.Translated.{encodes_as_decoded}
use Rattle.rebuild_plan.specs.rebuild_keep.Homes.{decoded_items, or_empty_items}
use Rattle.rebuild_object.proofs.ItemLaws.{whole_decoded}

-- they are in the ranges of their types, fit the class, are of the kind, and are written as they
-- were
pub record AreReadItems (kind : Kind) (class : Class) (order : Order) (bytes : List ℕ) (d : Items)
    : Type 0 where
  pub are : AreItems d
  pub fits : first_unfit class d ≡ None
  pub kind_is : items_kind d ≡ kind
  pub again : encoded class order d ≡ bytes

listed_kind : {X : Type 0} (variant : List X → Items) (kind : Kind) (found : Option (List X))
    (x : Items) → ((l : List X) → items_kind (variant l) ≡ kind)
    → option_map variant found ≡ Some x → items_kind x ≡ kind
listed_kind variant kind None x each is = cc
listed_kind variant kind (Some l) x each is =
    let same : variant l ≡ x = cc in ap items_kind (sym same) ∙ each l

decoded_kind : (kind : Kind) (class : Class) (order : Order) (bytes : List ℕ) (x : Items)
    → decoded kind class order bytes ≡ Some x → items_kind x ≡ kind
unfolding decoded
decoded_kind kinds.Empty class order bytes x is =
    let same : items.Empty ≡ x = cc in ap items_kind (sym same)
decoded_kind kinds.Bytes class order bytes x is =
    let same : items.Bytes bytes ≡ x = cc in ap items_kind (sym same)
decoded_kind kinds.Half class order bytes x is =
    listed_kind items.Half kinds.Half
    (listed (half_of class order) (item_size kinds.Half class) bytes) x (λ l. refl) is
decoded_kind kinds.Word class order bytes x is =
    listed_kind items.Word kinds.Word
    (listed (word_of class order) (item_size kinds.Word class) bytes) x (λ l. refl) is
decoded_kind kinds.Addr class order bytes x is =
    listed_kind items.Addr kinds.Addr
    (listed (addr_of class order) (item_size kinds.Addr class) bytes) x (λ l. refl) is
decoded_kind kinds.Sym class order bytes x is =
    listed_kind items.Sym kinds.Sym
    (listed (sym_of class order) (item_size kinds.Sym class) bytes) x (λ l. refl) is
decoded_kind kinds.Rel class order bytes x is =
    listed_kind items.Rel kinds.Rel
    (listed (rel_of class order) (item_size kinds.Rel class) bytes) x (λ l. refl) is
decoded_kind kinds.Rela class order bytes x is =
    listed_kind items.Rela kinds.Rela
    (listed (rela_of class order) (item_size kinds.Rela class) bytes) x (λ l. refl) is
decoded_kind kinds.Dyn class order bytes x is =
    listed_kind items.Dyn kinds.Dyn
    (listed (dyn_of class order) (item_size kinds.Dyn class) bytes) x (λ l. refl) is

pub read_items : (kind : Kind) (class : Class) (order : Order) (bytes : List ℕ)
    → is_whole kind class (length bytes) ≡ true → AreBytes bytes → (kind ≡ kinds.Empty → ⊥)
    → AreReadItems kind class order bytes (decoded_items kind class order bytes)
unfolding decoded_items
read_items kind class order bytes whole are some = by (decoded kind class order bytes) refl
  where
    by : (d : Option Items) → decoded kind class order bytes ≡ d
        → AreReadItems kind class order bytes (or_empty_items (decoded kind class order bytes))
    by None is = absurd (whole_decoded kind class order bytes whole is)
    by (Some x) is =
        subst (λ (d : Items). AreReadItems kind class order bytes d)
        (sym (ap or_empty_items is)) (record {
          are = decoded_ranged kind class order bytes x are is;
          fits = decoded_fits kind class order bytes x are is;
          kind_is = decoded_kind kind class order bytes x is;
          again = subst (λ (d : Option Items). IfSome d
              (λ (l : Items). encoded class order l ≡ bytes)) is
              (encodes_as_decoded kind class order bytes some are);
        })
