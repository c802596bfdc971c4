-- The items of whole bytes, read as a list.
use Rattle.std.proofs.Common.{◌≡◌, ◌≢◌, ℕ, ◌/◌, ◌%◌, List, length, true, sym, ap, ◌∙◌, subst}
use Rattle.std.specs.Prelude.{Some}
use Rattle.std.specs.Option.{option_map}
use Rattle.elf_types.specs.declared.records.Class.{Class}
use Rattle.elf_types.specs.declared.records.Order.{Order}
use Rattle.elf_types.specs.declared.records.Kind.{Kind}
use Rattle.elf_types.specs.declared.records.Kind.TheVariants as kinds
use Rattle.elf_xlate.specs.declared.content.Items.{Items}
use Rattle.elf_xlate.specs.declared.content.Items.TheVariants.{Empty, Bytes}
use Rattle.elf_xlate.specs.Items.{item_size}
use Rattle.elf_xlate.specs.Translation.{items_of, listed, is_whole, decoded}
use Rattle.elf_xlate.proofs.Decoded.{listed_whole, none_left}

-- nothing is left over of bytes that are whole items of a kind
pub nothing_left : (k kind : Kind) (class : Class) (len : ℕ) → k ≢ kinds.Empty → kind ≡ k
    → is_whole kind class len ≡ true → len % item_size k class ≡ 0
nothing_left k kind class len some is whole =
    none_left k class len some (subst (λ (j : Kind). is_whole j class len ≡ true) is whole)

-- the list of what stands at each place is the memory form
pub items_read : {X : Type 0} (variant : List X → Items) (item : List ℕ → X) (k kind : Kind)
    (class : Class) (order : Order) (bytes : List ℕ) (l : List X) → k ≢ kinds.Empty
    → decoded k class order bytes ≡ option_map variant (listed item (item_size k class) bytes)
    → kind ≡ k → is_whole kind class (length bytes) ≡ true
    → l ≡ items_of item (item_size k class) (length bytes / item_size k class) bytes
    → decoded kind class order bytes ≡ Some (variant l)
items_read {X} variant item k kind class order bytes l some form is whole given =
    ap (λ (j : Kind). decoded j class order bytes) is ∙ form
    ∙ ap (option_map variant) (listed_whole item (item_size k class) bytes
    (nothing_left k kind class (length bytes) some is whole))
    ∙ ap (λ (m : List X). Some (variant m)) (sym given)

-- the kind that has no items in the file
pub empty_read : (kind : Kind) (class : Class) (order : Order) (bytes : List ℕ)
    → kind ≡ kinds.Empty → decoded kind class order bytes ≡ Some Empty
unfolding decoded
empty_read kind class order bytes is = ap (λ (k : Kind). decoded k class order bytes) is

-- and bytes, which are kept as they are
pub bytes_read : (kind : Kind) (class : Class) (order : Order) (bytes l : List ℕ)
    → kind ≡ kinds.Bytes → l ≡ bytes → decoded kind class order bytes ≡ Some (Bytes l)
unfolding decoded
bytes_read kind class order bytes l is same =
    ap (λ (k : Kind). decoded k class order bytes) is
    ∙ ap (λ (b : List ℕ). Some (Bytes b)) (sym same)
