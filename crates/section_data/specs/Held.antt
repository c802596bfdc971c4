-- What is held of a section's data in memory, and what its pieces hold.
use Rattle.std.specs.Prelude.{◌≡◌, ℕ, ◌/◌, Bool, not, ◌&&◌, ◌||◌, List, Option, Some, None, IfSome, is_some, ◌<◌, length, slice_get, is_none, false, IsTrue, Ok}
use Rattle.std.specs.Option.{option_and_then}
use Rattle.elf_types.specs.declared.records.Class.{Class}
use Rattle.elf_types.specs.declared.records.Order.{Order}
use Rattle.elf_types.specs.declared.records.Kind.{Kind}
use Rattle.elf_object.specs.elf_xlate.declared.content.Items.{Items}
use Rattle.elf_object.specs.elf_xlate.declared.content.Items.TheVariants as items
use Rattle.elf_object.specs.elf_xlate.Items.{item_size}
use Rattle.elf_object.specs.elf_xlate.Translation.{decoded, items_kind, items_count, is_whole}
use Rattle.elf_object.specs.Object.{Piece}
use Rattle.elf_object.specs.Answers.{entry_at}
use Rattle.elf_object.specs.Open.{home_bytes}
use Rattle.section_data.specs.Views.{CellView, piece_of, IsCell}

unfoldable pub piece_in : CellView → ℕ → Piece
piece_in c p = piece_of c.pieces p

-- the kind that a piece holds
unfoldable pub kind_in : CellView → ℕ → Kind
kind_in c p = elim ((piece_in c p).own) [ None ↦ c.home.kind | Some items ↦ items_kind items ]

-- the section is loaded: its home's bytes are held
abbrev pub cell_is_loaded : CellView → Bool
cell_is_loaded c = is_some c.raw

-- the items of a piece where they are held in memory form: of an own one, and of the clean home
-- piece where the home's items are
unfoldable pub ready : CellView → ℕ → Option Items
ready c p = elim ((piece_in c p).own) [ None ↦ c.held | Some items ↦ Some items ]

-- whether a piece holds its items
abbrev pub piece_holds_items : CellView → ℕ → Bool
piece_holds_items c p = is_some (ready c p)

-- Items that are held are those of the raw bytes. The cell does not know the image's class and
-- order.
abbrev pub HeldIs : Class → Order → CellView → Type 0
HeldIs class order c =
    IfSome c.held
    (λ items. option_and_then (decoded c.home.kind class order) c.raw ≡ Some items)

-- no items where there are none
abbrev pub or_empty : Option Items → Items
or_empty None = items.Empty
or_empty (Some items) = items

-- the items of a kind that bytes hold
abbrev pub items_of_bytes : Kind → Class → Order → List ℕ → Items
items_of_bytes kind class order bytes = or_empty (decoded kind class order bytes)

-- the items that the raw bytes hold
abbrev pub raw_items : Class → Order → CellView → Items
raw_items class order c = or_empty (option_and_then (decoded c.home.kind class order) c.raw)

-- the items of a piece: its own, or for the clean home piece those that the raw bytes hold
unfoldable pub items_in : Class → Order → CellView → ℕ → Items
items_in class order c p =
    elim ((piece_in c p).own) [ None ↦ raw_items class order c | Some items ↦ items ]

-- the home's bytes over an image: those that were read, else those in the image
abbrev pub raw_over : List ℕ → CellView → List ℕ
raw_over image c = elim (c.raw) [ None ↦ home_bytes c.home image | Some bytes ↦ bytes ]

-- the items of a piece over an image
unfoldable pub items_over : List ℕ → Class → Order → CellView → ℕ → Items
items_over image class order c p =
    elim ((piece_in c p).own) [
      | None ↦ items_of_bytes c.home.kind class order (raw_over image c)
      | Some items ↦ items
    ]

-- the number of items of a piece: of its own, or of those that the home's bytes are long enough for
unfoldable pub count_in : Class → CellView → ℕ → ℕ
count_in class c p =
    elim ((piece_in c p).own) [
      | None ↦ c.home.len / item_size c.home.kind class
      | Some items ↦ items_count items
    ]

-- the home's bytes are no whole items
abbrev pub is_ragged : Class → CellView → Bool
is_ragged class c = not (is_whole c.home.kind class c.home.len)

-- the first piece is the clean home piece and is not marked, so what it holds is what the image
-- held
unfoldable pub is_untouched : CellView → Bool
is_untouched c =
    elim (slice_get c.pieces 0) [
      | None ↦ false
      | Some piece ↦ is_none piece.own && not piece.marked
    ]

-- whether each item of a piece can be told: it is own, or the home is loaded and has whole items
unfoldable pub is_at_hand : Class → CellView → ℕ → Bool
is_at_hand class c p =
    is_some (piece_in c p).own || (cell_is_loaded c && not (is_ragged class c))

-- item i of a piece that holds a kind: each of them can be told, and it is this one
pub record TellsItem {X : Type 0} (kind : Kind) (list_of : Items → List X) (class : Class)
    (order : Order) (c : CellView) (p i : ℕ) (item : X) : Type 0 where
  pub cell : IsCell c
  pub piece : p < length c.pieces
  pub of_kind : kind_in c p ≡ kind
  pub hand : IsTrue (is_at_hand class c p)
  pub entry : entry_at (list_of (items_in class order c p)) i ≡ Ok item
