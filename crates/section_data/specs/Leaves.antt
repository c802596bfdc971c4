-- What a call leaves of a cell.
use Rattle.std.specs.Prelude.{◌≡◌, ℕ, ◌+◌, ◌<◌, ◌≤◌, true, false, ◌++◌, List, [], ◌∷◌, length, slice_set, Option, Some, None, Result, is_some, IfSome, IfErr, ◌≢◌, ◌&&◌, if◌then◌else◌}
use Rattle.elf_object.specs.elf_xlate.declared.content.Items.{Items}
use Rattle.elf_types.specs.declared.records.Class.{Class}
use Rattle.elf_types.specs.declared.records.Order.{Order}
use Rattle.elf_types.specs.declared.records.Kind.{Kind}
use Rattle.elf_types.specs.declared.errors.ElfError.{ElfError}
use Rattle.elf_types.specs.declared.errors.ElfError.TheVariants.{Memory}
use Rattle.elf_object.specs.elf_xlate.Translation.{items_kind}
use Rattle.elf_object.specs.Object.{Home, Piece}
use Rattle.elf_object.specs.Open.{home_bytes}
use Rattle.elf_object.specs.Steps.{own_piece}
use Rattle.section_data.specs.Views.{CellView}
use Rattle.section_data.specs.Held.{piece_in, ready, cell_is_loaded, is_untouched, HeldIs}

-- bytes that were read from a home: as many as it is long, and those of the home in the image where
-- the source tells it
abbrev pub IsReadFrom : Option (List ℕ) → Home → List ℕ → Type 0
IsReadFrom image home bytes =
    (length bytes ≡ home.len) × IfSome image (λ told. bytes ≡ home_bytes home told)

abbrev pub bytes_or_none : Option (List ℕ) → List ℕ
bytes_or_none None = []
bytes_or_none (Some bytes) = bytes

-- raw bytes stay; where there were none they may have been read
abbrev pub RawBecomes : Option (List ℕ) → Home → Option (List ℕ) → Option (List ℕ)
    → Type 0
RawBecomes image home (Some bytes) now = now ≡ Some bytes
RawBecomes image home None None = Unit {0}
RawBecomes image home None (Some bytes) = IsReadFrom image home bytes

-- a call that reads and translates at first use: no more than the raw bytes and the held items may
-- come to be there
pub record Warms (image : Option (List ℕ)) (old new : CellView) : Type 0 where
  pub raw : Option (List ℕ)
  pub held : Option Items
  pub cell : new ≡ record old { raw = raw; held = held }
  pub bytes : RawBecomes image old.home old.raw raw
  pub items : IfSome old.held (λ items. held ≡ Some items)

-- memory is kept aside for a home's bytes that are not held
abbrev pub with_room : CellView → CellView
with_room c = if cell_is_loaded c then c else record c { room = true }

-- a load into memory that was kept aside: the home's bytes are held, and where they were read that
-- memory is used up
pub record FillsRoom (image : Option (List ℕ)) (old new : CellView) : Type 0 where
  pub raw : List ℕ
  pub cell : new ≡ record old { raw = Some raw; room = cell_is_loaded old && old.room }
  pub bytes : RawBecomes image old.home old.raw (Some raw)

-- what is held of the home is let go, where the image holds it too
abbrev pub unloaded : CellView → CellView
unloaded c = if is_untouched c then record c { raw = None; held = None } else c

-- a piece that was ready became own and marked with its items; of the home's items that were held
-- none may be left. An own piece stays as it is.
pub record Claims (old new : CellView) (p : ℕ) : Type 0 where
  pub items : Items
  pub held : Option Items
  pub cell : new ≡ record old {
    held = held;
    pieces = slice_set old.pieces p (own_piece items (piece_in old p).align);
  }
  pub stood : ready old p ≡ Some items
  pub kept : IfSome held (λ items. old.held ≡ Some items)
  pub same : is_some (piece_in old p).own ≡ true → new ≡ old

-- a piece with items of its own of a kind
pub record OwnsKind (kind : Kind) (piece : Piece) : Type 0 where
  pub items : Items
  pub own : piece.own ≡ Some items
  pub of_kind : items_kind items ≡ kind

-- a piece became own: its home was read and translated at first use where the piece was not own,
-- and then it was claimed
pub record Owns (image : Option (List ℕ)) (class : Class) (order : Order)
    (old new : CellView) (p : ℕ) : Type 0 where
  pub warm : CellView
  pub warms : Warms image old warm
  pub stays : is_some (piece_in old p).own ≡ true → warm ≡ old
  pub items : HeldIs class order warm
  pub claims : Claims warm new p

-- a refused call that reads and translates: only want of memory leaves more held than before, and
-- that is raw bytes
pub record Stays {T : Type 0} (image : Option (List ℕ)) (result : Result T ElfError)
    (old new : CellView) : Type 0 where
  pub warms : Warms image old new
  pub held : new.held ≡ old.held
  pub unchanged : IfErr result (λ e. e ≢ Memory → new ≡ old)

-- a piece with other items, own and marked; it keeps its alignment
abbrev pub replaced : CellView → ℕ → Items → CellView
replaced c p items = record c {
  pieces = slice_set c.pieces p (own_piece items (piece_in c p).align);
}

-- one more piece
abbrev pub appended : CellView → Items → ℕ → CellView
appended c items align = record c { pieces = c.pieces ++ own_piece items align ∷ [] }

-- a piece with a dirty mark
abbrev pub marked_piece : CellView → ℕ → CellView
marked_piece c p = record c {
  pieces = slice_set c.pieces p (record (piece_in c p) { marked = true });
}

-- a home that lies in the image and is not loaded lies in a source of that size
abbrev pub LiesIn : CellView → ℕ → Type 0
LiesIn c size =
    cell_is_loaded c ≡ false
    → c.home.out ≡ false
    → 0 < c.home.len
    → c.home.at + c.home.len ≤ size
