-- One section's cell, as contracts see it: where its data stands in the image as opened, what is
-- held of it in memory, and its pieces (elf_getdata, elf_rawdata). Home and Piece are those of the
-- plain object.
use Rattle.std.specs.Prelude.{◌≡◌, ℕ, ◌+◌, ◌≤◌, Bool, true, false, not, ◌==◌, ◌&&◌, nat_lt, List, [], ◌∷◌, length, slice_index_or, All, Option, Some, None, IfSome}
use Rattle.elf_types.specs.declared.records.Kind.{Kind}
use Rattle.elf_types.specs.declared.records.Kind.TheVariants as kinds
use Rattle.elf_types.specs.declared.constants.TheConstants.{MAX_PIECES}
use Rattle.elf_object.specs.elf_xlate.declared.content.Items.{Items}
use Rattle.elf_object.specs.Object.{Home, Piece, no_home, home_piece}
use Rattle.elf_object.specs.Valid.{IsPiece, OthersOwn}

pub record CellView : Type 0 where
  pub section : ℕ  -- the section's number
  pub home : Home
  pub raw : Option (List ℕ)  -- the home's bytes, once they are read
  pub held : Option Items  -- the home's items, where they are held in memory form
  pub room : Bool  -- memory for the home's bytes is kept aside
  pub pieces : List Piece

-- ---- Parts of a view

-- the items of a piece, where they are its own
abbrev pub when : Bool → Items → Option Items
when true items = Some items
when false items = None

abbrev pub piece_view : Bool → Items → ℕ → Bool → Piece
piece_view own items align marked = record { own = when own items; align = align; marked = marked }

-- the pieces of a section: the first, where there is one, and the others
abbrev pub pieces_view : Bool → Piece → List Piece → List Piece
pieces_view true first others = first ∷ others
pieces_view false first others = others

-- what stands at an index that no piece has is a clean home piece
abbrev pub piece_of : List Piece → ℕ → Piece
piece_of pieces p = slice_index_or pieces p home_piece

abbrev pub home_view : ℕ → ℕ → Kind → Bool → Home
home_view at len kind out = record { at = at; len = len; kind = kind; out = out }

-- ---- What is true of each cell

-- Raw bytes are as many as the home is long; a home out of the file is never read, and no memory is
-- kept aside for it; the pieces are those of a section; a home of no kind is empty.
pub record IsCell (c : CellView) : Type 0 where
  pub sized : IfSome c.raw (λ bytes. length bytes ≡ c.home.len)
  pub outside : c.home.out ≡ true → c.raw ≡ None
  pub no_room : c.home.out ≡ true → c.room ≡ false
  pub few : length c.pieces ≤ MAX_PIECES
  pub each : All IsPiece c.pieces
  pub others : OthersOwn c.pieces
  pub empty : c.home.kind ≡ kinds.Empty → c.home.len ≡ 0

-- ---- Cells as they are made

-- whether an extent that is not empty passes the end of an image
abbrev pub passes_end : ℕ → ℕ → ℕ → Bool
passes_end size at len = not (len == 0) && nat_lt size (at + len)

-- a cell of which nothing is read, with the clean home piece or none
abbrev pub made_cell : ℕ → Home → Bool → CellView
made_cell section home has_piece = record {
  section = section;
  home = home;
  raw = None;
  held = None;
  room = false;
  pieces = pieces_view has_piece home_piece [];
}

-- the cell of a section of an image: nothing is read, and the one piece is the clean home piece
abbrev pub opened_cell : ℕ → Home → CellView
opened_cell section home = made_cell section home true

-- the cell of a new section
abbrev pub new_cell : ℕ → CellView
new_cell section = made_cell section no_home false
