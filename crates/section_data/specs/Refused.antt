-- How each call on a cell is refused, what it is due, and where it may want memory.
use Rattle.std.specs.Prelude.{ℕ, Bool, false, not, ◌||◌, nat_le, nat_lt, [], ◌∷◌, length, Option, Some, None, is_some, if◌then◌else◌}
use Rattle.elf_types.specs.declared.records.Class.{Class}
use Rattle.elf_types.specs.declared.records.Kind.{Kind}
use Rattle.elf_types.specs.declared.records.Part.TheVariants as part
use Rattle.elf_types.specs.declared.errors.ElfError.{ElfError}
use Rattle.elf_types.specs.declared.errors.ElfError.TheVariants.{NoData, WrongKind, OutOfFile, Ragged, TooMany, BadAlign, Unfit}
use Rattle.elf_types.specs.declared.constants.TheConstants.{MAX_PIECES}
use Rattle.elf_types.specs.Answers.{refused_if, first_refusal}
use Rattle.elf_object.specs.elf_xlate.declared.content.Items.{Items}
use Rattle.elf_object.specs.elf_xlate.Translation.{first_unfit}
use Rattle.elf_object.specs.Words.{Wants}
use Rattle.elf_object.specs.Answers.{same_kind, no_entry}
use Rattle.elf_object.specs.Calls.{is_piece_align}
use Rattle.section_data.specs.Views.{CellView}
use Rattle.section_data.specs.Held.{piece_in, kind_in, cell_is_loaded, is_ragged, piece_holds_items, count_in}

-- ---- Refusals

abbrev pub no_piece : CellView → ℕ → Option ElfError
no_piece c p = refused_if (nat_le (length c.pieces) p) (NoData p (length c.pieces))

abbrev pub wrong_piece_kind : CellView → Kind → ℕ → Option ElfError
wrong_piece_kind c kind p =
    refused_if (not (same_kind (kind_in c p) kind)) (WrongKind (kind_in c p))

abbrev pub home_out : CellView → Option ElfError
home_out c = refused_if c.home.out (OutOfFile c.section)

abbrev pub home_ragged : Class → CellView → Option ElfError
home_ragged class c = refused_if (is_ragged class c) (Ragged c.section)

-- the piece is the clean home piece, and its home is out of the file or ragged
unfoldable pub no_home_items : Class → CellView → ℕ → Option ElfError
no_home_items class c p =
    elim ((piece_in c p).own) [
      | None ↦ first_refusal (home_out c ∷ home_ragged class c ∷ [])
      | Some items ↦ None
    ]

-- of the calls that hand out the items of a piece
unfoldable pub items_refused : Class → CellView → ℕ → Option ElfError
items_refused class c p = first_refusal (no_piece c p ∷ no_home_items class c p ∷ [])

-- of those that hand out items of a kind
unfoldable pub kind_refused : Class → CellView → Kind → ℕ → Option ElfError
kind_refused class c kind p =
    first_refusal (no_piece c p ∷ wrong_piece_kind c kind p ∷ no_home_items class c p ∷ [])

-- items that do not fit the class, as the piece with that number
abbrev pub unfit_piece : Class → CellView → ℕ → Items → Option ElfError
unfit_piece class c p items =
    elim (first_unfit class items) [
      | None ↦ None
      | Some i ↦ Some (Unfit (part.Piece c.section p) i)
    ]

unfoldable pub replace_refused : Class → CellView → ℕ → Items → Option ElfError
replace_refused class c p items = first_refusal (no_piece c p ∷ unfit_piece class c p items ∷ [])

unfoldable pub append_refused : Class → CellView → Items → ℕ → Option ElfError
append_refused class c items align = first_refusal
    (refused_if (nat_le MAX_PIECES (length c.pieces)) TooMany
    ∷ refused_if (not (is_piece_align align)) (BadAlign align)
    ∷ unfit_piece class c (length c.pieces) items
    ∷ [])

-- of a call that stores an item of a kind, which fits the class or not
unfoldable pub store_refused : Class → CellView → Kind → ℕ → ℕ → Bool → Option ElfError
store_refused class c kind p i fitting = first_refusal
    (kind_refused class c kind p
    ∷ no_entry i (count_in class c p)
    ∷ refused_if (not fitting) (Unfit (part.Piece c.section p) i)
    ∷ [])

-- ---- Bytes that a call asks its source for at most

-- the home, where it lies in the file and is not loaded
unfoldable pub load_due : CellView → ℕ
load_due c = if cell_is_loaded c || c.home.out then 0 else c.home.len

-- the same for a call on a piece: an own one needs no home
unfoldable pub piece_due : CellView → ℕ → ℕ
piece_due c p = if is_some (piece_in c p).own then 0 else load_due c

-- nothing where the call is refused
abbrev pub due_unless : Option ElfError → ℕ → ℕ
due_unless None due = due
due_unless (Some e) due = 0

-- of a call that makes a piece hold its items
unfoldable pub items_due : Class → CellView → ℕ → ℕ
items_due class c p = due_unless (items_refused class c p) (piece_due c p)

-- of a call that lends the items of a piece of a kind
unfoldable pub lend_due : Class → CellView → Kind → ℕ → ℕ
lend_due class c kind p = due_unless (kind_refused class c kind p) (piece_due c p)

-- ---- Where Memory and Read may come

-- in a call that only reads: where there is something to read
abbrev pub loading : ℕ → Wants
loading due = record { memory = nat_lt 0 due; read = nat_lt 0 due }

-- in a call that reads into memory that was kept aside
abbrev pub reading : ℕ → Wants
reading due = record { memory = false; read = nat_lt 0 due }

-- in a call that makes a piece hold its items: where it does not hold them
abbrev pub preparing : CellView → ℕ → ℕ → Wants
preparing c p due = record { memory = not (piece_holds_items c p); read = nat_lt 0 due }
