-- What is held of a piece: the items of an own one, or of the clean home piece the home's bytes
-- where they are loaded.
use Rattle.std.specs.Prelude.{◌≡◌, ℕ, ◌+◌, ◌<◌, ◌≤◌, false, IsTrue, List, length, take, drop, Some, None}
use Rattle.section_table.specs.elf_object.Words.{AlikeBytes}
use Rattle.section_table.specs.elf_object.Object.{section_at, piece_at}
use Rattle.section_table.specs.elf_object.Due.{is_loaded}
use Rattle.section_table.specs.section_data.Views.{CellView}
use Rattle.section_table.specs.section_data.Held.{piece_in}
use Rattle.elf_descriptor.specs.declared.held.Held.{Held}
use Rattle.elf_descriptor.specs.declared.held.Held.TheVariants.{Edited, Raw, Unread}
use Rattle.elf_descriptor.specs.State.{State}

-- of a cell's piece
abbrev pub IsHeldIn : CellView → ℕ → Held → Type 0
IsHeldIn c p (Edited items) = (piece_in c p).own ≡ Some items.now
IsHeldIn c p (Raw bytes) = ((piece_in c p).own ≡ None) × (c.raw ≡ Some bytes.now)
IsHeldIn c p Unread = ((piece_in c p).own ≡ None) × (c.raw ≡ None)

-- the bytes of the home of a clean piece whose section is loaded: as many as stated, and the stated
-- ones where the source tells them
pub record AreHeldBytes {S : Type 0} (state : State S) (s p : ℕ) (bytes : List ℕ) : Type 0 where
  pub clean : (piece_at state.o s p).own ≡ None
  pub loaded : IsTrue (is_loaded state.loaded s)
  pub alike : AlikeBytes bytes (section_at state.o s).raw
  pub exact : IsTrue state.told → bytes ≡ (section_at state.o s).raw

-- the home of a clean piece is not loaded: where it is in the file it lies in the base, and has its
-- bytes there where the source tells them
pub record IsUnread {S : Type 0} (state : State S) (s p : ℕ) : Type 0 where
  pub clean : (piece_at state.o s p).own ≡ None
  pub unread : is_loaded state.loaded s ≡ false
  pub inside : (section_at state.o s).home.out ≡ false → 0 < (section_at state.o s).home.len
      → (section_at state.o s).home.at + (section_at state.o s).home.len ≤ length state.o.base
  pub stands : IsTrue state.told → (section_at state.o s).home.out ≡ false
      → take (section_at state.o s).home.len (drop (section_at state.o s).home.at state.o.base)
      ≡ (section_at state.o s).raw

-- of a descriptor's piece
abbrev pub IsHeld : {S : Type 0} → State S → ℕ → ℕ → Held → Type 0
IsHeld state s p (Edited items) = (piece_at state.o s p).own ≡ Some items.now
IsHeld state s p (Raw bytes) = AreHeldBytes state s p bytes.now
IsHeld state s p Unread = IsUnread state s p
