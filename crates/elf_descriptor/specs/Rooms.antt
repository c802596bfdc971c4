-- Memory for what is read: it is kept aside for a home's bytes, and they are let go where they can
-- be read again (elf_getdata and elf_rawdata of elf(3E)).
use Rattle.std.specs.Prelude.{◌≡◌, ℕ, Bool, true, false, not, ◌&&◌, ◌||◌, length, slice_get, slice_set, is_none, List, Option, None, Some, if◌then◌else◌}
use Rattle.section_table.specs.elf_object.Words.{Wants}
use Rattle.section_table.specs.elf_object.Object.{Object, Section, section_at}
use Rattle.section_table.specs.elf_object.Calls as calls
use Rattle.section_table.specs.elf_object.Due.{is_loaded}
use Rattle.section_table.specs.section_data.Views.{CellView, passes_end}
use Rattle.section_table.specs.section_data.Held.{is_untouched}
use Rattle.section_table.specs.section_data.Leaves.{FillsRoom}
use Rattle.elf_descriptor.specs.declared.body.Body.{Body}
use Rattle.elf_descriptor.specs.State.{State}
use Rattle.elf_descriptor.specs.Reads.{wanted}
use Rattle.elf_descriptor.specs.Views.{scn_at}

-- ---- Kept aside

-- after memory is kept aside for a section's home, where that is not loaded
abbrev pub with_room_for : {S : Type 0} → ℕ → State S → State S
with_room_for s state =
    if is_loaded state.loaded s then state
    else (record state { room = slice_set state.room s true })

-- whether a section's home can be loaded without memory
abbrev pub has_room_for : {S : Type 0} → State S → ℕ → Bool
has_room_for state s = is_loaded state.loaded s || is_loaded state.room s

-- where Memory and Read may come in a call that loads one: no Memory
abbrev pub reads_home : {S : Type 0} → ℕ → State S → Wants
reads_home s state = record { memory = false; read = (wanted (calls.raw s) state).read }

-- ---- Let go

-- the home piece is there, clean and not marked
abbrev pub is_kept_home : Section → Bool
is_kept_home c =
    elim (slice_get c.pieces 0) [
      | None ↦ false
      | Some piece ↦ is_none piece.own && not piece.marked
    ]

-- whether a section's home can be read again: its home piece is clean and not marked, and the home
-- lies in the base. A piece that is marked may stand for bytes that a failed update in place wrote
-- over.
unfoldable pub can_be_read_again : Object → ℕ → Bool
can_be_read_again o s =
    let c = section_at o s in
    is_kept_home c && not c.home.out && not (passes_end (length o.base) c.home.at c.home.len)

-- after what is held of a section's home is let go, where it can be read again
abbrev pub unloaded : {S : Type 0} → ℕ → State S → State S
unloaded s state =
    if can_be_read_again state.o s
    then (record state {
      loaded = slice_set state.loaded s false;
      held = slice_set state.held s false;
    })
    else state

-- the same in what the program keeps
abbrev pub let_go : CellView → CellView
let_go c = record c { raw = None; held = None }

-- the data of one section is held so, and all else is as before
pub record HoldsSo (old new : Body) (s : ℕ) (cell : CellView) : Type 0 where
  pub rest : new ≡ record old { sections = new.sections }
  pub sections : new.sections
      ≡ slice_set old.sections s (record (scn_at old s) { cell = cell })

-- a section's home was read into the memory that was kept aside for it
pub record Fills (image : Option (List ℕ)) (old new : Body) (s : ℕ) : Type 0 where
  pub cell : CellView
  pub so : HoldsSo old new s cell
  pub fills : FillsRoom image (scn_at old s).cell cell

-- whether a section's home can be read again, by what the program keeps
abbrev pub can_forget : ℕ → CellView → Bool
can_forget base c =
    is_untouched c && not c.home.out && not (passes_end base c.home.at c.home.len)

unfoldable pub can_let_go : Body → ℕ → ℕ → Bool
can_let_go b base s = can_forget base (scn_at b s).cell
