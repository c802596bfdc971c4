-- A section that is one table of strings whose bytes are held (gABI chapter 4, "String Table").
use Rattle.std.specs.Prelude.{◌≡◌, ℕ, ◌<◌, length, true, false, None, is_some, IsTrue}
use Rattle.elf_types.specs.declared.constants.TheConstants.{SHT_STRTAB}
use Rattle.elf_types.specs.declared.records.Kind.TheVariants as kinds
use Rattle.section_table.specs.elf_object.Object.{section_at, piece_at}
use Rattle.section_table.specs.elf_object.Answers.{no_section, piece_count}
use Rattle.section_table.specs.elf_object.Due.{is_loaded}
use Rattle.section_table.specs.section_data.Views.{CellView}
use Rattle.section_table.specs.section_data.Held.{piece_in, cell_is_loaded}
use Rattle.elf_descriptor.specs.declared.body.Body.{Body}
use Rattle.elf_descriptor.specs.State.{State}
use Rattle.elf_descriptor.specs.Views.{scn_at}

-- a section of strings that is in the file and has one piece, the clean home piece, which holds
-- bytes; its home is loaded, and the offset lies in it
pub record IsHeldTable {S : Type 0} (state : State S) (s offset : ℕ) : Type 0 where
  pub there : no_section state.o s ≡ None
  pub of_strings : (section_at state.o s).header.stype ≡ SHT_STRTAB
  pub inside : (section_at state.o s).home.out ≡ false
  pub alone : piece_count state.o s ≡ 1
  pub clean : (piece_at state.o s 0).own ≡ None
  pub of_bytes : (section_at state.o s).home.kind ≡ kinds.Bytes
  pub loaded : IsTrue (is_loaded state.loaded s)
  pub within : offset < length (section_at state.o s).raw

-- ---- By what the program keeps

-- a cell in the file whose one piece is the clean home piece, which holds bytes; the home is
-- loaded, and the offset lies in it
pub record HoldsAlone (c : CellView) (offset : ℕ) : Type 0 where
  pub inside : c.home.out ≡ false
  pub alone : length c.pieces ≡ 1
  pub clean : is_some (piece_in c 0).own ≡ false
  pub of_bytes : c.home.kind ≡ kinds.Bytes
  pub loaded : cell_is_loaded c ≡ true
  pub within : offset < c.home.len

-- the section with that number is of strings, and its cell is such a one
pub record IsTableIn (b : Body) (s offset : ℕ) : Type 0 where
  pub there : s < length b.sections
  pub of_strings : (scn_at b s).header.stype ≡ SHT_STRTAB
  pub alone : HoldsAlone (scn_at b s).cell offset
