-- What a call leaves of the handle of a layout that C hands in.
use Rattle.std.specs.Prelude.{◌≡◌, ◌⊎◌, ℕ, true, false, List}
use Rattle.elf_types.specs.declared.errors.ElfError.{ElfError}
use Rattle.c_handles.specs.declared.layout.handle.LayoutHandle.{LayoutHandle}
use Rattle.c_records.specs.Codes.{code}
use Rattle.c_records.specs.declared.headers.EhdrRecord.{EhdrRecord}
use Rattle.c_records.specs.declared.headers.PhdrRecord.{PhdrRecord}
use Rattle.c_records.specs.declared.headers.ShdrRecord.{ShdrRecord}
use Rattle.c_calls.specs.Layout.Plans.{IsLayoutFor, IsRefusalFor}

-- the handle holds the layout of each object that has these headers; or the number is that of the
-- refusal of its update, or of want of memory in place of a value, Overlap or TooLarge, and the
-- handle is empty
abbrev pub LaysOut : EhdrRecord → List ℕ → List PhdrRecord → List ShdrRecord → ℕ → ℕ
    → LayoutHandle → Type 0
LaysOut ehdr pad phdrs shdrs base number l =
    ((number ≡ 0) × (l.full ≡ true) × IsLayoutFor ehdr pad phdrs shdrs base l.held)
    ⊎ ((l.full ≡ false)
    × ((e : ElfError) × (number ≡ code e) × IsRefusalFor ehdr pad phdrs shdrs base e))

-- the layout as it was
abbrev pub KeepsLayout : LayoutHandle → LayoutHandle → Type 0
KeepsLayout old new = (new.full ≡ true) × (new.held ≡ old.held)
