-- What the call answers that lays out an image by its headers.
use Rattle.std.specs.Prelude.{◌⊎◌, ◌<◌, ℕ, List, length, Box, Result, Ok, Err}
use Rattle.elf_types.specs.declared.constants.TheConstants.{MAX_SECTIONS, MAX_SEGMENTS}
use Rattle.elf_types.specs.declared.errors.ElfError.{ElfError}
use Rattle.elf_object.specs.Object.{Object}
use Rattle.elf_update_plan.specs.Placing.{IsRefused}
use Rattle.c_handles.specs.declared.layout.planned.PlannedLayout.{PlannedLayout}
use Rattle.c_records.specs.declared.headers.EhdrRecord.{EhdrRecord}
use Rattle.c_records.specs.declared.headers.PhdrRecord.{PhdrRecord}
use Rattle.c_records.specs.declared.headers.ShdrRecord.{ShdrRecord}
use Rattle.c_calls.specs.Layout.Stated.{IsStated}
use Rattle.c_calls.specs.Layout.Images.{IsLayoutOf}

-- it is the layout of each object that has these headers
abbrev pub IsLayoutFor : EhdrRecord → List ℕ → List PhdrRecord → List ShdrRecord → ℕ
    → PlannedLayout → Type 0
IsLayoutFor ehdr pad phdrs shdrs base l =
    (o : Object) → IsStated o ehdr pad phdrs shdrs base → IsLayoutOf o l

-- it is the refusal of the update of each such object, or want of memory in place of a value,
-- Overlap or TooLarge
abbrev pub IsRefusalFor : EhdrRecord → List ℕ → List PhdrRecord → List ShdrRecord → ℕ
    → ElfError → Type 0
IsRefusalFor ehdr pad phdrs shdrs base e =
    (o : Object) → IsStated o ehdr pad phdrs shdrs base → IsRefused o e

abbrev pub LaysOutHeaders : {A : Type 0} → EhdrRecord → List ℕ → List PhdrRecord
    → List ShdrRecord → ℕ → Result (Box PlannedLayout A) ElfError → Type 0
LaysOutHeaders ehdr pad phdrs shdrs base (Ok l) = IsLayoutFor ehdr pad phdrs shdrs base l.value
LaysOutHeaders ehdr pad phdrs shdrs base (Err e) = IsRefusalFor ehdr pad phdrs shdrs base e

-- more headers than an object has
abbrev pub AreTooMany : List PhdrRecord → List ShdrRecord → Type 0
AreTooMany phdrs shdrs = (MAX_SEGMENTS < length phdrs) ⊎ (MAX_SECTIONS < length shdrs)
