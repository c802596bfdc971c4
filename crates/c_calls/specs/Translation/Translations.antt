-- What a translation of bytes from one order to another leaves in C's buffer.
use Rattle.std.specs.Prelude.{◌≡◌, ℕ, List, Option, Some, None}
use Rattle.elf_types.specs.declared.records.Class.{Class}
use Rattle.elf_types.specs.declared.records.Order.{Order}
use Rattle.elf_types.specs.declared.errors.ElfError.TheVariants as refusals
use Rattle.elf_xlate.specs.declared.content.Items.{Items}
use Rattle.elf_xlate.specs.Translation.{encoded}
use Rattle.c_records.specs.Codes.{code}

-- the file form, in the other order, of the items that the bytes hold; where they hold none, a
-- refusal, and the bytes as before
unfoldable pub Translates : Class → Order → Option Items → ℕ → List ℕ → List ℕ → Type 0
Translates class order (Some items) number old new =
    (number ≡ 0) × (new ≡ encoded class order items)
Translates class order None number old new = (number ≡ code (refusals.Ragged 0)) × (new ≡ old)
