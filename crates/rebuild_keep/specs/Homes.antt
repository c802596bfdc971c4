-- The items of a home, from its bytes: those of a section's first piece, where that is clean.
use Rattle.std.specs.Prelude.{◌≡◌, ℕ, ◌==◌, ◌&&◌, not, nat_lt, Bool, List, [], ◌∷◌, length, Option, Some, None, is_none, if◌then◌else◌, Result, Ok, Err, IfOk, IfErr, OnOk}
use Rattle.elf_types.specs.Answers.{refused_if, first_refusal}
use Rattle.elf_types.specs.declared.records.Class.{Class}
use Rattle.elf_types.specs.declared.records.Order.{Order}
use Rattle.elf_types.specs.declared.records.Kind.{Kind}
use Rattle.elf_types.specs.declared.records.Sym.{Sym}
use Rattle.elf_types.specs.declared.errors.ElfError.{ElfError}
use Rattle.elf_types.specs.declared.errors.ElfError.TheVariants.{Memory, Read, Ragged}
use Rattle.rebuild_names.specs.elf_xlate.declared.content.Items.{Items}
use Rattle.rebuild_names.specs.elf_xlate.declared.content.Items.TheVariants as items
use Rattle.rebuild_names.specs.elf_xlate.declared.failure.XlateError.{XlateError}
use Rattle.rebuild_names.specs.elf_xlate.declared.failure.XlateError.TheVariants as failures
use Rattle.rebuild_names.specs.elf_xlate.Translation.{decoded}
use Rattle.rebuild_making.specs.elf_object.Object.{Object, section_at}
use Rattle.rebuild_making.specs.elf_object.Answers.{kind_at, raw_refusal, no_data, words_of, syms_of}
use Rattle.rebuild_making.specs.Refused.{RefusedBy}
use Rattle.rebuild_keep.specs.Makes.{FitsAs}

-- ---- Bytes

abbrev pub or_empty_items : Option Items → Items
or_empty_items None = items.Empty
or_empty_items (Some x) = x

-- the items that bytes hold, and why there are none
unfoldable pub decoded_items : Kind → Class → Order → List ℕ → Items
decoded_items kind class order bytes = or_empty_items (decoded kind class order bytes)

unfoldable pub decoded_refusal : ℕ → Kind → Class → Order → List ℕ → Option ElfError
decoded_refusal s kind class order bytes =
    refused_if (is_none (decoded kind class order bytes)) (Ragged s)

-- the refusal of a translation, as that of a section
abbrev pub section_refusal : ℕ → XlateError → ElfError
section_refusal s failures.Memory = Memory
section_refusal s e = Ragged s

-- bytes were decoded, or refused
pub record Decodes (s : ℕ) (kind : Kind) (class : Class) (order : Order) (bytes : List ℕ)
    (result : Result Items ElfError) : Type 0 where
  pub items_are : IfOk result (λ x. x ≡ decoded_items kind class order bytes)
  pub fits : IfOk result (FitsAs class)
  pub passed : OnOk result (decoded_refusal s kind class order bytes ≡ None)
  pub err : IfErr result (RefusedBy (decoded_refusal s kind class order bytes))

-- where their kind was told; else that is refused
abbrev pub DecodesIf : ℕ → Result Kind ElfError → Class → Order → List ℕ → Result Items ElfError
    → Type 0
DecodesIf s (Ok kind) class order bytes result = Decodes s kind class order bytes result
DecodesIf s (Err e) class order bytes result = result ≡ Err e

-- ---- Homes

unfoldable pub items_at_home : Object → ℕ → Items
items_at_home o s =
    decoded_items (kind_at o s 0) o.header.class o.header.order (section_at o s).raw

unfoldable pub home_refusal : Object → ℕ → Option ElfError
home_refusal o s = first_refusal
    (raw_refusal o s
    ∷ no_data o s 0
    ∷ decoded_refusal s (kind_at o s 0) o.header.class o.header.order (section_at o s).raw
    ∷ [])

-- a home as it is
abbrev pub bytes_at_home : Object → ℕ → Items
bytes_at_home o s = items.Bytes (section_at o s).raw

-- ---- Lists that are none where a home is refused

abbrev pub list_none_if_refused : {A : Type 0} → Option ElfError → List A → List A
list_none_if_refused None l = l
list_none_if_refused (Some e) l = []

-- a refusal in place of a list, which is none but for want of memory and a failed read
abbrev pub NoneIfRefused : {A : Type 0} → ElfError → Result (List A) ElfError → Type 0
NoneIfRefused Memory result = result ≡ Err Memory
NoneIfRefused Read result = result ≡ Err Read
NoneIfRefused e result = result ≡ Ok []

-- the number of a section from 1 on
abbrev pub is_there : Object → ℕ → Bool
is_there o s = not (s == 0) && nat_lt s (length o.sections)

abbrev pub words_at_home : Object → ℕ → List ℕ
words_at_home o s = list_none_if_refused (home_refusal o s) (words_of (items_at_home o s))

abbrev pub syms_at_home : Object → ℕ → List Sym
syms_at_home o s = list_none_if_refused (home_refusal o s) (syms_of (items_at_home o s))

-- the words and the symbols of a home; section 0 and a section that is not there have none
unfoldable pub words_found : Object → ℕ → List ℕ
words_found o s = if is_there o s then words_at_home o s else []

unfoldable pub syms_found : Object → ℕ → List Sym
syms_found o s = if is_there o s then syms_at_home o s else []
