-- A section's data in its file form and in its memory form (gABI chapter 4, "Data Representation").
use Rattle.std.specs.Prelude.{ℕ, ◌-◌, ◌*◌, ◌/◌, ◌%◌, ◌^◌, ◌<◌, List, [], length, take, drop, map, Bool, true, not, ◌==◌, if◌then◌else◌, Option, Some, None, Result, Ok, Err, IfSome, ◌≡◌, ◌≢◌}
use Rattle.std.specs.Option.{option_map}
use Rattle.std.specs.List.{range_with_len, flat_map, position, All}
use Rattle.elf_types.specs.declared.records.Class.{Class}
use Rattle.elf_types.specs.declared.records.Order.{Order}
use Rattle.elf_types.specs.declared.records.Kind.{Kind}
use Rattle.elf_types.specs.declared.records.Kind.TheVariants as kinds
use Rattle.elf_xlate.specs.declared.content.Items.{Items}
use Rattle.elf_xlate.specs.declared.content.Items.TheVariants.{Empty, Bytes, Half, Word, Addr, Sym, Rel, Rela, Dyn}
use Rattle.elf_xlate.specs.declared.failure.XlateError.{XlateError}
use Rattle.elf_xlate.specs.declared.failure.XlateError.TheVariants as errors
use Rattle.elf_types.specs.Answers.{or_refused}
use Rattle.elf_xlate.specs.Fields.{fits}
use Rattle.elf_xlate.specs.Items.{item_size, half_of, word_of, addr_of, sym_of, rel_of, rela_of, dyn_of, half_bytes, word_bytes, addr_bytes, sym_bytes, rel_bytes, rela_bytes, dyn_bytes, sym_fits, rel_fits, rela_fits, dyn_fits, IsSym, IsRel, IsRela, IsDyn}

-- the number of bytes of that many items
abbrev pub file_size : Kind → Class → ℕ → ℕ
file_size kind class count = item_size kind class * count

-- that many items of a size: item i is what stands at the place i * size
unfoldable pub items_of : {X : Type 0} → (List ℕ → X) → ℕ → ℕ → List ℕ → List X
items_of item size count bytes =
    map (λ i. item (take size (drop (i * size) bytes))) (range_with_len 0 count)

-- the items that bytes hold, or None where the size does not divide their number
unfoldable pub listed : {X : Type 0} → (List ℕ → X) → ℕ → List ℕ → Option (List X)
listed item size bytes =
    if length bytes % size == 0 then Some (items_of item size (length bytes / size) bytes) else None

-- whether so many bytes are whole items of a kind
abbrev pub is_whole : Kind → Class → ℕ → Bool
is_whole kinds.Empty class len = true
is_whole kind class len = len % item_size kind class == 0

-- the memory form of bytes, or None where they are ragged
unfoldable pub decoded : Kind → Class → Order → List ℕ → Option Items
decoded kinds.Empty class order bytes = Some Empty
decoded kinds.Bytes class order bytes = Some (Bytes bytes)
decoded kinds.Half class order bytes =
    option_map Half (listed (half_of class order) (item_size kinds.Half class) bytes)
decoded kinds.Word class order bytes =
    option_map Word (listed (word_of class order) (item_size kinds.Word class) bytes)
decoded kinds.Addr class order bytes =
    option_map Addr (listed (addr_of class order) (item_size kinds.Addr class) bytes)
decoded kinds.Sym class order bytes =
    option_map Sym (listed (sym_of class order) (item_size kinds.Sym class) bytes)
decoded kinds.Rel class order bytes =
    option_map Rel (listed (rel_of class order) (item_size kinds.Rel class) bytes)
decoded kinds.Rela class order bytes =
    option_map Rela (listed (rela_of class order) (item_size kinds.Rela class) bytes)
decoded kinds.Dyn class order bytes =
    option_map Dyn (listed (dyn_of class order) (item_size kinds.Dyn class) bytes)

-- the file form of items; of a number that passes its field, the lowest bytes
unfoldable pub encoded : Class → Order → Items → List ℕ
encoded class order Empty = []
encoded class order (Bytes l) = map (λ n. n % 256) l
encoded class order (Half l) = flat_map (half_bytes class order) l
encoded class order (Word l) = flat_map (word_bytes class order) l
encoded class order (Addr l) = flat_map (addr_bytes class order) l
encoded class order (Sym l) = flat_map (sym_bytes class order) l
encoded class order (Rel l) = flat_map (rel_bytes class order) l
encoded class order (Rela l) = flat_map (rela_bytes class order) l
encoded class order (Dyn l) = flat_map (dyn_bytes class order) l

-- the index of the first item that does not pass
abbrev pub first_not : {X : Type 0} → (X → Bool) → List X → Option ℕ
first_not passes l = position (λ x. not (passes x)) l

-- the index of the first item that does not fit its fields in a class, or None
unfoldable pub first_unfit : Class → Items → Option ℕ
first_unfit class Empty = None
first_unfit class (Bytes l) = None
first_unfit class (Half l) = None
first_unfit class (Word l) = None
first_unfit class (Addr l) = first_not (fits class) l
first_unfit class (Sym l) = first_not (sym_fits class) l
first_unfit class (Rel l) = first_not (rel_fits class) l
first_unfit class (Rela l) = first_not (rela_fits class) l
first_unfit class (Dyn l) = first_not (dyn_fits class) l

-- the kind of items
abbrev pub items_kind : Items → Kind
items_kind Empty = kinds.Empty
items_kind (Bytes l) = kinds.Bytes
items_kind (Half l) = kinds.Half
items_kind (Word l) = kinds.Word
items_kind (Addr l) = kinds.Addr
items_kind (Sym l) = kinds.Sym
items_kind (Rel l) = kinds.Rel
items_kind (Rela l) = kinds.Rela
items_kind (Dyn l) = kinds.Dyn

-- the number of items
abbrev pub items_count : Items → ℕ
items_count Empty = 0
items_count (Bytes l) = length l
items_count (Half l) = length l
items_count (Word l) = length l
items_count (Addr l) = length l
items_count (Sym l) = length l
items_count (Rel l) = length l
items_count (Rela l) = length l
items_count (Dyn l) = length l

-- the part of a list from one index on and before another
abbrev pub between : {X : Type 0} → ℕ → ℕ → List X → List X
between from to l = take (to - from) (drop from l)

-- the items from one index on and before another
abbrev pub items_between : ℕ → ℕ → Items → Items
items_between from to Empty = Empty
items_between from to (Bytes l) = Bytes (between from to l)
items_between from to (Half l) = Half (between from to l)
items_between from to (Word l) = Word (between from to l)
items_between from to (Addr l) = Addr (between from to l)
items_between from to (Sym l) = Sym (between from to l)
items_between from to (Rel l) = Rel (between from to l)
items_between from to (Rela l) = Rela (between from to l)
items_between from to (Dyn l) = Dyn (between from to l)

-- each field of each item is in the range of its type
abbrev pub AreItems : Items → Type 0
AreItems Empty = Unit {0}
AreItems (Bytes l) = All (λ n. n < 2 ^ 8) l
AreItems (Half l) = All (λ n. n < 2 ^ 16) l
AreItems (Word l) = All (λ n. n < 2 ^ 32) l
AreItems (Addr l) = All (λ n. n < 2 ^ 64) l
AreItems (Sym l) = All IsSym l
AreItems (Rel l) = All IsRel l
AreItems (Rela l) = All IsRela l
AreItems (Dyn l) = All IsDyn l

-- an error of a translation that a definition states: want of memory is none
abbrev pub xlate_refusal : XlateError → Option XlateError
xlate_refusal errors.Memory = None
xlate_refusal e = Some e

-- the answer of a translation to memory
abbrev pub to_memory_answer : Kind → Class → Order → List ℕ → Result Items XlateError
to_memory_answer kind class order bytes = or_refused (decoded kind class order bytes) errors.Ragged

-- the refusal of a translation to the file
abbrev pub to_file_refusal : Class → Items → Option XlateError
to_file_refusal class items = option_map errors.Unfit (first_unfit class items)

-- Bytes, read as items of a kind that has a file form, are written as they were.
abbrev pub EncodesAsDecoded : Kind → Class → Order → List ℕ → Type 0
EncodesAsDecoded kind class order bytes =
    kind ≢ kinds.Empty → All (λ b. b < 2 ^ 8) bytes
    → IfSome (decoded kind class order bytes) (λ items. encoded class order items ≡ bytes)

-- Items that all fit, written in a class, are read as they were.
abbrev pub DecodesAsEncoded : Class → Order → Items → Type 0
DecodesAsEncoded class order items =
    AreItems items → first_unfit class items ≡ None
    → decoded (items_kind items) class order (encoded class order items) ≡ Some items

-- What a translation in place answers and leaves: the file form, in the other order, of the items
-- that the bytes hold; where they hold none, the bytes as they were.
abbrev pub TranslatesInPlace : Class → Order → Option Items → Result (Unit {0}) XlateError
    → List ℕ → List ℕ → Type 0
TranslatesInPlace class to (Some items) result old new =
    (result ≡ Ok tt) × (new ≡ encoded class to items)
TranslatesInPlace class to None result old new = (result ≡ Err errors.Ragged) × (new ≡ old)
