-- Each number of a file form is a byte.
use Rattle.std.proofs.Common.{ℕ, zero, suc, ◌+◌, ◌-◌, ◌/◌, ◌%◌, ◌^◌, ◌<◌, List, [], ◌∷◌, ◌++◌, length, take, drop, map, replicate, arith, lit<}
use Rattle.std.specs.Prelude.{reverse}
use Rattle.std.specs.List.{All, flat_map}
use Rattle.std.proofs.Math.Nat.{mod-lt}
use Rattle.std.proofs.lemmas.List.{length-reverse, get_or-reverse}
use Rattle.std.proofs.lemmas.List.Elements.{All-nil, All-cons, All-take, All-drop, All-append, All-replicate}
use Rattle.elf_types.specs.declared.records.Class.{Class}
use Rattle.elf_types.specs.declared.records.Order.{Order}
use Rattle.elf_types.specs.declared.records.Order.TheVariants.{Least, Greatest}
use Rattle.elf_types.specs.declared.records.Phdr.{Phdr}
use Rattle.elf_types.specs.declared.records.Shdr.{Shdr}
use Rattle.elf_xlate.specs.declared.content.Items.{Items}
use Rattle.elf_xlate.specs.declared.content.Items.TheVariants.{Empty, Bytes, Half, Word, Addr, Sym, Rel, Rela, Dyn}
use Rattle.elf_xlate.specs.Numbers.{by_weight, lowest_bytes, octets}
use Rattle.elf_xlate.specs.Fields.{Field, place_in, written, written_in, laid, record_bytes}
use Rattle.elf_xlate.specs.Headers.{phdr_size, phdr_fields, phdr_numbers, phdr_bytes, shdr_size, shdr_fields, shdr_numbers, shdr_bytes}
use Rattle.elf_xlate.specs.Items.{half_bytes, word_bytes, addr_bytes, sym_bytes, rel_bytes, rela_bytes, dyn_bytes}
use Rattle.elf_xlate.specs.Translation.{encoded}

abbrev IsByte : ℕ → Type 0
IsByte n = n < 2 ^ 8

abbrev EachIsByte : List ℕ → Type 0
EachIsByte l = All (λ n. n < 2 ^ 8) l

lowest_are : (width n : ℕ) → EachIsByte (lowest_bytes width n)
unfolding lowest_bytes
lowest_are zero n = All-nil IsByte
lowest_are (suc width) n = All-cons IsByte (n % 256) (lowest_bytes width (n / 256)) (mod-lt n (lit< tt)) (lowest_are width (n / 256))

reversed_are : (bytes : List ℕ) → EachIsByte bytes → EachIsByte (reverse bytes)
reversed_are bytes are k d h =
    let len = length-reverse bytes in
    let inside : k < length bytes = omega (arith, h, len) in
    let place : length bytes - 1 - k < length bytes = omega arith in
    rw (get_or-reverse bytes k d inside) (are (length bytes - 1 - k) d place)

-- the bytes of a number
pub octets_are : (order : Order) (width n : ℕ) → EachIsByte (octets order width n)
unfolding octets by_weight
octets_are Least width n = lowest_are width n
octets_are Greatest width n = reversed_are (lowest_bytes width n) (lowest_are width n)

-- bytes with others written over them
pub written_are : (place : ℕ) (new bytes : List ℕ) → EachIsByte new → EachIsByte bytes → EachIsByte (written place new bytes)
unfolding written
written_are place new bytes a b =
    All-append IsByte (take place bytes) (new ++ drop (place + length new) bytes) (All-take IsByte place bytes b)
    (All-append IsByte new (drop (place + length new) bytes) a (All-drop IsByte (place + length new) bytes b))

-- bytes with the fields of a table written over them
pub laid_are : (class : Class) (order : Order) (fields : List Field) (numbers bytes : List ℕ) → EachIsByte bytes → EachIsByte (laid class order fields numbers bytes)
unfolding written_in
laid_are class order [] numbers bytes are = are
laid_are class order (f ∷ fields) [] bytes are = are
laid_are class order (f ∷ fields) (n ∷ numbers) bytes are =
    laid_are class order fields numbers (written (place_in class f).0 (octets order (place_in class f).1 n) bytes)
    (written_are (place_in class f).0 (octets order (place_in class f).1 n) bytes (octets_are order (place_in class f).1 n) are)

-- the bytes of a record
pub record_are : (class : Class) (order : Order) (size : ℕ) (fields : List Field) (numbers : List ℕ) → EachIsByte (record_bytes class order size fields numbers)
unfolding record_bytes
record_are class order size fields numbers = laid_are class order fields numbers (replicate size 0) (All-replicate IsByte size 0 (lit< tt))

-- the bytes of a program header
pub phdr_are : (class : Class) (order : Order) (p : Phdr) → EachIsByte (phdr_bytes class order p)
unfolding phdr_bytes
phdr_are class order p = record_are class order (phdr_size class) phdr_fields (phdr_numbers p)

-- the bytes of a section header
pub shdr_are : (class : Class) (order : Order) (h : Shdr) → EachIsByte (shdr_bytes class order h)
unfolding shdr_bytes
shdr_are class order h = record_are class order (shdr_size class) shdr_fields (shdr_numbers h)

-- the bytes of a list of records
pub each_are : {X : Type 0} (bytes_of : X → List ℕ) → ((x : X) → EachIsByte (bytes_of x)) → (l : List X) → EachIsByte (flat_map bytes_of l)
each_are bytes_of one [] = All-nil IsByte
each_are bytes_of one (x ∷ l) = All-append IsByte (bytes_of x) (flat_map bytes_of l) (one x) (each_are bytes_of one l)

lowest_each : (l : List ℕ) → EachIsByte (map (λ n. n % 256) l)
lowest_each [] = All-nil IsByte
lowest_each (n ∷ l) = All-cons IsByte (n % 256) (map (λ k. k % 256) l) (mod-lt n (lit< tt)) (lowest_each l)

-- The file form of items is made of bytes, whatever the items are.
pub encoded_are : (class : Class) (order : Order) (items : Items) → All (λ n. n < 2 ^ 8) (encoded class order items)
unfolding encoded half_bytes word_bytes addr_bytes sym_bytes rel_bytes rela_bytes dyn_bytes
encoded_are class order Empty = All-nil IsByte
encoded_are class order (Bytes l) = lowest_each l
encoded_are class order (Half l) = each_are (half_bytes class order) (λ x. record_are class order _ _ _) l
encoded_are class order (Word l) = each_are (word_bytes class order) (λ x. record_are class order _ _ _) l
encoded_are class order (Addr l) = each_are (addr_bytes class order) (λ x. record_are class order _ _ _) l
encoded_are class order (Sym l) = each_are (sym_bytes class order) (λ x. record_are class order _ _ _) l
encoded_are class order (Rel l) = each_are (rel_bytes class order) (λ x. record_are class order _ _ _) l
encoded_are class order (Rela l) = each_are (rela_bytes class order) (λ x. record_are class order _ _ _) l
encoded_are class order (Dyn l) = each_are (dyn_bytes class order) (λ x. record_are class order _ _ _) l
