-- How many bytes headers and tables have.
use Rattle.std.proofs.Common.{◌≡◌, ℕ, zero, suc, ◌+◌, ◌-◌, ◌*◌, ◌≤◌, Bool, true, false, ◌&&◌, List, [], ◌∷◌, ◌++◌, length, refl, ap, ◌∙◌, arith, lit≤, ◌/◌}
use Rattle.std.specs.Prelude.{nat_le, flat_map}
use Rattle.std.specs.List.{list_all}
use Rattle.std.proofs.Math.ListN.{replicate}
use Rattle.std.proofs.lemmas.Bool.{leb-true}
use Rattle.std.proofs.lemmas.List.{length-take-le, length-drop, length-append, length-replicate, length-reverse}
use Rattle.elf_types.specs.declared.records.Class.{Class}
use Rattle.elf_types.specs.declared.records.Class.TheVariants.{C32, C64}
use Rattle.elf_types.specs.declared.records.Order.{Order}
use Rattle.elf_types.specs.declared.records.Order.TheVariants.{Least, Greatest}
use Rattle.elf_types.specs.declared.records.Ehdr.{Ehdr}
use Rattle.elf_types.specs.declared.records.Phdr.{Phdr}
use Rattle.elf_types.specs.declared.records.Shdr.{Shdr}
use Rattle.elf_object.specs.elf_xlate.Numbers.{by_weight, lowest_bytes, octets}
use Rattle.elf_object.specs.elf_xlate.Fields.{Field, place_in, written, written_in, laid, record_bytes}
use Rattle.elf_object.specs.elf_xlate.Headers.{ehdr_size, ehdr_fields, ehdr_numbers, ident, ehdr_bytes, phdr_size, phdr_fields, phdr_numbers, phdr_bytes, shdr_size, shdr_fields, shdr_numbers, shdr_bytes}
use Rattle.elf_object.specs.Open.{phdrs_bytes, shdrs_bytes}

length-lowest_bytes : (width n : ℕ) → length (lowest_bytes width n) ≡ width
unfolding lowest_bytes
length-lowest_bytes zero n = refl
length-lowest_bytes (suc width) n = ap suc (length-lowest_bytes width (n / 256))

length-octets : (order : Order) (width n : ℕ) → length (octets order width n) ≡ width
unfolding octets by_weight
length-octets Least width n = length-lowest_bytes width n
length-octets Greatest width n = length-reverse (lowest_bytes width n) ∙ length-lowest_bytes width n

length-written : (place : ℕ) (new bytes : List ℕ) → place + length new ≤ length bytes → length (written place new bytes) ≡ length bytes
unfolding written
length-written place new bytes fits =
    let front = length-take-le place bytes (omega arith) in
    let rest = length-drop (place + length new) bytes in
    rw (length-append, length-append, front, rest) (omega arith)

-- whether a field lies in so many bytes
abbrev lies_within : Class → ℕ → Field → Bool
lies_within class size f = nat_le ((place_in class f).0 + (place_in class f).1) size

both_true : (a b : Bool) → (a && b) ≡ true → (a ≡ true) × (b ≡ true)
both_true true b h = (refl, h)
both_true false b h = cc

length-laid : (class : Class) (order : Order) (size : ℕ) (fields : List Field) (numbers bytes : List ℕ) → list_all (lies_within class size) fields ≡ true → length bytes ≡ size → length (laid class order fields numbers bytes) ≡ size
unfolding written_in
length-laid class order size [] numbers bytes all len = len
length-laid class order size (f ∷ fields) [] bytes all len = len
length-laid class order size (f ∷ fields) (n ∷ numbers) bytes all len =
    let both = both_true (lies_within class size f) (list_all (lies_within class size) fields) all in
    let fits = leb-true ((place_in class f).0 + (place_in class f).1) size both.0 in
    let width = length-octets order (place_in class f).1 n in
    let kept = length-written (place_in class f).0 (octets order (place_in class f).1 n) bytes (omega arith) in
    length-laid class order size fields numbers (written (place_in class f).0 (octets order (place_in class f).1 n) bytes) both.1 (kept ∙ len)

pub length-phdr_bytes : (class : Class) (order : Order) (p : Phdr) → length (phdr_bytes class order p) ≡ phdr_size class
unfolding phdr_bytes record_bytes phdr_fields
length-phdr_bytes C32 order p = length-laid C32 order 32 phdr_fields (phdr_numbers p) (replicate 32 0) refl (length-replicate {A = ℕ} 32 0)
length-phdr_bytes C64 order p = length-laid C64 order 56 phdr_fields (phdr_numbers p) (replicate 56 0) refl (length-replicate {A = ℕ} 56 0)

pub length-shdr_bytes : (class : Class) (order : Order) (h : Shdr) → length (shdr_bytes class order h) ≡ shdr_size class
unfolding shdr_bytes record_bytes shdr_fields
length-shdr_bytes C32 order h = length-laid C32 order 40 shdr_fields (shdr_numbers h) (replicate 40 0) refl (length-replicate {A = ℕ} 40 0)
length-shdr_bytes C64 order h = length-laid C64 order 64 shdr_fields (shdr_numbers h) (replicate 64 0) refl (length-replicate {A = ℕ} 64 0)

length-ident : (class : Class) (order : Order) (pad : List ℕ) → length pad ≡ 7 → length (ident class order pad) ≡ 16
unfolding ident
length-ident class order pad seven = omega arith

fields_lie : (class : Class) → list_all (lies_within class (ehdr_size class)) ehdr_fields ≡ true
unfolding ehdr_fields
fields_lie C32 = refl
fields_lie C64 = refl

pub size_long : (class : Class) → 16 ≤ ehdr_size class
size_long C32 = lit≤ tt
size_long C64 = lit≤ tt

pub length-ehdr_bytes : (h : Ehdr) (pad : List ℕ) → length pad ≡ 7 → length (ehdr_bytes h pad) ≡ ehdr_size h.class
unfolding ehdr_bytes
length-ehdr_bytes h pad seven =
    let sixteen = length-ident h.class h.order pad seven in
    let long = size_long h.class in
    let rest = length-replicate {A = ℕ} (ehdr_size h.class - 16) 0 in
    let whole : length (ident h.class h.order pad ++ replicate (ehdr_size h.class - 16) 0) ≡ ehdr_size h.class = rw (length-append, sixteen, rest) (omega arith) in
    length-laid h.class h.order (ehdr_size h.class) ehdr_fields (ehdr_numbers h) (ident h.class h.order pad ++ replicate (ehdr_size h.class - 16) 0) (fields_lie h.class) whole

-- ---- Tables

length-flat_map : {X : Type 0} (f : X → List ℕ) (size : ℕ) → ((x : X) → length (f x) ≡ size) → (l : List X) → length (flat_map f l) ≡ length l * size
length-flat_map f size each [] = omega arith
length-flat_map f size each (x ∷ l) =
    let here = each x in
    let rest = length-flat_map f size each l in
    rw (length-append, here, rest) (omega arith)

pub length-phdrs_bytes : (class : Class) (order : Order) (phdrs : List Phdr) → length (phdrs_bytes class order phdrs) ≡ length phdrs * phdr_size class
unfolding phdrs_bytes
length-phdrs_bytes class order phdrs = length-flat_map (phdr_bytes class order) (phdr_size class) (length-phdr_bytes class order) phdrs

pub length-shdrs_bytes : (class : Class) (order : Order) (shdrs : List Shdr) → length (shdrs_bytes class order shdrs) ≡ length shdrs * shdr_size class
unfolding shdrs_bytes
length-shdrs_bytes class order shdrs = length-flat_map (shdr_bytes class order) (shdr_size class) (length-shdr_bytes class order) shdrs
