-- What of the stripped half stands before the tail of what the two halves are combined to.
use Rattle.std.proofs.Common.{◌≡◌, ℕ, zero, suc, ◌+◌, ◌*◌, ◌<◌, ◌≤◌, min, Bool, true, not, ◌&&◌, List, [], ◌∷◌, ◌++◌, length, get_or, Ok, refl, ap, ◌∙◌, arith}
use Rattle.std.specs.Prelude.{if◌then◌else◌, ◌==◌, map}
use Rattle.std.proofs.lemmas.Bool.{ne_eqb}
use Rattle.std.proofs.lemmas.List.{get_or-map}
use Rattle.elf_types.specs.declared.records.Shdr.{Shdr}
use Rattle.elf_xlate.specs.Headers.{ehdr_size, phdr_size}
use Rattle.elf_object.specs.Object.{Object, Section, absent_section, section_at, occupies_file}
use Rattle.elf_object.specs.Open.{home_of, opened_section, opened}
use Rattle.elf_object.specs.Sections.{is_allocated, greatest, header_at}
use Rattle.rebuild_model.specs.Arranged.{segment_end, loaded_end, base_end}
use Rattle.law_split.proofs.Whole.{section_opened, home_opened}

at_most_greatest : (l : List ℕ) (i : ℕ) → get_or l i 0 ≤ greatest l
unfolding greatest
at_most_greatest [] i = omega arith
at_most_greatest (n ∷ l) zero = omega arith
at_most_greatest (n ∷ l) (suc i) = omega (arith, at_most_greatest l i)

later_greatest : (l m : List ℕ) → greatest m ≤ greatest (l ++ m)
unfolding greatest
later_greatest [] m = omega arith
later_greatest (n ∷ l) m = omega (arith, later_greatest l m)

-- what a base reaches to
abbrev listed : Object → List Section → List ℕ
listed o kept =
    ehdr_size o.header.class
    ∷ (o.header.phoff + length o.phdrs * phdr_size o.header.class)
    ∷ (map segment_end o.phdrs ++ map loaded_end kept)

below_both : (n a b : ℕ) → n ≤ a → n ≤ b → n ≤ min a b
below_both n a b first second = omega (arith, first, second)

-- the ELF header, and the program headers
pub header_before : (o : Object) (kept : List Section)
    → ehdr_size o.header.class ≤ length o.base → ehdr_size o.header.class ≤ base_end o kept
unfolding base_end
header_before o kept inside =
    let least : ehdr_size o.header.class ≤ greatest (listed o kept) =
    at_most_greatest (listed o kept) 0 in
    below_both (ehdr_size o.header.class) (length o.base) (greatest (listed o kept)) inside least

pub segments_before : (o : Object) (kept : List Section)
    → o.header.phoff + length o.phdrs * phdr_size o.header.class ≤ length o.base
    → o.header.phoff + length o.phdrs * phdr_size o.header.class ≤ base_end o kept
unfolding base_end
segments_before o kept inside =
    let least : o.header.phoff + length o.phdrs * phdr_size o.header.class
    ≤ greatest (listed o kept) =
    at_most_greatest (listed o kept) 1 in
    below_both (o.header.phoff + length o.phdrs * phdr_size o.header.class) (length o.base)
    (greatest (listed o kept)) inside least

-- an allocated home that is not empty
home_before : (o : Object) (kept : List Section) (t n : ℕ) → t < length kept
    → loaded_end (get_or kept t absent_section) ≡ n → n ≤ length o.base → n ≤ base_end o kept
unfolding base_end
home_before o kept t n below end inside =
    let at : get_or (map loaded_end kept) t 0 ≡ n =
    get_or-map loaded_end kept t absent_section 0 below ∙ end in
    let here = at_most_greatest (map loaded_end kept) t in
    let later = later_greatest (map segment_end o.phdrs) (map loaded_end kept) in
    let front : greatest (map segment_end o.phdrs ++ map loaded_end kept)
    ≤ greatest (listed o kept) =
    later_greatest
    (ehdr_size o.header.class
    ∷ (o.header.phoff + length o.phdrs * phdr_size o.header.class) ∷ [])
    (map segment_end o.phdrs ++ map loaded_end kept) in
    below_both n (length o.base) (greatest (listed o kept)) inside
    (omega (arith, at, here, later, front))

loaded_end_is : (c : Section) (at len : ℕ) → is_allocated c.header ≡ true → c.home.at ≡ at
    → c.home.len ≡ len → 0 < len → loaded_end c ≡ at + len
unfolding loaded_end
loaded_end_is c at len allocated at_is len_is some =
    ap (λ (b : Bool). if b && not (c.home.len == 0) then c.home.at + c.home.len else 0) allocated
    ∙ ap (λ (b : Bool). if not b then c.home.at + c.home.len else 0)
    (ne_eqb c.home.len 0 (λ none. omega (arith, len_is, some, none)))
    ∙ ap (λ (n : ℕ). n + c.home.len) at_is
    ∙ ap (λ (n : ℕ). at + n) len_is

at_opened : (image : List ℕ) (h : Shdr) → (opened_section image h).home.at ≡ h.offset
unfolding opened_section home_of
at_opened image h = refl

-- an allocated section that has bytes
pub section_before : (out : List ℕ) (o : Object) (t : ℕ) → opened out ≡ Ok o
    → t < length o.sections → is_allocated (header_at o t) ≡ true
    → occupies_file (header_at o t) ≡ true → 0 < (header_at o t).size
    → (header_at o t).offset + (header_at o t).size ≤ length o.base
    → (header_at o t).offset + (header_at o t).size ≤ base_end o o.sections
unfolding section_at
section_before out o t e below allocated filled some inside =
    let c = get_or o.sections t absent_section in
    let home : get_or o.sections t absent_section
    ≡ opened_section out (get_or o.sections t absent_section).header =
    section_opened out o t e below in
    home_before o o.sections t (c.header.offset + c.header.size) below
    (loaded_end_is c c.header.offset c.header.size allocated
    (ap (λ (x : Section). x.home.at) home ∙ at_opened out c.header)
    (ap (λ (x : Section). x.home.len) home ∙ home_opened out c.header
    ∙ ap (λ (b : Bool). if b then c.header.size else 0) filled)
    some) inside
