-- Names in a table of names: each is read at its place. And names that are read: they have no NUL,
-- and are bytes.
use Rattle.std.proofs.Common.{◌≡◌, ◌≢◌, ℕ, ◌-◌, ◌<◌, ◌≤◌, Bool, true, false, not, cond, List, [], ◌∷◌, ◌++◌, length, drop, Option, Some, None, Ok, refl, sym, ap, ◌∙◌, subst, arith, ⊎_elim}
use Rattle.std.specs.Prelude.{All, Contains, filter, slice_get, ◌^◌, if◌then◌else◌, ◌==◌}
use Rattle.std.specs.List.{flat_map, take_while, prefix_len}
use Rattle.std.specs.Str.{bytes_eq}
use Rattle.std.proofs.lemmas.Bool.{cases_lt, eqb-false, or_right}
use Rattle.std.proofs.lemmas.List.{length-append, drop-append-le, drop_all}
use Rattle.std.proofs.lemmas.List.Elements.{All-nil, All-cons, All-head, All-tail, All-append, All-filter, All-take, All-drop}
use Rattle.std.proofs.lemmas.List.Folds.{list_any-append}
use Rattle.std.proofs.lemmas.List.Sums.{take_while-cons}
use Rattle.elf_types.specs.Answers.{answered}
use Rattle.elf_types.specs.Lists.{AreBytes}
use Rattle.elf_types.specs.declared.errors.ElfError.{ElfError}
use Rattle.elf_layout.specs.Layout.{rounded_up}
use Rattle.strtab_build.specs.Table.{others, distinct, strings, table, place_of, string_at}
use Rattle.strtab_build.specs.Names.{unclosed}
use Rattle.strtab_build.proofs.DistinctLemmas.{distinct-distinct}
use Rattle.strtab_build.proofs.TableLemmas.{table_is, table-distinct, string_at-place_of}
use Rattle.law_object.specs.elf_object.Blocks.{Block, block_covers, stacked}
use Rattle.law_object.specs.elf_object.Object.{Object, section_at}
use Rattle.law_object.specs.elf_object.Joined.{piece_blocks}
use Rattle.law_object.specs.elf_object.Strings.{piece_over, has_nul, string_in, string_refusal, string_answer, readable, section_name, or_empty_name}
use Rattle.law_object.specs.elf_object.Sections.{header_at}
use Rattle.law_rebuild.proofs.copy.SectionStrings.{IsStringSection, string_there}

-- ---- A name in a table

-- no NUL stands in it
abbrev pub HasNoNul : List ℕ → Type 0
HasNoNul name = All (λ b. b ≢ 0) name

-- behind the end of some bytes there is only the empty string
nothing_beyond : (name bytes : List ℕ) (offset : ℕ) → length bytes ≤ offset
    → string_at bytes offset ≡ name → 0 < length name → ⊥
unfolding string_at
nothing_beyond name bytes offset past is some =
    let gone = ap (take_while (λ b. not (b == 0))) (drop_all offset bytes past) in
    let none : length name ≡ 0 = ap length (sym is ∙ gone) in
    omega (arith, none, some)

-- its place is in the table
name_within : (name : List ℕ) (names : List (List ℕ)) → Contains names name → HasNoNul name
    → place_of name names < length (table names)
unfolding place_of table
name_within [] names there whole = omega arith
name_within (b ∷ bs) names there whole =
    ⊎_elim (λ below. below)
    (λ past. absurd (nothing_beyond (b ∷ bs) (table names) (place_of (b ∷ bs) names) past
    (string_at-place_of (b ∷ bs) names there whole) (omega arith)))
    (cases_lt (place_of (b ∷ bs) names) (length (table names)))

-- a table ends with a NUL
name_ended : (names : List (List ℕ)) (offset : ℕ) → offset < length (table names)
    → has_nul (drop offset (table names)) ≡ true
name_ended names offset within =
    let closed : table names ≡ unclosed (distinct names) ++ 0 ∷ [] =
    sym (table-distinct names) ∙ table_is (distinct names) (distinct-distinct names) in
    let size = ap length closed ∙ length-append (unclosed (distinct names)) (0 ∷ []) in
    let front : offset ≤ length (unclosed (distinct names)) = omega (arith, within, size) in
    ap (λ (l : List ℕ). has_nul (drop offset l)) closed
    ∙ ap has_nul (drop-append-le offset (unclosed (distinct names)) (0 ∷ []) front)
    ∙ list_any-append (λ b. b == 0) (drop offset (unclosed (distinct names))) (0 ∷ [])
    ∙ or_right (has_nul (drop offset (unclosed (distinct names)))) true refl

-- it is read at its place
name_there : (o : Object) (t : ℕ) (names : List (List ℕ)) (name : List ℕ)
    → IsStringSection o t (table names) → Contains names name → HasNoNul name
    → string_answer o t (place_of name names) ≡ Ok name
name_there o t names name has there whole =
    let within = name_within name names there whole in
    string_there o t (place_of name names) (table names) has within
    (name_ended names (place_of name names) within)
    ∙ ap (λ (l : List ℕ). Ok l) (string_at-place_of name names there whole)

-- the name of a section whose header has its place
pub named_there : (o : Object) (s : ℕ) (names : List (List ℕ)) (name : List ℕ)
    → IsStringSection o o.header.shstrndx (table names) → (o.header.shstrndx == 0) ≡ false
    → (header_at o s).name ≡ place_of name names → Contains names name → HasNoNul name
    → section_name o s ≡ Some name
unfolding section_name
named_there o s names name has some place there whole =
    ap (λ (b : Bool).
    let n : Option (List ℕ) = if b then None
    else readable (string_answer o o.header.shstrndx (header_at o s).name) in n) some
    ∙ ap (λ (offset : ℕ). readable (string_answer o o.header.shstrndx offset)) place
    ∙ ap readable (name_there o o.header.shstrndx names name has there whole)

-- ---- The bytes of a table

distinct_bytes : (names : List (List ℕ)) → All (λ name. AreBytes name) names
    → All (λ name. AreBytes name) (distinct names)
unfolding distinct
distinct_bytes [] each = All-nil (λ (name : List ℕ). AreBytes name)
distinct_bytes ([] ∷ names) each =
    distinct_bytes names (All-tail (λ (name : List ℕ). AreBytes name) [] names each)
distinct_bytes ((b ∷ bs) ∷ names) each =
    All-cons (λ (name : List ℕ). AreBytes name) (b ∷ bs) (others (b ∷ bs) (distinct names))
    (All-head (λ (name : List ℕ). AreBytes name) (b ∷ bs) names each)
    (All-filter (λ other. not (bytes_eq (b ∷ bs) other)) (λ (name : List ℕ). AreBytes name)
    (distinct names)
    (distinct_bytes names (All-tail (λ (name : List ℕ). AreBytes name) (b ∷ bs) names each)))

nul_is : AreBytes (0 ∷ [])
nul_is = All-cons (λ n. n < 2 ^ 8) 0 [] (omega arith) (All-nil (λ n. n < 2 ^ 8))

strings_bytes : (names : List (List ℕ)) → All (λ name. AreBytes name) names
    → AreBytes (flat_map (λ name. name ++ 0 ∷ []) names)
strings_bytes [] each = All-nil (λ n. n < 2 ^ 8)
strings_bytes (name ∷ names) each =
    All-append (λ n. n < 2 ^ 8) (name ++ 0 ∷ []) (flat_map (λ name. name ++ 0 ∷ []) names)
    (All-append (λ n. n < 2 ^ 8) name (0 ∷ [])
    (All-head (λ (l : List ℕ). AreBytes l) name names each) nul_is)
    (strings_bytes names (All-tail (λ (l : List ℕ). AreBytes l) name names each))

pub table_is_bytes : (names : List (List ℕ)) → All (λ name. AreBytes name) names
    → AreBytes (table names)
unfolding table strings
table_is_bytes names each =
    All-cons (λ n. n < 2 ^ 8) 0 (flat_map (λ name. name ++ 0 ∷ []) (distinct names)) (omega arith)
    (strings_bytes (distinct names) (distinct_bytes names each))

-- ---- Names that are read

front_whole : (l : List ℕ) → HasNoNul (take_while (λ b. not (b == 0)) l)
front_whole [] = All-nil (λ (b : ℕ). b ≢ 0)
front_whole (x ∷ l) =
    subst (λ (m : List ℕ). HasNoNul m) (sym (take_while-cons (λ b. not (b == 0)) x l))
    (by_test (x == 0) refl (front_whole l))
  where
    by_test : (b : Bool) → (x == 0) ≡ b → HasNoNul (take_while (λ b. not (b == 0)) l)
        → HasNoNul (cond (not b) (x ∷ take_while (λ b. not (b == 0)) l) [])
    by_test true is later = All-nil (λ (b : ℕ). b ≢ 0)
    by_test false is later =
        All-cons (λ (b : ℕ). b ≢ 0) x (take_while (λ b. not (b == 0)) l)
        (λ zero_is. eqb-false x 0 is zero_is) later

string_whole : (bytes : List ℕ) (offset : ℕ) → HasNoNul (string_at bytes offset)
unfolding string_at
string_whole bytes offset = front_whole (drop offset bytes)

bytes_of_string : (bytes : List ℕ) (offset : ℕ) → AreBytes bytes → AreBytes (string_at bytes offset)
unfolding string_at
bytes_of_string bytes offset are =
    All-take (λ n. n < 2 ^ 8) (prefix_len (λ b. not (b == 0)) (drop offset bytes))
    (drop offset bytes) (All-drop (λ n. n < 2 ^ 8) offset bytes are)

in_whole : (o : Object) (t offset : ℕ) → HasNoNul (string_in o t offset)
in_whole o t offset = by_over (piece_over o t offset)
  where
    by_over : (over : Option Block) → HasNoNul (elim over [
      | None ↦ []
      | Some b ↦ string_at b.bytes (offset - b.at)
    ])
    by_over None = All-nil (λ (b : ℕ). b ≢ 0)
    by_over (Some b) = string_whole b.bytes (offset - b.at)

abbrev first_block : List ℕ → Block
first_block bytes = record { at = rounded_up 0 1; bytes = bytes }

in_bytes : (o : Object) (t offset : ℕ) (bytes : List ℕ)
    → piece_blocks o t ≡ stacked 0 ((1, bytes) ∷ []) → AreBytes bytes
    → AreBytes (string_in o t offset)
unfolding piece_over stacked
in_bytes o t offset bytes blocks are =
    subst (λ (l : List Block). AreBytes
    (elim (slice_get (filter (λ b. block_covers b offset) l) 0) [
      | None ↦ []
      | Some b ↦ string_at b.bytes (offset - b.at)
    ])) (sym blocks)
    (by_test (block_covers (first_block bytes) offset))
  where
    by_test : (covers : Bool) → AreBytes (elim (slice_get
        (cond covers (first_block bytes ∷ []) []) 0) [
          | None ↦ []
          | Some b ↦ string_at b.bytes (offset - b.at)
        ])
    by_test true = bytes_of_string bytes (offset - rounded_up 0 1) are
    by_test false = All-nil (λ n. n < 2 ^ 8)

-- what holds of the strings of the section of the names holds of a name, or of the empty one
name_has : (P : List ℕ → Type 0) (o : Object) (s : ℕ) → P []
    → ((offset : ℕ) → P (string_in o o.header.shstrndx offset))
    → P (or_empty_name (section_name o s))
unfolding section_name string_answer
name_has P o s none each = by_index (o.header.shstrndx == 0)
  where
    by_refusal : (refusal : Option ElfError) (offset : ℕ) → P (or_empty_name
        (readable (answered refusal (string_in o o.header.shstrndx offset))))
    by_refusal None offset = each offset
    by_refusal (Some e) offset = none

    by_index : (b : Bool) → P (or_empty_name (if b then None
        else readable (string_answer o o.header.shstrndx (section_at o s).header.name)))
    by_index true = none
    by_index false =
        by_refusal (string_refusal o o.header.shstrndx (section_at o s).header.name)
        (section_at o s).header.name

pub name_whole : (o : Object) (s : ℕ) → HasNoNul (or_empty_name (section_name o s))
name_whole o s =
    name_has HasNoNul o s (All-nil (λ (b : ℕ). b ≢ 0))
    (λ offset. in_whole o o.header.shstrndx offset)

pub name_bytes : (o : Object) (s : ℕ) (bytes : List ℕ)
    → piece_blocks o o.header.shstrndx ≡ stacked 0 ((1, bytes) ∷ []) → AreBytes bytes
    → AreBytes (or_empty_name (section_name o s))
name_bytes o s bytes blocks are =
    name_has (λ l. AreBytes l) o s (All-nil (λ n. n < 2 ^ 8))
    (λ offset. in_bytes o o.header.shstrndx offset bytes blocks are)
