-- Which sections strip removes (strip(1) of the development tools). Section 0 and the section of
-- the names stay. Each step looks at what the steps before it removed.
use Rattle.std.specs.Prelude.{ℕ, Bool, false, not, ◌==◌, ◌&&◌, ◌||◌, nat_eq, List, [], ◌∷◌, length, filter, codes, if◌then◌else◌, Option, Some, None}
use Rattle.std.specs.List.{list_any, list_all, starts_with}
use Rattle.std.specs.Str.{bytes_eq}
use Rattle.elf_types.specs.declared.constants.TheConstants.{SHT_SYMTAB, SHT_STRTAB, SHT_GROUP, SHT_SYMTAB_SHNDX}
use Rattle.hash_model.specs.elf_object.Object.{Object}
use Rattle.hash_model.specs.elf_object.Layout.{section_numbers}
use Rattle.hash_model.specs.elf_object.Strings.{section_name, is_name}
use Rattle.hash_model.specs.elf_object.Sections.{is_allocated, is_relocations, header_at, is_among}

-- the sections that may be removed
unfoldable pub removable : Object → List ℕ
removable o = filter (λ s. not (s == o.header.shstrndx)) (section_numbers o)

-- a step: what was removed before, and what the step finds by that
unfoldable pub with_found : Object → (List ℕ → ℕ → Bool) → List ℕ → List ℕ
with_found o finds removed = filter (λ s. is_among removed s || finds removed s) (removable o)

-- ---- Step 1: by name

-- the sections of debug data that compilers make
unfoldable pub is_debug_name : List ℕ → Bool
is_debug_name name =
    list_any (starts_with nat_eq name) (codes ".debug" ∷ codes ".zdebug" ∷ codes ".stab" ∷ [])
    || list_any (bytes_eq name) (codes ".line" ∷ codes ".gdb_index" ∷ [])

abbrev pub has_debug_name : Option (List ℕ) → Bool
has_debug_name None = false
has_debug_name (Some name) = is_debug_name name

-- one of the names is the section's
unfoldable pub is_named : List (List ℕ) → Object → ℕ → Bool
is_named names o s = list_any (λ name. is_name name (section_name o s)) names

unfoldable pub is_debug_data : Object → ℕ → Bool
is_debug_data o s = not (is_allocated (header_at o s)) && has_debug_name (section_name o s)

-- ---- Step 2: relocations of a removed section

unfoldable pub relocates_removed : Object → List ℕ → ℕ → Bool
relocates_removed o removed s =
    is_relocations (header_at o s)
    && not (is_allocated (header_at o s))
    && is_among removed (header_at o s).info

-- ---- Step 3: symbol tables that nothing needs

-- a section that is left, and whose symbols are those of a table
unfoldable pub needs_symbols : Object → List ℕ → ℕ → ℕ → Bool
needs_symbols o removed table s =
    (is_relocations (header_at o s) || (header_at o s).stype == SHT_GROUP)
    && not (is_among removed s)
    && (header_at o s).link == table

unfoldable pub is_unneeded_symtab : Object → List ℕ → ℕ → Bool
is_unneeded_symtab o removed s =
    (header_at o s).stype == SHT_SYMTAB
    && not (is_allocated (header_at o s))
    && not (list_any (needs_symbols o removed s) (section_numbers o))

-- ---- Step 4: extended indexes of a removed symbol table

unfoldable pub indexes_removed : Object → List ℕ → ℕ → Bool
indexes_removed o removed s =
    (header_at o s).stype == SHT_SYMTAB_SHNDX && is_among removed (header_at o s).link

-- ---- Step 5: string tables of removed sections alone

-- the sections that link to one; section 0 links to nothing
unfoldable pub linking_to : Object → ℕ → List ℕ
linking_to o s = filter (λ user. (header_at o user).link == s) (section_numbers o)

unfoldable pub has_removed_users : Object → List ℕ → ℕ → Bool
has_removed_users o removed s =
    (header_at o s).stype == SHT_STRTAB
    && not (is_allocated (header_at o s))
    && not (length (linking_to o s) == 0)
    && list_all (is_among removed) (linking_to o s)

-- ---- The steps in their order

-- steps 2, 4 and 5, and step 3 between them where symbol tables are to go too
unfoldable pub with_followers : Object → Bool → List ℕ → List ℕ
with_followers o symbols_too removed =
    let relocations = with_found o (relocates_removed o) removed in
    let tables =
    if symbols_too then with_found o (is_unneeded_symtab o) relocations else relocations in
    with_found o (has_removed_users o) (with_found o (indexes_removed o) tables)

-- what strip removes, ascending: with debug_only symbol tables stay
unfoldable pub removed_sections : Bool → List (List ℕ) → Object → List ℕ
removed_sections debug_only names o =
    with_followers
    o
    (not debug_only)
    (with_found o (λ before s. is_named names o s || is_debug_data o s) [])

-- what copy removes: the sections of these names, and what goes with them
unfoldable pub removed_by_name : List (List ℕ) → Object → List ℕ
removed_by_name names o = with_followers o false (with_found o (λ before s. is_named names o s) [])
