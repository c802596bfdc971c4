-- The image made anew with the sections that are kept: strip and copy.
use Rattle.std.specs.Prelude.{ℕ, ◌-◌, ◌^◌, Bool, true, not, ◌==◌, ◌&&◌, ◌||◌, nat_lt, List, [], ◌∷◌, length, map, if◌then◌else◌, Option, None, Result}
use Rattle.std.specs.List.{list_any}
use Rattle.elf_types.specs.Answers.{refused_if, first_refusal, answered, ◌>>=◌}
use Rattle.elf_types.specs.declared.records.Shdr.{Shdr}
use Rattle.elf_types.specs.declared.errors.ElfError.{ElfError}
use Rattle.elf_types.specs.declared.errors.ElfError.TheVariants.{TooLarge}
use Rattle.elf_types.specs.declared.constants.TheConstants.{SHT_STRTAB}
use Rattle.hash_model.specs.elf_xlate.declared.content.Items.{Items}
use Rattle.hash_model.specs.elf_xlate.declared.content.Items.TheVariants as items
use Rattle.hash_model.specs.strtab_build.Table.{table, place_of}
use Rattle.hash_model.specs.elf_object.Object.{Object, Section, section_at, new_section, no_home, occupies_file}
use Rattle.hash_model.specs.elf_object.Answers.{items_at, words_of, raw_refusal, data_refusal}
use Rattle.hash_model.specs.elf_object.Steps.{with_ehdr, with_phdrs, with_sections, own_piece}
use Rattle.hash_model.specs.elf_object.Calls.{newphdr_refusal, update_ehdr_refusal}
use Rattle.hash_model.specs.elf_object.Strings.{section_name, or_empty_name}
use Rattle.hash_model.specs.elf_object.Sections.{is_allocated, header_at, is_among}
use Rattle.rebuild_model.specs.Removed.{removed_sections, linking_to}
use Rattle.rebuild_model.specs.Followed.{renumbering, kept_sections, kept_from_1, followed, followed_header, followed_group, followed_syms, followed_words, symbols_follow, members_follow, indexes_follow, words_for, syms_in}
use Rattle.rebuild_model.specs.Arranged.{Rebuilt, tail_of, over_base, arranged}

-- ---- The table of the names

-- a string table that can be read, is not allocated, and to which no kept section links
unfoldable pub has_names_alone : Object → List ℕ → ℕ → Bool
has_names_alone o removed s =
    (header_at o s).stype == SHT_STRTAB
    && not (is_allocated (header_at o s))
    && not ((section_at o s).home.out)
    && not (list_any (is_among (kept_from_1 o removed)) (linking_to o s))

-- whether the string index names such a section: it is then made anew
unfoldable pub renews_names : Object → List ℕ → Bool
renews_names o removed =
    is_among (kept_from_1 o removed) o.header.shstrndx
    && has_names_alone o removed o.header.shstrndx

-- the names of the kept sections from 1 on
unfoldable pub kept_names : Object → List ℕ → List (List ℕ)
kept_names o removed = map (λ s. or_empty_name (section_name o s)) (kept_from_1 o removed)

-- ---- A section of the new image

-- an object's section, which elf_newscn and elf_newdata made: with its bytes where it has any in
-- the file
unfoldable pub made_section : Shdr → Items → Section
made_section h items = record {
  header = h;
  home = no_home;
  raw = [];
  pieces = if occupies_file h then own_piece items 1 ∷ [] else [];
  marked = true;
}

-- the items that follow, and else the bytes as they are
unfoldable pub kept_items : Object → List ℕ → ℕ → Items
kept_items o removed s =
    let m = renumbering o removed in
    if symbols_follow o s then items.Sym (followed_syms m (words_for o removed s) (syms_in o s))
    else (if members_follow o s then items.Word (followed_group m (words_of (items_at o s 0)))
    else (if indexes_follow o removed s
    then items.Word (followed_words m (syms_in o (header_at o s).link) (words_of (items_at o s 0)))
    else items.Bytes (section_at o s).raw))

-- the table of the names where it is made anew
unfoldable pub rebuilt_items : Object → List ℕ → ℕ → Items
rebuilt_items o removed s =
    if renews_names o removed && s == o.header.shstrndx
    then items.Bytes (table (kept_names o removed))
    else kept_items o removed s

unfoldable pub rebuilt_name : Object → List ℕ → ℕ → ℕ
rebuilt_name o removed s =
    if renews_names o removed
    then place_of (or_empty_name (section_name o s)) (kept_names o removed)
    else (header_at o s).name

unfoldable pub rebuilt_header : Object → List ℕ → ℕ → Shdr
rebuilt_header o removed s =
    record (followed_header (renumbering o removed) (header_at o s)) {
      name = rebuilt_name o removed s;
    }

-- section 0 has a header of zeros
unfoldable pub rebuilt_section : Object → List ℕ → ℕ → Section
rebuilt_section o removed s =
    if s == 0 then new_section
    else made_section (rebuilt_header o removed s) (rebuilt_items o removed s)

-- ---- The new image

-- an object with the stored fields of a header, another string index, the program headers and
-- these sections. The program headers are made by gelf_newphdr, also where there are none, and so
-- they are marked.
unfoldable pub assembled : Object → Object → ℕ → List Section → Object
assembled empty o index sections =
    with_ehdr
    (with_phdrs (with_sections empty sections) o.phdrs)
    (record o.header { shstrndx = index })

unfoldable pub rebuilt_sections : Object → List ℕ → List Section
rebuilt_sections o removed = map (rebuilt_section o removed) (kept_sections o removed)

unfoldable pub rebuilt_index : Object → List ℕ → ℕ
rebuilt_index o removed = followed (renumbering o removed) o.header.shstrndx

unfoldable pub rebuilt_tail : Object → List ℕ → Option ℕ
rebuilt_tail o removed = tail_of o (map (section_at o) (kept_sections o removed))

unfoldable pub rebuilt_object : Object → List ℕ → Object
rebuilt_object o removed =
    assembled
    (over_base o (rebuilt_tail o removed))
    o
    (rebuilt_index o removed)
    (rebuilt_sections o removed)

-- ---- Refusals

-- its items follow
abbrev pub items_follow : Object → List ℕ → ℕ → Bool
items_follow o removed s = symbols_follow o s || members_follow o s || indexes_follow o removed s

-- of a kept section: its raw bytes, and then its items where they follow
unfoldable pub kept_refusal : Object → List ℕ → ℕ → Option ElfError
kept_refusal o removed s = first_refusal
    (raw_refusal o s
    ∷ (if items_follow o removed s then data_refusal o s 0 else None)
    ∷ [])

-- a table of so many bytes that four of them do not hold their number
unfoldable pub table_refusal : List (List ℕ) → Option ElfError
table_refusal names = refused_if (nat_lt (2 ^ 32 - 1) (length (table names))) TooLarge

-- of the string index of an object with so many sections, as gelf_update_ehdr refuses it
unfoldable pub index_refusal : Object → List Section → ℕ → Option ElfError
index_refusal o sections index =
    update_ehdr_refusal (with_sections o sections) (record o.header { shstrndx = index })

unfoldable pub rebuild_refusal : Object → List ℕ → Option ElfError
rebuild_refusal o removed = first_refusal
    (newphdr_refusal (length o.phdrs)
    ∷ first_refusal (map (kept_refusal o removed) (kept_from_1 o removed))
    ∷ index_refusal o (rebuilt_sections o removed) (rebuilt_index o removed)
    ∷ (if renews_names o removed then table_refusal (kept_names o removed) else None)
    ∷ [])

-- the object without the removed sections, or the first refusal; the last one is that of its places
unfoldable pub rebuilt : Object → List ℕ → Result Rebuilt ElfError
rebuilt o removed =
    answered
    (rebuild_refusal o removed)
    (record { object = rebuilt_object o removed; tail = rebuilt_tail o removed })
    >>= arranged

-- what strip makes of an object
unfoldable pub stripped : Bool → List (List ℕ) → Object → Result Rebuilt ElfError
stripped debug_only names o = rebuilt o (removed_sections debug_only names o)
