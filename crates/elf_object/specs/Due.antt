-- What is held of an object, and how many bytes a call may ask its source for. A section is loaded
-- where its home's bytes are held; its home piece holds its items where they are held in memory
-- form.
use Rattle.std.specs.Prelude.{ℕ, ◌+◌, Bool, true, false, not, ◌==◌, ◌&&◌, ◌||◌, List, [], ◌∷◌, ◌++◌, length, sum_by, count_by, filter, slice_get, Option, Some, is_some, is_none, unwrap_or, if◌then◌else◌}
use Rattle.std.specs.List.{range_with_len, list_any}
use Rattle.elf_types.specs.declared.errors.ElfError.{ElfError}
use Rattle.elf_types.specs.declared.errors.ElfError.TheVariants.{NoSection, NoData, WrongKind, NotStrings, OutOfFile, Ragged}
use Rattle.elf_object.specs.Blocks.{is_covered}
use Rattle.elf_object.specs.Object.{Object, section_at, piece_at, has_file_bytes, home_is_clean, is_dirty}
use Rattle.elf_object.specs.Layout.{placed}
use Rattle.elf_object.specs.Image.{part_blocks, kept_base}
use Rattle.elf_object.specs.Refusal.{refusal}
use Rattle.elf_object.specs.Changed.{is_moved}

-- ---- What is held

-- whether a section is loaded, by a list that tells it of each section
unfoldable pub is_loaded : List Bool → ℕ → Bool
is_loaded loaded s = unwrap_or (slice_get loaded s) false

-- whether a piece holds its items: an own one does; the clean home piece does where a list says so
-- of its section
unfoldable pub holds_items : Object → List Bool → ℕ → ℕ → Bool
holds_items o held s p = is_some (piece_at o s p).own || unwrap_or (slice_get held s) false

-- ---- What a call is due

-- the bytes of a home that is not loaded and lies in the file
unfoldable pub home_due : Object → List Bool → ℕ → ℕ
home_due o loaded s =
    if is_loaded loaded s || (section_at o s).home.out then 0 else (section_at o s).home.len

unfoldable pub homes_due : Object → List Bool → List ℕ → ℕ
homes_due o loaded sections = sum_by (home_due o loaded) sections

-- refused before a home is read
abbrev pub is_refused_unread : Option ElfError → Bool
is_refused_unread (Some (NoSection i n)) = true
is_refused_unread (Some (NoData i n)) = true
is_refused_unread (Some (WrongKind held)) = true
is_refused_unread (Some (NotStrings s)) = true
is_refused_unread (Some (OutOfFile s)) = true
is_refused_unread (Some (Ragged s)) = true
is_refused_unread _ = false

-- the homes that a call reads, and none where it is refused before it reads
abbrev pub unless_refused : Option ElfError → List ℕ → List ℕ
unless_refused refusal sections = if is_refused_unread refusal then [] else sections

-- the section, where its home piece is clean
unfoldable pub when_clean : Object → ℕ → List ℕ
when_clean o s = if home_is_clean (section_at o s) then s ∷ [] else []

-- the section, where that piece is clean
unfoldable pub when_piece_clean : Object → ℕ → ℕ → List ℕ
when_piece_clean o s p = if is_none (piece_at o s p).own then s ∷ [] else []

-- the sections of both lists; those of the first count once
unfoldable pub with_others : List ℕ → List ℕ → List ℕ
with_others sections others = sections ++ filter (λ s. not (list_any (λ t. t == s) sections)) others

-- all sections
abbrev pub all_sections : Object → List ℕ
all_sections o = range_with_len 0 (length o.sections)

-- of an update of a dirty object, which is due so many bytes: none where it is refused as a home
-- that is not in the file, which is seen before a read
abbrev pub unless_unread : Object → ℕ → ℕ
unless_unread o bytes = if is_refused_unread (refusal o) then 0 else bytes

-- the sections whose homes an update hands on as they are
abbrev pub clean_homes : Object → List ℕ
clean_homes o =
    filter
    (λ s. has_file_bytes s (section_at o s) && home_is_clean (section_at o s))
    (all_sections o)

-- of an update that hands the image to a sink: the base where nothing is dirty, else the homes of
-- clean pieces and with ELF_F_LAYOUT what stays of the base
unfoldable pub update_to_due : Object → List Bool → ℕ
update_to_due o loaded =
    if is_dirty o
    then unless_unread o
    (homes_due o loaded (clean_homes o)
    + count_by (λ k. not (is_covered (part_blocks (placed o)) k)) (range_with_len 0 (kept_base o)))
    else length o.base

-- of an update in place: the homes of the sections that move
unfoldable pub update_in_place_due : Object → List Bool → ℕ
update_in_place_due o loaded =
    if is_dirty o
    then unless_unread o (homes_due o loaded (filter (is_moved o) (all_sections o)))
    else 0
