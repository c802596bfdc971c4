-- What an object is after an edit: each one changes lists and marks the part (elf_update,
-- ELF_F_DIRTY).
use Rattle.std.specs.Prelude.{◌≡◌, ℕ, IsTrue, Bool, true, false, ◌==◌, ◌&&◌, List, [], ◌∷◌, ◌++◌, length, slice_set, if◌then◌else◌, Some}
use Rattle.std.proofs.Math.ListN.{replicate}
use Rattle.elf_types.specs.declared.records.Ehdr.{Ehdr}
use Rattle.elf_types.specs.declared.records.Phdr.{Phdr}
use Rattle.elf_types.specs.declared.records.Shdr.{Shdr}
use Rattle.elf_types.specs.declared.records.Part.{Part}
use Rattle.elf_types.specs.declared.records.Part.TheVariants as part
use Rattle.elf_ident.specs.elf_xlate.declared.content.Items.{Items}
use Rattle.elf_ident.specs.elf_xlate.Translation.{items_kind, items_count}
use Rattle.elf_object.specs.Object.{Object, Section, Piece, section_at, piece_at, new_section, no_phdr}
use Rattle.elf_object.specs.Answers.{has_dirty, has_layout}

-- ---- One section, one piece

unfoldable pub with_section : Object → ℕ → Section → Object
with_section o s section = record o { sections = slice_set o.sections s section }

unfoldable pub with_piece_at : Object → ℕ → ℕ → Piece → Object
with_piece_at o s p piece =
    let c = section_at o s in
    with_section o s (record c { pieces = slice_set c.pieces p piece })

-- ---- Headers

-- a header with the nine fields that an update stores (gelf_update_ehdr)
unfoldable pub stored_ehdr : Ehdr → Ehdr → Ehdr
stored_ehdr old h = record old {
  osabi = h.osabi;
  abiversion = h.abiversion;
  etype = h.etype;
  machine = h.machine;
  entry = h.entry;
  phoff = h.phoff;
  shoff = h.shoff;
  flags = h.flags;
  shstrndx = h.shstrndx;
}

unfoldable pub with_ehdr : Object → Ehdr → Object
with_ehdr o h = record o { header = stored_ehdr o.header h; header_marked = true }

-- other program headers; the header has their number
unfoldable pub with_phdrs : Object → List Phdr → Object
with_phdrs o phdrs = record o {
  header = record o.header { phnum = length phdrs };
  phdrs = phdrs;
  segments_marked = true;
}

-- gelf_update_phdr
unfoldable pub with_phdr : Object → ℕ → Phdr → Object
with_phdr o i p = with_phdrs o (slice_set o.phdrs i p)

-- gelf_newphdr
unfoldable pub with_new_phdrs : Object → ℕ → Object
with_new_phdrs o n = with_phdrs o (replicate n no_phdr)

-- gelf_update_shdr
unfoldable pub with_shdr : Object → ℕ → Shdr → Object
with_shdr o s h = with_section o s (record (section_at o s) { header = h; marked = true })

-- ---- Sections

-- other sections; the header has their number
abbrev pub with_sections : Object → List Section → Object
with_sections o sections =
    record o { header = record o.header { shnum = length sections }; sections = sections }

-- elf_newscn: one section, and section 0 before it where there is none
unfoldable pub with_new_section : Object → Object
with_new_section o =
    with_sections
    o
    (o.sections
    ++ (if length o.sections == 0 then new_section ∷ new_section ∷ [] else new_section ∷ []))

-- the number of the section that elf_newscn makes
abbrev pub new_number : Object → ℕ
new_number o = if length o.sections == 0 then 1 else length o.sections

-- section 0 alone, where there is none
unfoldable pub with_null_section : Object → Object
with_null_section o = if length o.sections == 0 then with_sections o (new_section ∷ []) else o

-- ---- Pieces

abbrev pub own_piece : Items → ℕ → Piece
own_piece items align = record { own = Some items; align = align; marked = true }

-- elf_newdata
unfoldable pub with_new_piece : Object → ℕ → Items → ℕ → Object
with_new_piece o s items align =
    let c = section_at o s in
    with_section o s (record c { pieces = c.pieces ++ own_piece items align ∷ [] })

-- a piece becomes own with these items; it keeps its alignment
unfoldable pub with_own : Object → ℕ → ℕ → Items → Object
with_own o s p items = with_piece_at o s p (own_piece items (piece_at o s p).align)

-- a piece became own over a source that may not tell its bytes: with items of the stated kind, as
-- many as stated, and with the stated ones where the source tells
pub record BecomesOwn (told : Bool) (old new : Object) (s p : ℕ) (stated : Items) : Type 0 where
  pub left : Items
  pub object : new ≡ with_own old s p left
  pub kind : items_kind left ≡ items_kind stated
  pub count : items_count left ≡ items_count stated
  pub exact : IsTrue told → left ≡ stated

-- ---- Flags and fill

-- the dirty mark of a part; the section header table has that of the object
unfoldable pub with_mark : Object → Part → Object
with_mark o part.Object = record o { marked = true }
with_mark o part.Table = record o { marked = true }
with_mark o part.Header = record o { header_marked = true }
with_mark o part.Segments = record o { segments_marked = true }
with_mark o (part.Section s) = with_section o s (record (section_at o s) { marked = true })
with_mark o (part.Piece s p) = with_piece_at o s p (record (piece_at o s p) { marked = true })

-- whether ELF_F_LAYOUT counts for the part
abbrev pub is_whole : Part → Bool
is_whole part.Object = true
is_whole part.Table = true
is_whole _ = false

abbrev pub with_layout : Object → Bool → Object
with_layout o layout = record o { layout = layout }

-- elf_flagelf and its like, where no dirty mark is to be cleared
unfoldable pub with_flags : Object → Part → Bool → ℕ → Object
with_flags o part set bits =
    let dirtied = if set && has_dirty bits then with_mark o part else o in
    if is_whole part && has_layout bits then with_layout dirtied set else dirtied

unfoldable pub with_fill : Object → ℕ → Object
with_fill o byte = record o { fill = byte }
