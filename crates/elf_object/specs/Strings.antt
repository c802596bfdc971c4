-- The string at an offset of a section's pieces, and the names that are such strings (gABI
-- chapter 4, "String Table", sh_name and st_name; elf_strptr).
use Rattle.std.specs.Prelude.{◌≡◌, ℕ, ◌-◌, ◌^◌, min, Bool, false, not, ◌==◌, ◌&&◌, List, [], ◌∷◌, drop, filter, slice_get, if◌then◌else◌, Option, Some, None, is_none, Result, Ok, Err}
use Rattle.std.specs.List.{list_any, list_all}
use Rattle.std.specs.Str.{bytes_eq}
use Rattle.elf_types.specs.declared.records.Kind.{Kind}
use Rattle.elf_types.specs.declared.records.Kind.TheVariants as kinds
use Rattle.elf_types.specs.declared.records.Sym.{Sym}
use Rattle.elf_types.specs.declared.errors.ElfError.{ElfError}
use Rattle.elf_types.specs.declared.errors.ElfError.TheVariants.{NotStrings, OutOfFile, NoString, Unended}
use Rattle.elf_types.specs.declared.constants.TheConstants.{SHT_STRTAB}
use Rattle.elf_types.specs.Answers.{refused_if, first_refusal, answered, err_of}
use Rattle.elf_ident.specs.elf_xlate.Translation.{items_kind}
use Rattle.strtab_build.specs.Table.{string_at}
use Rattle.elf_object.specs.Words.{Refusals}
use Rattle.elf_object.specs.Blocks.{Block, block_covers}
use Rattle.elf_object.specs.Object.{Object, Section, Piece, section_at, home_is_clean}
use Rattle.elf_object.specs.Answers.{no_section, same_kind}
use Rattle.elf_object.specs.Joined.{piece_blocks, pieces_end}
use Rattle.elf_object.specs.Due.{is_loaded, unless_refused, when_clean}
use Rattle.elf_object.specs.Calls.{Call}

-- ---- The string at an offset

-- the kind of the items that a piece of the section holds
abbrev pub kind_of_piece : Section → Piece → Kind
kind_of_piece c p = elim (p.own) [ None ↦ c.home.kind | Some items ↦ items_kind items ]

-- a section of type SHT_STRTAB, each piece of which holds bytes
unfoldable pub holds_strings : Section → Bool
holds_strings c =
    c.header.stype == SHT_STRTAB
    && list_all (λ p. same_kind (kind_of_piece c p) kinds.Bytes) c.pieces

-- the first piece that covers an offset of the section
unfoldable pub piece_over : Object → ℕ → ℕ → Option Block
piece_over o s offset = slice_get (filter (λ b. block_covers b offset) (piece_blocks o s)) 0

abbrev pub has_nul : List ℕ → Bool
has_nul bytes = list_any (λ b. b == 0) bytes

-- a piece's bytes from an offset of the section on
abbrev pub bytes_from : Block → ℕ → List ℕ
bytes_from b offset = drop (offset - b.at) b.bytes

-- no piece covers the offset: it is not below the size, or lies between two pieces. The size that
-- is carried is at most the greatest number of eight bytes.
abbrev pub no_string : Object → ℕ → ℕ → Option ElfError
no_string o s offset =
    refused_if
    (is_none (piece_over o s offset))
    (NoString offset (min (pieces_end o s) (2 ^ 64 - 1)))

-- no NUL follows in the piece
abbrev pub unended : Object → ℕ → ℕ → Option ElfError
unended o s offset =
    elim (piece_over o s offset) [
      | None ↦ None
      | Some b ↦ refused_if (not (has_nul (bytes_from b offset))) (Unended offset)
    ]

-- what is seen before a byte is read
unfoldable pub string_refusal_unread : Object → ℕ → ℕ → Option ElfError
string_refusal_unread o s offset = first_refusal
    (no_section o s
    ∷ refused_if (not (holds_strings (section_at o s))) (NotStrings s)
    ∷ refused_if (home_is_clean (section_at o s) && (section_at o s).home.out) (OutOfFile s)
    ∷ no_string o s offset
    ∷ [])

unfoldable pub string_refusal : Object → ℕ → ℕ → Option ElfError
string_refusal o s offset =
    first_refusal (string_refusal_unread o s offset ∷ unended o s offset ∷ [])

-- the bytes from the offset up to the first NUL
abbrev pub string_in : Object → ℕ → ℕ → List ℕ
string_in o s offset =
    elim (piece_over o s offset) [ None ↦ [] | Some b ↦ string_at b.bytes (offset - b.at) ]

-- elf_strptr
unfoldable pub string_answer : Object → ℕ → ℕ → Result (List ℕ) ElfError
string_answer o s offset = answered (string_refusal o s offset) (string_in o s offset)

-- it looks at bytes where they stand: it reads the home where its piece is clean, and wants memory
-- where that is not loaded
abbrev pub strptr : ℕ → ℕ → Call (List ℕ)
strptr s offset = record {
  answer = λ o. string_answer o s offset;
  after = λ o. o;
  reads = λ o. unless_refused (err_of (string_answer o s offset)) (when_clean o s);
  memory = λ o loaded held. home_is_clean (section_at o s) && not (is_loaded loaded s);
}

-- its refusals: in the bytes it meets that no NUL follows
abbrev pub strptr_refusals : Object → ℕ → ℕ → Refusals
strptr_refusals o s offset = record {
  unread = string_refusal_unread o s offset;
  early = string_refusal_unread o s offset;
  met = λ e. e ≡ Unended offset;
}

-- ---- Names

-- a name that can be read, or none
abbrev pub readable : Result (List ℕ) ElfError → Option (List ℕ)
readable (Ok name) = Some name
readable (Err e) = None

-- a section's name: the string at its sh_name in the section of the names. Without such a
-- section it is none.
unfoldable pub section_name : Object → ℕ → Option (List ℕ)
section_name o s =
    if o.header.shstrndx == 0 then None
    else readable (string_answer o o.header.shstrndx (section_at o s).header.name)

-- a symbol's name: the string at its st_name in the section to which its table links
unfoldable pub symbol_name : Object → ℕ → Sym → Option (List ℕ)
symbol_name o s x = readable (string_answer o (section_at o s).header.link x.name)

-- a name that is none equals nothing
abbrev pub is_name : List ℕ → Option (List ℕ) → Bool
is_name wanted None = false
is_name wanted (Some name) = bytes_eq name wanted

-- a name that is none is written as the empty one
abbrev pub or_empty_name : Option (List ℕ) → List ℕ
or_empty_name None = []
or_empty_name (Some name) = name
