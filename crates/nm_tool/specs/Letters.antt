-- The letter of a symbol: what it is, and where it is defined (POSIX nm, STDOUT; gABI chapter 4,
-- "Symbol Table", st_info and st_shndx; the letters i, u, v and V are GNU's).
use Rattle.std.specs.Prelude.{◌≡◌, ℕ, ◌+◌, ◌==◌, ◌&&◌, nat_lt, Bool, true, false, List, [], ◌∷◌, length, map, Option, Some, None, if◌then◌else◌}
use Rattle.std.specs.Str.{byte}
use Rattle.elf_types.specs.declared.records.Class.{Class}
use Rattle.elf_types.specs.declared.records.Shdr.{Shdr}
use Rattle.elf_types.specs.declared.records.Sym.{Sym}
use Rattle.elf_types.specs.Kinds.{has_flag}
use Rattle.elf_types.specs.Symbols.{has_bind, has_type, is_local}
use Rattle.elf_types.specs.declared.constants.TheConstants.{SHN_UNDEF, SHN_ABS, SHN_COMMON, SHT_NOBITS, SHF_WRITE, SHF_ALLOC, SHF_EXECINSTR, STB_WEAK, STB_GNU_UNIQUE, STT_OBJECT, STT_GNU_IFUNC}
use Rattle.elf_object.specs.Object.{Object, section_at}
use Rattle.tool_objects.specs.gelf_view.declared.symbols.SymPlace.{SymPlace}
use Rattle.tool_objects.specs.gelf_view.declared.symbols.SymPlace.TheVariants.{Special, Section}

-- ---- What a letter rests on

abbrev pub is_undefined : Option SymPlace → Bool
is_undefined None = false
is_undefined (Some (Special n)) = false
is_undefined (Some (Section n)) = n == SHN_UNDEF

-- ---- The letters

-- the letter of the first row whose test holds, and else the last one
abbrev pub first_letter : List (Bool × ℕ) → ℕ → ℕ
first_letter [] last = last
first_letter (row ∷ rows) last = if row.0 then row.1 else first_letter rows last

-- of a section that holds a symbol
unfoldable pub section_letter : Shdr → ℕ
section_letter h = first_letter
    ((has_flag SHF_EXECINSTR h, byte "T")
    ∷ (has_flag SHF_ALLOC h && h.stype == SHT_NOBITS, byte "B")
    ∷ (has_flag SHF_ALLOC h && has_flag SHF_WRITE h, byte "D")
    ∷ (has_flag SHF_ALLOC h, byte "R")
    ∷ [])
    (byte "N")

unfoldable pub special_letter : ℕ → ℕ
special_letter n =
    first_letter ((n == SHN_ABS, byte "A") ∷ (n == SHN_COMMON, byte "C") ∷ []) (byte "?")

-- of the place of a symbol; of one that no section has it is a question mark
unfoldable pub place_letter : Object → Option SymPlace → ℕ
place_letter o None = byte "?"
place_letter o (Some (Special n)) = special_letter n
place_letter o (Some (Section n)) =
    if nat_lt n (length o.sections) then section_letter (section_at o n).header else byte "?"

-- a small letter for a local symbol; a question mark stays
unfoldable pub cased : Bool → ℕ → ℕ
cased local letter = if local && not_asked letter then letter + 32 else letter
  where
    not_asked : ℕ → Bool
    not_asked c = if c == byte "?" then false else true

-- of a symbol whose place is this, by the letter of that
unfoldable pub letter_by : Sym → Option SymPlace → ℕ → ℕ
letter_by x place letter =
    let undefined = is_undefined place in
    let weak = has_bind STB_WEAK x in
    let object = has_type STT_OBJECT x in
    first_letter
    ((undefined && (weak && object), byte "v")
    ∷ (undefined && weak, byte "w")
    ∷ (undefined, byte "U")
    ∷ (has_bind STB_GNU_UNIQUE x, byte "u")
    ∷ (has_type STT_GNU_IFUNC x, byte "i")
    ∷ (weak && object, byte "V")
    ∷ (weak, byte "W")
    ∷ [])
    (cased (is_local x) letter)

unfoldable pub symbol_letter : Object → Sym → Option SymPlace → ℕ
symbol_letter o x place = letter_by x place (place_letter o place)

-- ---- What the rows want of an object besides its symbols

-- it has this class, and its sections have these headers
pub record HasHeaders (o : Object) (c : Class) (listed : List Shdr) : Type 0 where
  pub class : o.header.class ≡ c
  pub headers : map (λ s. s.header) o.sections ≡ listed
