-- The table of symbols, in the form of System V and GNU: a big-endian count of four bytes, so many
-- big-endian offsets of four bytes, and so many names, each with a NUL at its end.
use Rattle.std.specs.Prelude.{ℕ, zero, suc, ◌+◌, ◌*◌, ◌==◌, Bool, List, [], ◌∷◌, length, take, drop, Option, Some, None, Result, Ok, Err, position, nat_lt, nat_le, if◌then◌else◌}
use Rattle.std.specs.Int.{w32, from_be_bytes}
use Rattle.elf_types.specs.declared.errors.ElfError.{ElfError}
use Rattle.elf_types.specs.declared.errors.ElfError.TheVariants.{BadMember}
use Rattle.elf_types.specs.Answers.{or_refused, ◌>>=◌}
use Rattle.ar_members.specs.declared.headers.TheConstants.{HEADER_LEN, FIRST}
use Rattle.ar_members.specs.declared.headers.Header.{Header}
use Rattle.ar_members.specs.declared.symbols.ArSym.{ArSym}
use Rattle.ar_members.specs.declared.names.NameKind.{NameKind}
use Rattle.ar_members.specs.declared.names.NameKind.TheVariants.{Symbols, LongNames, Symbols64, Long, Short}
use Rattle.ar_members.specs.Names.{kind_of_name}
use Rattle.ar_members.specs.Headers.{header_at, name_field, body_at}

-- the refusal of a bad table of symbols, which is the first member
abbrev pub bad_table : ElfError
bad_table = BadMember FIRST

-- the number of the first four bytes
unfoldable pub be_word : List ℕ → ℕ
be_word bytes = from_be_bytes w32 (take 4 bytes)

-- the end of a name
abbrev pub is_nul : ℕ → Bool
is_nul b = b == 0

-- so many symbols; a name without an end is refused
abbrev pub symbols_from : ℕ → List ℕ → List ℕ → Result (List ArSym) ElfError
symbols_from zero offsets names = Ok []
symbols_from (suc more) offsets names = do
  end ← or_refused (position is_nul names) bad_table
  rest ← symbols_from more (drop 4 offsets) (drop (end + 1) names)
  Ok (record { at = be_word offsets; name = take end names } ∷ rest)

-- the symbols of the offsets and names that follow a count
abbrev pub symbols_after : ℕ → List ℕ → Result (List ArSym) ElfError
symbols_after count rest =
    if nat_lt (length rest) (4 * count) then Err bad_table
    else symbols_from count (take (4 * count) rest) (drop (4 * count) rest)

-- the symbols of a table, which is bad where it does not begin as one; more bytes may follow
unfoldable pub symbols_of : List ℕ → Result (List ArSym) ElfError
symbols_of table =
    if nat_lt (length table) 4 then Err bad_table else symbols_after (be_word table) (drop 4 table)

-- the symbols of the first member, by the kind of its name: only one of the name / is a table
abbrev pub symbols_by : List ℕ → Option NameKind → Result (List ArSym) ElfError
symbols_by body None = Err bad_table
symbols_by body (Some Symbols) = symbols_of body
symbols_by body (Some LongNames) = Ok []
symbols_by body (Some Symbols64) = Ok []
symbols_by body (Some (Long from)) = Err bad_table
symbols_by body (Some Short) = Ok []

-- the symbols of the first member, by its header
abbrev pub first_symbols : List ℕ → Header → Result (List ArSym) ElfError
first_symbols bytes header =
    symbols_by (body_at bytes FIRST header.numbers.size) (kind_of_name (name_field header))

-- the symbols of an archive, whose first header or table may be bad; one without a first member has
-- none
unfoldable pub arsyms : List ℕ → Result (List ArSym) ElfError
arsyms bytes =
    if nat_le (length bytes) FIRST then Ok [] else (header_at bytes FIRST >>= first_symbols bytes)

-- how many bytes are asked for: the first header, and the body of a table of symbols
abbrev pub table_asks : Option NameKind → ℕ → ℕ
table_asks (Some Symbols) size = size
table_asks _ size = 0

abbrev pub first_asks : Header → ℕ
first_asks header = table_asks (kind_of_name (name_field header)) header.numbers.size

abbrev pub symbols_due_by : Result Header ElfError → ℕ
symbols_due_by (Ok header) = HEADER_LEN + first_asks header
symbols_due_by (Err e) = HEADER_LEN

unfoldable pub symbols_due : List ℕ → ℕ
symbols_due bytes =
    if nat_le (length bytes) FIRST then 0 else symbols_due_by (header_at bytes FIRST)
