-- The members of an archive (ar.h, and the archive format of System V and GNU): a line that tells
-- the format, and then headers of 60 bytes at even places, each with its body.
use Rattle.std.specs.Prelude.{ℕ, zero, suc, ◌+◌, List, [], ◌∷◌, length, Option, Some, None, Result, Ok, Err, nat_le, if◌then◌else◌}
use Rattle.std.specs.List.{filter_map}
use Rattle.elf_types.specs.declared.errors.ElfError.{ElfError}
use Rattle.elf_types.specs.declared.errors.ElfError.TheVariants.{BadMember}
use Rattle.elf_types.specs.Answers.{or_refused, ◌>>=◌}
use Rattle.ar_members.specs.declared.headers.TheConstants.{HEADER_LEN, FIRST}
use Rattle.ar_members.specs.declared.headers.ArHdr.{ArHdr}
use Rattle.ar_members.specs.declared.headers.Header.{Header}
use Rattle.ar_members.specs.declared.numbers.Numbers.{Numbers}
use Rattle.ar_members.specs.declared.names.NameKind.{NameKind}
use Rattle.ar_members.specs.declared.names.NameKind.TheVariants.{Symbols, LongNames, Symbols64, Long, Short}
use Rattle.ar_members.specs.Names.{kind_of_name, short_name_of, long_name_of}
use Rattle.ar_members.specs.Headers.{header_at, name_field, body_at, next_at}

-- what stands at a place: a member, or None for the three special names; the long names from there
-- on; the place of the next header; and how many bytes of the body a walk has to know
pub record Entry : Type 0 where
  pub member : Option ArHdr
  pub names : List ℕ
  pub next : ℕ
  pub asked : ℕ

-- the header of a member, as it is shown
abbrev pub shown_header : ℕ → Numbers → List ℕ → ArHdr
shown_header at numbers name = record {
  at = at;
  body = at + HEADER_LEN;
  size = numbers.size;
  name = name;
  date = numbers.date;
  uid = numbers.uid;
  gid = numbers.gid;
  mode = numbers.mode;
}

-- a member, a table of symbols that is passed over, and a table of long names, before the next
-- header
abbrev pub member_entry : List ℕ → ℕ → ArHdr → Entry
member_entry names next header =
    record { member = Some header; names = names; next = next; asked = 0 }

abbrev pub passed_entry : List ℕ → ℕ → Entry
passed_entry names next = record { member = None; names = names; next = next; asked = 0 }

abbrev pub names_entry : List ℕ → ℕ → ℕ → Entry
names_entry more next asked = record { member = None; names = more; next = next; asked = asked }

-- the entry of a header by the kind of its name, which is bad where a long name is not there
abbrev pub entry_by : List ℕ → List ℕ → ℕ → Header → NameKind → Result Entry ElfError
entry_by bytes names at header Symbols = Ok (passed_entry names (next_at at header.numbers.size))
entry_by bytes names at header Symbols64 = Ok (passed_entry names (next_at at header.numbers.size))
entry_by bytes names at header LongNames =
    let size = header.numbers.size in
    Ok (names_entry (body_at bytes at size) (next_at at size) size)
entry_by bytes names at header (Long from) = do
  name ← or_refused (long_name_of names from) (BadMember at)
  Ok (member_entry names (next_at at header.numbers.size) (shown_header at header.numbers name))
entry_by bytes names at header Short =
    let name = short_name_of (name_field header) in
    Ok (member_entry names (next_at at header.numbers.size) (shown_header at header.numbers name))

-- the entry of a header, which is bad where its name is
unfoldable pub named_entry : List ℕ → List ℕ → ℕ → Header → Result Entry ElfError
named_entry bytes names at header =
    or_refused (kind_of_name (name_field header)) (BadMember at) >>= entry_by bytes names at header

-- the entry at a place, after the long names that were read before it
unfoldable pub entry_at : List ℕ → List ℕ → ℕ → Result Entry ElfError
entry_at bytes names at = header_at bytes at >>= named_entry bytes names at

-- the entries from a place on, and the place of the bad header that ends them, if one does
pub record Entries : Type 0 where
  pub list : List Entry
  pub bad : Option ℕ

-- an entry and those after it, or none where its header is bad
abbrev pub entry_and_later : ℕ → (Entry → Entries) → Result Entry ElfError → Entries
entry_and_later at rest (Ok e) = record { list = e ∷ (rest e).list; bad = (rest e).bad }
entry_and_later at rest (Err e) = record { list = []; bad = Some at }

-- at most so many entries, up to the end of the archive
abbrev pub entries_within : ℕ → List ℕ → List ℕ → ℕ → Entries
entries_within zero bytes names at = record { list = []; bad = None }
entries_within (suc most) bytes names at =
    if nat_le (length bytes) at then record { list = []; bad = None }
    else entry_and_later at (λ e. entries_within most bytes e.names e.next)
    (entry_at bytes names at)

-- all entries from a place on: there are no more than bytes
unfoldable pub entries_from : List ℕ → List ℕ → ℕ → Entries
entries_from bytes names at = entries_within (length bytes) bytes names at

-- the members of an archive, and the place of the bad header that ends them, if one does
pub record Members : Type 0 where
  pub list : List ArHdr
  pub bad : Option ℕ

-- the members among entries
abbrev pub members_of : Entries → Members
members_of es = record { list = filter_map (λ e. e.member) es.list; bad = es.bad }

-- the members from a place on, after the long names that were read before it
unfoldable pub members_from : List ℕ → List ℕ → ℕ → Members
members_from bytes names at = members_of (entries_from bytes names at)

-- the members of an archive
abbrev pub members : List ℕ → Members
members bytes = members_from bytes [] FIRST

-- the bad header alone that ends them
abbrev pub bad_at : ℕ → Members
bad_at at = record { list = []; bad = Some at }

-- the next of members and those that are left after it; at their end None, or the bad header
abbrev pub next_among : List ArHdr → Option ℕ → Result (Option ArHdr × Members) ElfError
next_among (header ∷ headers) bad = Ok (Some header, record { list = headers; bad = bad })
next_among [] None = Ok (None, record { list = []; bad = None })
next_among [] (Some at) = Err (BadMember at)

abbrev pub next_of : Members → Result (Option ArHdr × Members) ElfError
next_of members = next_among members.list members.bad

-- how many bytes a walk to the next member asks for: each header on the way, and the bodies of the
-- tables of long names
abbrev pub due_past : Option ArHdr → ℕ → ℕ
due_past (Some header) more = 0
due_past None more = more

abbrev pub due_among : List Entry → Option ℕ → ℕ
due_among [] None = 0
due_among [] (Some at) = HEADER_LEN
due_among (e ∷ es) bad = HEADER_LEN + e.asked + due_past e.member (due_among es bad)

unfoldable pub due_from : List ℕ → List ℕ → ℕ → ℕ
due_from bytes names at = let es = entries_from bytes names at in due_among es.list es.bad

-- how many bytes a walk past all members asks for: each header, that of a bad one too, and the
-- bodies of the tables of long names
abbrev pub due_in_all : List Entry → Option ℕ → ℕ
due_in_all [] None = 0
due_in_all [] (Some at) = HEADER_LEN
due_in_all (e ∷ es) bad = HEADER_LEN + e.asked + due_in_all es bad

unfoldable pub due_to_end : List ℕ → List ℕ → ℕ → ℕ
due_to_end bytes names at = let es = entries_from bytes names at in due_in_all es.list es.bad
