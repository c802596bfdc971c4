-- The records that C sees of an archive, of those of ar.h.
use Rattle.std.specs.Prelude.{ℕ, List, [], length, slice_get, Option, Some, None, Result}
use Rattle.elf_types.specs.declared.errors.ElfError.{ElfError}
use Rattle.elf_types.specs.declared.errors.ElfError.TheVariants.{NoEntry}
use Rattle.elf_types.specs.Answers.{or_refused}
use Rattle.ar_members.specs.declared.headers.ArHdr.{ArHdr}
use Rattle.ar_members.specs.declared.symbols.ArSym.{ArSym}
use Rattle.c_calls.specs.declared.archives.records.MemberRecord.{MemberRecord}
use Rattle.c_calls.specs.declared.archives.records.ArSymRecord.{ArSymRecord}

-- the header of a member, or that there is none
abbrev pub member_record : Option ArHdr → MemberRecord
member_record None = record {
  found = 0;
  mode = 0;
  uid = 0;
  gid = 0;
  at = 0;
  body = 0;
  size = 0;
  date = 0;
  namesz = 0;
}
member_record (Some x) = record {
  found = 1;
  mode = x.mode;
  uid = x.uid;
  gid = x.gid;
  at = x.at;
  body = x.body;
  size = x.size;
  date = x.date;
  namesz = length x.name;
}

-- its name, and none where there is no member
abbrev pub archive_member_name : Option ArHdr → List ℕ
archive_member_name None = []
archive_member_name (Some x) = x.name

-- a symbol of the table
abbrev pub symbol_record : ArSym → ArSymRecord
symbol_record x = record { at = x.at; namesz = length x.name }

-- the symbol at an index, or the refusal where there is none
abbrev pub archive_symbol_at : List ArSym → ℕ → Result ArSym ElfError
archive_symbol_at symbols i = or_refused (slice_get symbols i) (NoEntry i (length symbols))

-- how many symbols there are, and the symbols, which the archive keeps
abbrev pub counted_symbols : List ArSym → ℕ × List ArSym
counted_symbols symbols = (length symbols, symbols)
