-- Header values that follow from the lists, and the numbers that the header's two-byte fields
-- cannot hold (gABI chapter 4, "ELF Header", e_phnum, e_shnum and e_shstrndx; "Section Header", the
-- entry at index 0).
use Rattle.std.specs.Prelude.{ℕ, ◌==◌, nat_lt, if◌then◌else◌}
use Rattle.elf_types.specs.declared.records.Ehdr.{Ehdr}
use Rattle.elf_types.specs.declared.records.Shdr.{Shdr}
use Rattle.elf_types.specs.declared.constants.TheConstants.{EV_CURRENT, SHN_LORESERVE, SHN_XINDEX, PN_XNUM}
use Rattle.elf_ident.specs.elf_xlate.Headers.{ehdr_size, phdr_size, shdr_size}

-- a value of a table's, and 0 where the table has no entries
abbrev pub where_any : ℕ → ℕ → ℕ
where_any count n = if count == 0 then 0 else n

-- a header that has the true counts, with what follows from them, and with the two tables at these
-- places
unfoldable pub derived_header : ℕ → ℕ → Ehdr → Ehdr
derived_header phoff shoff h = record h {
  version = EV_CURRENT;
  ehsize = ehdr_size h.class;
  phoff = where_any h.phnum phoff;
  phentsize = where_any h.phnum (phdr_size h.class);
  shoff = where_any h.shnum shoff;
  shentsize = where_any h.shnum (shdr_size h.class);
  shstrndx = where_any h.shnum h.shstrndx;
}

-- e_shnum: 0 from SHN_LORESERVE on
abbrev pub written_shnum : ℕ → ℕ
written_shnum n = if nat_lt n SHN_LORESERVE then n else 0

-- e_shstrndx: SHN_XINDEX from SHN_LORESERVE on
abbrev pub written_shstrndx : ℕ → ℕ
written_shstrndx n = if nat_lt n SHN_LORESERVE then n else SHN_XINDEX

-- e_phnum: PN_XNUM from that number on
abbrev pub written_phnum : ℕ → ℕ
written_phnum n = if nat_lt n PN_XNUM then n else PN_XNUM

-- a header with the two counts and the string index as they are written
unfoldable pub written_header : Ehdr → Ehdr
written_header h = record h {
  phnum = written_phnum h.phnum;
  shnum = written_shnum h.shnum;
  shstrndx = written_shstrndx h.shstrndx;
}

-- section 0's header, which holds in sh_size, sh_link and sh_info what e_shnum, e_shstrndx and
-- e_phnum do not
unfoldable pub numbered_shdr : Ehdr → Shdr → Shdr
numbered_shdr h first = record first {
  size = if nat_lt h.shnum SHN_LORESERVE then 0 else h.shnum;
  link = if nat_lt h.shstrndx SHN_LORESERVE then 0 else h.shstrndx;
  info = if nat_lt h.phnum PN_XNUM then 0 else h.phnum;
}
