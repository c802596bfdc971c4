-- The records of gelf(3E) that C sees, of those of the plain object.
use Rattle.std.specs.Prelude.{ℕ, ◌+◌, ◌*◌, ◌^◌, Option, Some, None}
use Rattle.elf_types.specs.declared.records.Class.{Class}
use Rattle.elf_types.specs.declared.records.Order.{Order}
use Rattle.elf_types.specs.declared.records.Ehdr.{Ehdr}
use Rattle.elf_types.specs.declared.records.Phdr.{Phdr}
use Rattle.elf_types.specs.declared.records.Shdr.{Shdr}
use Rattle.elf_types.specs.declared.records.Sym.{Sym}
use Rattle.elf_types.specs.declared.records.Rel.{Rel}
use Rattle.elf_types.specs.declared.records.Rela.{Rela}
use Rattle.elf_types.specs.declared.records.Dyn.{Dyn}
use Rattle.elf_types.specs.declared.records.Class.TheVariants.{C32, C64}
use Rattle.elf_types.specs.declared.records.Kind.{Kind}
use Rattle.elf_types.specs.declared.records.Kind.TheVariants as kinds
use Rattle.elf_types.specs.declared.records.Order.TheVariants.{Least, Greatest}
use Rattle.gelf_view.specs.declared.versions.Verdef.{Verdef}
use Rattle.gelf_view.specs.declared.versions.Verdaux.{Verdaux}
use Rattle.gelf_view.specs.declared.versions.Verneed.{Verneed}
use Rattle.gelf_view.specs.declared.versions.Vernaux.{Vernaux}
use Rattle.gelf_view.specs.declared.notes.NoteAt.{NoteAt}
use Rattle.c_records.specs.declared.headers.EhdrRecord.{EhdrRecord}
use Rattle.c_records.specs.declared.headers.PhdrRecord.{PhdrRecord}
use Rattle.c_records.specs.declared.headers.ShdrRecord.{ShdrRecord}
use Rattle.c_records.specs.declared.headers.ExtentRecord.{ExtentRecord}
use Rattle.c_records.specs.declared.items.SymRecord.{SymRecord}
use Rattle.c_records.specs.declared.items.RelRecord.{RelRecord}
use Rattle.c_records.specs.declared.items.RelaRecord.{RelaRecord}
use Rattle.c_records.specs.declared.items.DynRecord.{DynRecord}
use Rattle.c_records.specs.declared.versions.VerdefRecord.{VerdefRecord}
use Rattle.c_records.specs.declared.versions.VerdauxRecord.{VerdauxRecord}
use Rattle.c_records.specs.declared.versions.VerneedRecord.{VerneedRecord}
use Rattle.c_records.specs.declared.versions.VernauxRecord.{VernauxRecord}
use Rattle.c_records.specs.declared.versions.NoteRecord.{NoteRecord}

-- e_ident[EI_CLASS]
abbrev pub class_number : Class → ℕ
class_number C32 = 1
class_number C64 = 2

-- e_ident[EI_DATA]
abbrev pub order_number : Order → ℕ
order_number Least = 1
order_number Greatest = 2

-- the ELF header, with its true counts
abbrev pub ehdr_record : Ehdr → EhdrRecord
ehdr_record x = record {
  class = class_number x.class;
  order = order_number x.order;
  osabi = x.osabi;
  abiversion = x.abiversion;
  etype = x.etype;
  machine = x.machine;
  version = x.version;
  entry = x.entry;
  phoff = x.phoff;
  shoff = x.shoff;
  flags = x.flags;
  ehsize = x.ehsize;
  phentsize = x.phentsize;
  phnum = x.phnum;
  shentsize = x.shentsize;
  shnum = x.shnum;
  shstrndx = x.shstrndx;
}

-- GElf_Phdr
abbrev pub phdr_record : Phdr → PhdrRecord
phdr_record x = record {
  ptype = x.ptype;
  flags = x.flags;
  offset = x.offset;
  vaddr = x.vaddr;
  paddr = x.paddr;
  filesz = x.filesz;
  memsz = x.memsz;
  align = x.align;
}

-- GElf_Shdr
abbrev pub shdr_record : Shdr → ShdrRecord
shdr_record x = record {
  name = x.name;
  stype = x.stype;
  flags = x.flags;
  addr = x.addr;
  offset = x.offset;
  size = x.size;
  link = x.link;
  info = x.info;
  addralign = x.addralign;
  entsize = x.entsize;
}

-- GElf_Sym
abbrev pub sym_record : Sym → SymRecord
sym_record x = record {
  name = x.name;
  info = x.info;
  other = x.other;
  shndx = x.shndx;
  value = x.value;
  size = x.size;
}

-- GElf_Rel, whose r_info is GELF_R_INFO of the two
abbrev pub rel_record : Rel → RelRecord
rel_record x = record {
  offset = x.offset;
  info = x.sym * 2 ^ 32 + x.rtype;
}

-- GElf_Rela
abbrev pub rela_record : Rela → RelaRecord
rela_record x = record {
  offset = x.offset;
  info = x.sym * 2 ^ 32 + x.rtype;
  addend = x.addend;
}

-- GElf_Dyn
abbrev pub dyn_record : Dyn → DynRecord
dyn_record x = record {
  tag = x.tag;
  val = x.val;
}

-- GElf_Verdef
abbrev pub verdef_record : Verdef → VerdefRecord
verdef_record x = record {
  version = x.version;
  flags = x.flags;
  ndx = x.ndx;
  cnt = x.cnt;
  hash = x.hash;
  aux = x.aux;
  next = x.next;
}

-- GElf_Verdaux
abbrev pub verdaux_record : Verdaux → VerdauxRecord
verdaux_record x = record {
  name = x.name;
  next = x.next;
}

-- GElf_Verneed
abbrev pub verneed_record : Verneed → VerneedRecord
verneed_record x = record {
  version = x.version;
  cnt = x.cnt;
  file = x.file;
  aux = x.aux;
  next = x.next;
}

-- GElf_Vernaux
abbrev pub vernaux_record : Vernaux → VernauxRecord
vernaux_record x = record {
  hash = x.hash;
  flags = x.flags;
  other = x.other;
  name = x.name;
  next = x.next;
}

-- a note by its places, or that there is none
abbrev pub note_record : Option NoteAt → NoteRecord
note_record None = record {
  found = 0;
  ntype = 0;
  name_at = 0;
  namesz = 0;
  desc_at = 0;
  descsz = 0;
  next = 0;
}
note_record (Some x) = record {
  found = 1;
  ntype = x.ntype;
  name_at = x.name_at;
  namesz = x.namesz;
  desc_at = x.desc_at;
  descsz = x.descsz;
  next = x.next;
}

-- a range of bytes
abbrev pub extent_record : ℕ × ℕ → ExtentRecord
extent_record home = record { at = home.0; len = home.1 }

-- what the items of a piece are
abbrev pub kind_number : Kind → ℕ
kind_number kinds.Empty = 0
kind_number kinds.Bytes = 1
kind_number kinds.Half = 2
kind_number kinds.Word = 3
kind_number kinds.Addr = 4
kind_number kinds.Sym = 5
kind_number kinds.Rel = 6
kind_number kinds.Rela = 7
kind_number kinds.Dyn = 8

-- a number, which C has as it is
abbrev pub as_number : ℕ → ℕ
as_number n = n
