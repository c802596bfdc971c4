-- What C hands over, as the plain object has it.
use Rattle.elf_types.specs.declared.records.Ehdr.{Ehdr}
use Rattle.elf_types.specs.declared.records.Phdr.{Phdr}
use Rattle.elf_types.specs.declared.records.Shdr.{Shdr}
use Rattle.c_records.specs.declared.headers.EhdrRecord.{EhdrRecord}
use Rattle.c_records.specs.declared.headers.PhdrRecord.{PhdrRecord}
use Rattle.c_records.specs.declared.headers.ShdrRecord.{ShdrRecord}

-- a header with the nine fields of a record that gelf_update_ehdr stores
abbrev pub ehdr_from_record : EhdrRecord → Ehdr → Ehdr
ehdr_from_record x h = record h {
  osabi = x.osabi;
  abiversion = x.abiversion;
  etype = x.etype;
  machine = x.machine;
  entry = x.entry;
  phoff = x.phoff;
  shoff = x.shoff;
  flags = x.flags;
  shstrndx = x.shstrndx;
}

-- GElf_Phdr
abbrev pub phdr_from_record : PhdrRecord → Phdr
phdr_from_record x = record {
  ptype = x.ptype;
  flags = x.flags;
  offset = x.offset;
  vaddr = x.vaddr;
  paddr = x.paddr;
  filesz = x.filesz;
  memsz = x.memsz;
  align = x.align;
}

-- GElf_Shdr
abbrev pub shdr_from_record : ShdrRecord → Shdr
shdr_from_record x = record {
  name = x.name;
  stype = x.stype;
  flags = x.flags;
  addr = x.addr;
  offset = x.offset;
  size = x.size;
  link = x.link;
  info = x.info;
  addralign = x.addralign;
  entsize = x.entsize;
}
