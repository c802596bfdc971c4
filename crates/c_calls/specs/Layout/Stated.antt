-- The object that has the headers that C hands over (elf_update of elf(3E), of a program that lays
-- out its image itself, by ELF_F_LAYOUT).
use Rattle.std.specs.Prelude.{◌≡◌, ℕ, true, List, length, map, None}
use Rattle.elf_types.specs.declared.records.Ehdr.{Ehdr}
use Rattle.elf_object.specs.Object.{Object, header_of, section_at, has_file_bytes, is_dirty}
use Rattle.elf_object.specs.Joined.{file_bytes}
use Rattle.elf_object.specs.Refusal.{unfit_item, missing_home}
use Rattle.elf_object.specs.Valid.{IsObject}
use Rattle.c_records.specs.declared.headers.EhdrRecord.{EhdrRecord}
use Rattle.c_records.specs.declared.headers.PhdrRecord.{PhdrRecord}
use Rattle.c_records.specs.declared.headers.ShdrRecord.{ShdrRecord}
use Rattle.c_calls.specs.Editing.From.{phdr_from_record, shdr_from_record}
use Rattle.c_calls.specs.Translation.Numbers.{class_from, order_from}

-- the ELF header of a record, with so many program headers and sections in place of its counts
abbrev pub header_stated : EhdrRecord → ℕ → ℕ → Ehdr
header_stated x phnum shnum = record {
  class = class_from x.class;
  order = order_from x.order;
  osabi = x.osabi;
  abiversion = x.abiversion;
  etype = x.etype;
  machine = x.machine;
  version = x.version;
  entry = x.entry;
  phoff = x.phoff;
  shoff = x.shoff;
  flags = x.flags;
  ehsize = x.ehsize;
  phentsize = x.phentsize;
  phnum = phnum;
  shentsize = x.shentsize;
  shnum = shnum;
  shstrndx = x.shstrndx;
}

-- The object has these headers, with as many entries as there are, and stands over a base of so
-- many bytes; a program changed it and lays it out. Of the sections only this is told: each that
-- occupies space in the file has as many bytes as its header says, which are there and fit. So
-- there are as many such objects as there are such bytes, bases and fill bytes.
pub record IsStated (o : Object) (ehdr : EhdrRecord) (pad : List ℕ) (phdrs : List PhdrRecord)
    (shdrs : List ShdrRecord) (base : ℕ) : Type 0 where
  pub object : IsObject o
  pub dirty : is_dirty o ≡ true
  pub layout : o.layout ≡ true
  pub base_is : length o.base ≡ base
  pub header : header_of o ≡ header_stated ehdr (length phdrs) (length shdrs)
  pub pad_is : o.pad ≡ pad
  pub segments : o.phdrs ≡ map phdr_from_record phdrs
  pub sections : map (λ s. s.header) o.sections ≡ map shdr_from_record shdrs
  pub sizes : (s : ℕ) → has_file_bytes s (section_at o s) ≡ true
      → length (file_bytes o s) ≡ (section_at o s).header.size
  pub fit : unfit_item o ≡ None
  pub there : missing_home o ≡ None
