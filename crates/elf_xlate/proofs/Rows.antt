-- What bytes hold of a record is what the numbers in the fields of its table give, row by row.
use Rattle.std.proofs.Common.{◌≡◌, ℕ, ◌/◌, ◌%◌, List, slice_index, refl}
use Rattle.elf_types.specs.declared.records.Class.{Class}
use Rattle.elf_types.specs.declared.records.Order.{Order}
use Rattle.elf_types.specs.declared.records.Ehdr.{Ehdr}
use Rattle.elf_types.specs.declared.records.Phdr.{Phdr}
use Rattle.elf_types.specs.declared.records.Shdr.{Shdr}
use Rattle.elf_types.specs.declared.records.Sym.{Sym}
use Rattle.elf_types.specs.declared.records.Rel.{Rel}
use Rattle.elf_types.specs.declared.records.Rela.{Rela}
use Rattle.elf_types.specs.declared.records.Dyn.{Dyn}
use Rattle.elf_xlate.specs.Numbers.{signed_of}
use Rattle.elf_xlate.specs.Fields.{numbers_in}
use Rattle.elf_xlate.specs.Headers.{ehdr_fields, ehdr_of}
use Rattle.elf_xlate.specs.Items.{type_range, signed_width}

abbrev pub ehdr_from : Class → Order → List ℕ → Ehdr
ehdr_from class order ns = record {
  class = class;
  order = order;
  osabi = slice_index ns 0;
  abiversion = slice_index ns 1;
  etype = slice_index ns 2;
  machine = slice_index ns 3;
  version = slice_index ns 4;
  entry = slice_index ns 5;
  phoff = slice_index ns 6;
  shoff = slice_index ns 7;
  flags = slice_index ns 8;
  ehsize = slice_index ns 9;
  phentsize = slice_index ns 10;
  phnum = slice_index ns 11;
  shentsize = slice_index ns 12;
  shnum = slice_index ns 13;
  shstrndx = slice_index ns 14;
}

abbrev pub phdr_from : List ℕ → Phdr
phdr_from ns = record {
  ptype = slice_index ns 0;
  flags = slice_index ns 1;
  offset = slice_index ns 2;
  vaddr = slice_index ns 3;
  paddr = slice_index ns 4;
  filesz = slice_index ns 5;
  memsz = slice_index ns 6;
  align = slice_index ns 7;
}

abbrev pub shdr_from : List ℕ → Shdr
shdr_from ns = record {
  name = slice_index ns 0;
  stype = slice_index ns 1;
  flags = slice_index ns 2;
  addr = slice_index ns 3;
  offset = slice_index ns 4;
  size = slice_index ns 5;
  link = slice_index ns 6;
  info = slice_index ns 7;
  addralign = slice_index ns 8;
  entsize = slice_index ns 9;
}

abbrev pub sym_from : List ℕ → Sym
sym_from ns = record {
  name = slice_index ns 0;
  info = slice_index ns 1;
  other = slice_index ns 2;
  shndx = slice_index ns 3;
  value = slice_index ns 4;
  size = slice_index ns 5;
}

abbrev pub rel_from : Class → List ℕ → Rel
rel_from class ns = record {
  offset = slice_index ns 0;
  sym = slice_index ns 1 / type_range class;
  rtype = slice_index ns 1 % type_range class;
}

abbrev pub rela_from : Class → List ℕ → Rela
rela_from class ns = record {
  offset = slice_index ns 0;
  sym = slice_index ns 1 / type_range class;
  rtype = slice_index ns 1 % type_range class;
  addend = signed_of (signed_width class) (slice_index ns 2);
}

abbrev pub dyn_from : Class → List ℕ → Dyn
dyn_from class ns = record {
  tag = signed_of (signed_width class) (slice_index ns 0);
  val = slice_index ns 1;
}

pub ehdr_is : (class : Class) (order : Order) (bytes : List ℕ)
    → ehdr_of class order bytes ≡ ehdr_from class order (numbers_in class order bytes ehdr_fields)
unfolding ehdr_of ehdr_fields
ehdr_is class order bytes = refl
