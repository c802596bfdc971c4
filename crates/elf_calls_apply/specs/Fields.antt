-- A record with one field changed, as the lines of `set` name it.
use Rattle.elf_types.specs.declared.records.Ehdr.{Ehdr}
use Rattle.elf_types.specs.declared.records.Phdr.{Phdr}
use Rattle.elf_types.specs.declared.records.Shdr.{Shdr}
use Rattle.elf_types.specs.declared.records.Sym.{Sym}
use Rattle.elf_types.specs.declared.records.Rel.{Rel}
use Rattle.elf_types.specs.declared.records.Rela.{Rela}
use Rattle.elf_types.specs.declared.records.Dyn.{Dyn}
use Rattle.elf_calls_script.specs.declared.calls.EhdrSet.{EhdrSet}
use Rattle.elf_calls_script.specs.declared.calls.EhdrSet.TheVariants as ehdr
use Rattle.elf_calls_script.specs.declared.calls.PhdrSet.{PhdrSet}
use Rattle.elf_calls_script.specs.declared.calls.PhdrSet.TheVariants as phdr
use Rattle.elf_calls_script.specs.declared.calls.ShdrSet.{ShdrSet}
use Rattle.elf_calls_script.specs.declared.calls.ShdrSet.TheVariants as shdr
use Rattle.elf_calls_script.specs.declared.calls.ItemSet.{ItemSet}
use Rattle.elf_calls_script.specs.declared.calls.ItemSet.TheVariants.{SymName, SymValue, SymSize, SymInfo, SymOther, SymShndx, RelOffset, RelSym, RelType, RelaOffset, RelaSym, RelaType, RelaAddend, DynTag, DynVal}

abbrev pub ehdr_with : EhdrSet → Ehdr → Ehdr
ehdr_with (ehdr.Osabi v) h = record h { osabi = v }
ehdr_with (ehdr.Abiversion v) h = record h { abiversion = v }
ehdr_with (ehdr.Etype v) h = record h { etype = v }
ehdr_with (ehdr.Machine v) h = record h { machine = v }
ehdr_with (ehdr.Entry v) h = record h { entry = v }
ehdr_with (ehdr.Phoff v) h = record h { phoff = v }
ehdr_with (ehdr.Shoff v) h = record h { shoff = v }
ehdr_with (ehdr.Flags v) h = record h { flags = v }
ehdr_with (ehdr.Shstrndx v) h = record h { shstrndx = v }

abbrev pub phdr_with : PhdrSet → Phdr → Phdr
phdr_with (phdr.Ptype v) h = record h { ptype = v }
phdr_with (phdr.Flags v) h = record h { flags = v }
phdr_with (phdr.Offset v) h = record h { offset = v }
phdr_with (phdr.Vaddr v) h = record h { vaddr = v }
phdr_with (phdr.Paddr v) h = record h { paddr = v }
phdr_with (phdr.Filesz v) h = record h { filesz = v }
phdr_with (phdr.Memsz v) h = record h { memsz = v }
phdr_with (phdr.Align v) h = record h { align = v }

abbrev pub shdr_with : ShdrSet → Shdr → Shdr
shdr_with (shdr.Name v) h = record h { name = v }
shdr_with (shdr.Stype v) h = record h { stype = v }
shdr_with (shdr.Flags v) h = record h { flags = v }
shdr_with (shdr.Addr v) h = record h { addr = v }
shdr_with (shdr.Offset v) h = record h { offset = v }
shdr_with (shdr.Size v) h = record h { size = v }
shdr_with (shdr.Link v) h = record h { link = v }
shdr_with (shdr.Info v) h = record h { info = v }
shdr_with (shdr.Addralign v) h = record h { addralign = v }
shdr_with (shdr.Entsize v) h = record h { entsize = v }

abbrev pub sym_with : ItemSet → Sym → Sym
sym_with (SymName v) x = record x { name = v }
sym_with (SymValue v) x = record x { value = v }
sym_with (SymSize v) x = record x { size = v }
sym_with (SymInfo v) x = record x { info = v }
sym_with (SymOther v) x = record x { other = v }
sym_with (SymShndx v) x = record x { shndx = v }
sym_with _ x = x

abbrev pub rel_with : ItemSet → Rel → Rel
rel_with (RelOffset v) x = record x { offset = v }
rel_with (RelSym v) x = record x { sym = v }
rel_with (RelType v) x = record x { rtype = v }
rel_with _ x = x

abbrev pub rela_with : ItemSet → Rela → Rela
rela_with (RelaOffset v) x = record x { offset = v }
rela_with (RelaSym v) x = record x { sym = v }
rela_with (RelaType v) x = record x { rtype = v }
rela_with (RelaAddend v) x = record x { addend = v }
rela_with _ x = x

abbrev pub dyn_with : ItemSet → Dyn → Dyn
dyn_with (DynTag v) x = record x { tag = v }
dyn_with (DynVal v) x = record x { val = v }
dyn_with _ x = x
