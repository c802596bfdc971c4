-- The fields of `set`, with the range of each.
use Rattle.std.specs.Prelude.{ℕ, List, [], ◌∷◌, codes}
use Rattle.elf_types.specs.declared.records.Kind.{Kind}
use Rattle.elf_types.specs.declared.records.Kind.TheVariants as Kinds
use Rattle.elf_calls_script.specs.declared.calls.EhdrSet.{EhdrSet}
use Rattle.elf_calls_script.specs.declared.calls.EhdrSet.TheVariants as Ehdr
use Rattle.elf_calls_script.specs.declared.calls.PhdrSet.{PhdrSet}
use Rattle.elf_calls_script.specs.declared.calls.PhdrSet.TheVariants as Phdr
use Rattle.elf_calls_script.specs.declared.calls.ShdrSet.{ShdrSet}
use Rattle.elf_calls_script.specs.declared.calls.ShdrSet.TheVariants as Shdr
use Rattle.elf_calls_script.specs.declared.calls.ItemSet.{ItemSet}
use Rattle.elf_calls_script.specs.declared.calls.ItemSet.TheVariants.{Half, Word, Addr, SymName, SymValue, SymSize, SymInfo, SymOther, SymShndx, RelOffset, RelSym, RelType, RelaOffset, RelaSym, RelaType, RelaAddend, DynTag, DynVal}
use Rattle.elf_calls_script.specs.Parts.{Phrase, ◌⇒◌, u8, u16, u32, u64, i64}

unfoldable pub ehdr_field_phrases : List (List ℕ × Phrase EhdrSet)
ehdr_field_phrases =
    (codes "osabi", u8 ⇒ Ehdr.Osabi) ∷
    (codes "abiversion", u8 ⇒ Ehdr.Abiversion) ∷
    (codes "type", u16 ⇒ Ehdr.Etype) ∷
    (codes "machine", u16 ⇒ Ehdr.Machine) ∷
    (codes "entry", u64 ⇒ Ehdr.Entry) ∷
    (codes "phoff", u64 ⇒ Ehdr.Phoff) ∷
    (codes "shoff", u64 ⇒ Ehdr.Shoff) ∷
    (codes "flags", u32 ⇒ Ehdr.Flags) ∷
    (codes "shstrndx", u32 ⇒ Ehdr.Shstrndx) ∷ []

unfoldable pub phdr_field_phrases : List (List ℕ × Phrase PhdrSet)
phdr_field_phrases =
    (codes "type", u32 ⇒ Phdr.Ptype) ∷
    (codes "flags", u32 ⇒ Phdr.Flags) ∷
    (codes "offset", u64 ⇒ Phdr.Offset) ∷
    (codes "vaddr", u64 ⇒ Phdr.Vaddr) ∷
    (codes "paddr", u64 ⇒ Phdr.Paddr) ∷
    (codes "filesz", u64 ⇒ Phdr.Filesz) ∷
    (codes "memsz", u64 ⇒ Phdr.Memsz) ∷
    (codes "align", u64 ⇒ Phdr.Align) ∷ []

unfoldable pub shdr_field_phrases : List (List ℕ × Phrase ShdrSet)
shdr_field_phrases =
    (codes "name", u32 ⇒ Shdr.Name) ∷
    (codes "type", u32 ⇒ Shdr.Stype) ∷
    (codes "flags", u64 ⇒ Shdr.Flags) ∷
    (codes "addr", u64 ⇒ Shdr.Addr) ∷
    (codes "offset", u64 ⇒ Shdr.Offset) ∷
    (codes "size", u64 ⇒ Shdr.Size) ∷
    (codes "link", u32 ⇒ Shdr.Link) ∷
    (codes "info", u32 ⇒ Shdr.Info) ∷
    (codes "addralign", u64 ⇒ Shdr.Addralign) ∷
    (codes "entsize", u64 ⇒ Shdr.Entsize) ∷ []

-- the fields of an item of a kind
unfoldable pub item_fields : Kind → List (List ℕ × Phrase ItemSet)
item_fields Kinds.Half = (codes "value", u16 ⇒ Half) ∷ []
item_fields Kinds.Word = (codes "value", u32 ⇒ Word) ∷ []
item_fields Kinds.Addr = (codes "value", u64 ⇒ Addr) ∷ []
item_fields Kinds.Sym =
    (codes "name", u32 ⇒ SymName) ∷
    (codes "value", u64 ⇒ SymValue) ∷
    (codes "size", u64 ⇒ SymSize) ∷
    (codes "info", u8 ⇒ SymInfo) ∷
    (codes "other", u8 ⇒ SymOther) ∷
    (codes "shndx", u16 ⇒ SymShndx) ∷ []
item_fields Kinds.Rel =
    (codes "offset", u64 ⇒ RelOffset) ∷
    (codes "sym", u32 ⇒ RelSym) ∷
    (codes "type", u32 ⇒ RelType) ∷ []
item_fields Kinds.Rela =
    (codes "offset", u64 ⇒ RelaOffset) ∷
    (codes "sym", u32 ⇒ RelaSym) ∷
    (codes "type", u32 ⇒ RelaType) ∷
    (codes "addend", i64 ⇒ RelaAddend) ∷ []
item_fields Kinds.Dyn =
    (codes "tag", i64 ⇒ DynTag) ∷
    (codes "val", u64 ⇒ DynVal) ∷ []
item_fields Kinds.Empty = []
item_fields Kinds.Bytes = []
