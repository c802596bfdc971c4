-- What the calls of a script leave of an image, written with -o or -i, opens again.
use Rattle.std.specs.Prelude.{◌≡◌, ℕ, ◌<◌, ◌^◌, List, All, Ok}
use Rattle.elf_types.specs.Lists.{AreBytes}
use Rattle.elf_object.specs.Object.{Object}
use Rattle.elf_object.specs.Open.{opened}
use Rattle.elf_object.specs.Runs.{left_by}
use Rattle.elf_object.specs.Valid.{IsObject, IsTied}
use Rattle.rebuild_model.specs.Files.{file_of}
use Rattle.elf_calls_script.specs.declared.calls.Call.{Call}
use Rattle.elf_calls_script.specs.declared.calls.Call.TheVariants as call
use Rattle.elf_calls_script.specs.declared.calls.EhdrSet.{EhdrSet}
use Rattle.elf_calls_script.specs.declared.calls.EhdrSet.TheVariants as ehdr
use Rattle.elf_calls_script.specs.declared.calls.PhdrSet.{PhdrSet}
use Rattle.elf_calls_script.specs.declared.calls.PhdrSet.TheVariants as phdr
use Rattle.elf_calls_script.specs.declared.calls.ShdrSet.{ShdrSet}
use Rattle.elf_calls_script.specs.declared.calls.ShdrSet.TheVariants as shdr
use Rattle.calls_tool.specs.Runs.{stated_calls}
use Rattle.calls_tool.specs.Scripts.{script_calls}
use Rattle.law_reopen.specs.Phdrs.{HasPhdrs}
use Rattle.law_reopen.specs.Written.{reopened}

-- ---- What a line sets

-- a number for a field of the ELF header is in the range of its type (gABI chapter 4, "ELF Header")
abbrev pub IsEhdrSet : EhdrSet → Type 0
IsEhdrSet (ehdr.Osabi v) = v < 2 ^ 8
IsEhdrSet (ehdr.Abiversion v) = v < 2 ^ 8
IsEhdrSet (ehdr.Etype v) = v < 2 ^ 16
IsEhdrSet (ehdr.Machine v) = v < 2 ^ 16
IsEhdrSet (ehdr.Entry v) = v < 2 ^ 64
IsEhdrSet (ehdr.Phoff v) = v < 2 ^ 64
IsEhdrSet (ehdr.Shoff v) = v < 2 ^ 64
IsEhdrSet (ehdr.Flags v) = v < 2 ^ 32
IsEhdrSet (ehdr.Shstrndx v) = v < 2 ^ 32

-- of a program header (gABI chapter 5, "Program Header")
abbrev pub IsPhdrSet : PhdrSet → Type 0
IsPhdrSet (phdr.Ptype v) = v < 2 ^ 32
IsPhdrSet (phdr.Flags v) = v < 2 ^ 32
IsPhdrSet (phdr.Offset v) = v < 2 ^ 64
IsPhdrSet (phdr.Vaddr v) = v < 2 ^ 64
IsPhdrSet (phdr.Paddr v) = v < 2 ^ 64
IsPhdrSet (phdr.Filesz v) = v < 2 ^ 64
IsPhdrSet (phdr.Memsz v) = v < 2 ^ 64
IsPhdrSet (phdr.Align v) = v < 2 ^ 64

-- of a section header (gABI chapter 4, "Section Header")
abbrev pub IsShdrSet : ShdrSet → Type 0
IsShdrSet (shdr.Name v) = v < 2 ^ 32
IsShdrSet (shdr.Stype v) = v < 2 ^ 32
IsShdrSet (shdr.Flags v) = v < 2 ^ 64
IsShdrSet (shdr.Addr v) = v < 2 ^ 64
IsShdrSet (shdr.Offset v) = v < 2 ^ 64
IsShdrSet (shdr.Size v) = v < 2 ^ 64
IsShdrSet (shdr.Link v) = v < 2 ^ 32
IsShdrSet (shdr.Info v) = v < 2 ^ 32
IsShdrSet (shdr.Addralign v) = v < 2 ^ 64
IsShdrSet (shdr.Entsize v) = v < 2 ^ 64

-- a call whose numbers for headers, and for the fill byte, are in their ranges. Those for items may
-- be any: a file form takes their lowest bytes.
abbrev pub IsScriptCall : Call → Type 0
IsScriptCall (call.SetEhdr set) = IsEhdrSet set
IsScriptCall (call.SetPhdr i set) = IsPhdrSet set
IsScriptCall (call.SetShdr s set) = IsShdrSet set
IsScriptCall (call.Fill byte) = byte < 2 ^ 8
IsScriptCall _ = Unit {0}

-- each call that a script says is one
abbrev pub ScriptsAreInRange : Type 0
ScriptsAreInRange =
    (script : List ℕ) (cs : List Call) → script_calls script ≡ Ok cs → All IsScriptCall cs

-- ---- What the calls leave

-- what the law of reopening asks of an object: it is one, its program headers are in the ranges of
-- their types, and where nothing is dirty it is that of its base
pub record IsReopenable (o : Object) : Type 0 where
  pub object : IsObject o
  pub phdrs : HasPhdrs o
  pub tied : IsTied o

-- an image that is opened gives such an object
abbrev pub OpenedIsReopenable : Type 0
OpenedIsReopenable =
    (image : List ℕ) (o : Object) → AreBytes image → opened image ≡ Ok o → IsReopenable o

-- and such calls keep it, one after another
abbrev pub CallsKeepReopenable : Type 0
CallsKeepReopenable =
    (cs : List Call) (o : Object) → All IsScriptCall cs → IsReopenable o
    → IsReopenable (left_by (stated_calls cs) o)

-- ---- What is written

-- What the calls of a script leave of an image, written to a new file (-o) or in place (-i): both
-- hold the bytes that an update writes of it.
abbrev pub CallsReopen : Type 0
CallsReopen =
    (script image : List ℕ) (cs : List Call) (before : Object) (out : List ℕ)
    → script_calls script ≡ Ok cs → AreBytes image → opened image ≡ Ok before
    → file_of (left_by (stated_calls cs) before) ≡ Ok out
    → opened out ≡ Ok (reopened (left_by (stated_calls cs) before))
