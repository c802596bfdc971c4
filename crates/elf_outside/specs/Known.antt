-- Which files of the system were handed out, whatever their names.
use Rattle.std.specs.Prelude.{◌≡◌, Bool, true, false, IsTrue}
use Rattle.std.specs.declared.cmp.Ordering.{Ordering}
use Rattle.std.specs.Ordering.{ordering_then, nat_cmp}
use Rattle.std.specs.BTreeSet.{contains}
use Rattle.elf_outside.specs.declared.real.open_files.Inode.{Inode}
use Rattle.elf_outside.specs.declared.real.open_files.OpenFile.{OpenFile}
use Rattle.elf_outside.specs.declared.real.open_files.OpenFiles.{OpenFiles}

-- the order of files: by their devices, and then by their numbers there
abbrev pub inode_cmp : Inode → Inode → Ordering
inode_cmp a b = ordering_then (nat_cmp a.device b.device) (nat_cmp a.number b.number)

-- whether a regular file was handed out
abbrev pub knows : OpenFiles → Inode → Bool
knows files inode = contains inode_cmp files.known inode

-- a file was, if it is a regular one
abbrev pub IsNoted : OpenFiles → OpenFile → Type 0
IsNoted files file = IsTrue file.is_regular → knows files file.inode ≡ true

-- no file was
abbrev pub KnowsNone : OpenFiles → Type 0
KnowsNone files = (inode : Inode) → knows files inode ≡ false

-- what was handed out stays known
abbrev pub KeepsKnown : OpenFiles → OpenFiles → Type 0
KeepsKnown old new = (inode : Inode) → knows old inode ≡ true → knows new inode ≡ true
