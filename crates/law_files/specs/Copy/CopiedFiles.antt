-- What the file that copy writes has of FILE, and of the files of -u and -a (objcopy(1) has the
-- like of it).
use Rattle.std.specs.Prelude.{◌≡◌, ℕ, ◌^◌, ◌<◌, false, List, All, Some, Ok}
use Rattle.elf_types.specs.Lists.{AreBytes}
use Rattle.elf_outside.specs.Names.{Map}
use Rattle.elf_object.specs.Object.{Object}
use Rattle.rebuild_model.specs.KeepingLaws.{IsCopied, SectionsAreKept, BytesAreGiven}
use Rattle.elfkit_outcomes.specs.rebuild_changes.declared.options.CopyChanges.{CopyChanges}
use Rattle.tool_output.specs.Outcomes.{FileWrite, write_of}
use Rattle.elfkit_outcomes.specs.Files.{bytes_of_each}
use Rattle.elfkit_outcomes.specs.Copy.{changes_with, copy_outcome}

-- files hold bytes, the new names and those of new sections are bytes, and flags have 64 bits, as
-- those of every run
pub record AreInRange (c : CopyChanges) (named : Map) : Type 0 where
  pub files : (name bytes : List ℕ) → named name ≡ Some bytes → AreBytes bytes
  pub renamed : All (λ r. AreBytes r.new) c.rename
  pub added : All (λ f. AreBytes f.name) c.add
  pub flags : All (λ f. f.bits < 2 ^ 64) c.flags

-- OUT is made anew: it is the image of the object that copied makes of FILE's, with the bytes of
-- the files of -u and -a, and it opens as the object after. Of that and of FILE's the law of copy
-- holds.
pub record CopyWrites (c : CopyChanges) (named : Map) (file : List ℕ) (w : FileWrite)
    : Type 0 where
  pub update : List (List ℕ × List ℕ)
  pub is_update : bytes_of_each named c.update ≡ Ok update
  pub add : List (List ℕ × List ℕ)
  pub is_add : bytes_of_each named c.add ≡ Ok add
  pub before : Object
  pub after : Object
  pub copied : IsCopied (changes_with c update add) before after
  pub read : named file ≡ Some copied.image
  pub written : copied.out ≡ w.bytes
  pub anew : w.in_place ≡ false
  pub kept : SectionsAreKept (changes_with c update add) before after
  pub given : BytesAreGiven (changes_with c update add) before after

-- so it is wherever the outcome of copy has a file OUT
abbrev pub CopiedFilesKeep : Type 0
CopiedFilesKeep =
    (c : CopyChanges) (named : Map) (out file : List ℕ) (w : FileWrite) → AreInRange c named
    → write_of (copy_outcome c named out file).writes out ≡ Some w
    → CopyWrites c named file w

-- and it has one wherever its status is 0
abbrev pub CopyGivesFile : Type 0
CopyGivesFile =
    (c : CopyChanges) (named : Map) (out file : List ℕ)
    → (copy_outcome c named out file).status ≡ 0
    → (w : FileWrite) × (write_of (copy_outcome c named out file).writes out ≡ Some w)
