-- What the file that rehash writes has of FILE, and what its hash sections are good for (gABI
-- chapter 5, "Hash Table"; GNU's hash section).
use Rattle.std.specs.Prelude.{◌≡◌, ℕ, ◌<◌, true, false, List, Option, None, Some, Ok}
use Rattle.elf_types.specs.Lists.{AreBytes}
use Rattle.elf_outside.specs.Names.{Map}
use Rattle.elf_object.specs.Object.{Object}
use Rattle.elf_object.specs.Open.{opened}
use Rattle.elf_object.specs.Sections.{header_at}
use Rattle.elf_object.specs.Calls.{Call}
use Rattle.rebuild_model.specs.Files.{file_of}
use Rattle.rebuild_model.specs.Rehashed.{dynamic_symbols, gnu_section, sysv_section, rehashed}
use Rattle.symbol_lookup.specs.Lookups.{find_linear, find_sysv, find_gnu}
use Rattle.tool_output.specs.Outcomes.{FileWrite, write_of}
use Rattle.elfkit_outcomes.specs.Copy.{rehash_outcome}
use Rattle.law_hash.specs.Rehash.{HasStringsApart, WrittenKeepsLookup}
use Rattle.elf_lint.specs.Reach.{finds_nothing_at}

-- a hash section of the symbols of section s: elflint finds nothing there by a rule, and a lookup
-- by it finds for every name what a search among all symbols finds
pub record LooksUpAll (rule : ℕ) (find : ℕ → List ℕ → Call (Option ℕ)) (o : Object) (h s : ℕ)
    : Type 0 where
  pub from_1 : 0 < h
  pub link : (header_at o h).link ≡ s
  pub no_finding : finds_nothing_at rule o h ≡ true
  pub found : (name : List ℕ) → (find h name).answer o ≡ (find_linear s name).answer o

-- of the dynamic symbols, which are those of section s: what lookups and relocations found is kept,
-- and the hash sections that are built anew, of which one is there, look all of them up where their
-- names are no strings of section 0, of which no bytes are written
pub record KeepsDynamic (before after : Object) (s : ℕ) : Type 0 where
  pub lookup : WrittenKeepsLookup before after s
  pub some : gnu_section before s ≡ None → sysv_section before s ≡ None → ⊥
  pub sysv : (h : ℕ) → sysv_section before s ≡ Some h → HasStringsApart before s
      → LooksUpAll 31 find_sysv after h s
  pub gnu : (g : ℕ) → gnu_section before s ≡ Some g → HasStringsApart before s
      → LooksUpAll 32 find_gnu after g s

-- OUT is made anew: it is the image of the object that rehashed makes of FILE's, and opens as the
-- object after. FILE's has a table of dynamic symbols; where that is not section 0, they are kept.
pub record RehashMakes (named : Map) (file : List ℕ) (w : FileWrite) : Type 0 where
  pub image : List ℕ
  pub read : named file ≡ Some image
  pub before : Object
  pub is_before : opened image ≡ Ok before
  pub edited : Object
  pub is_edited : rehashed before ≡ Ok edited
  pub written : file_of edited ≡ Ok w.bytes
  pub anew : w.in_place ≡ false
  pub after : Object
  pub is_after : opened w.bytes ≡ Ok after
  pub table : ℕ
  pub is_table : dynamic_symbols before ≡ Some table
  pub keeps : 0 < table → KeepsDynamic before after table

-- so it is wherever FILE holds bytes, and the outcome of rehash has a file OUT
abbrev pub RehashFilesKeep : Type 0
RehashFilesKeep =
    (named : Map) (out file : List ℕ) (w : FileWrite)
    → ((bytes : List ℕ) → named file ≡ Some bytes → AreBytes bytes)
    → write_of (rehash_outcome named out file).writes out ≡ Some w
    → RehashMakes named file w

-- and it has one wherever its status is 0
abbrev pub RehashGivesFile : Type 0
RehashGivesFile =
    (named : Map) (out file : List ℕ) → (rehash_outcome named out file).status ≡ 0
    → (w : FileWrite) × (write_of (rehash_outcome named out file).writes out ≡ Some w)
