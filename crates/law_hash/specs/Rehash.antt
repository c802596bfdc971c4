-- What rehash keeps of the dynamic symbols of an object, and what the hash sections that it builds
-- hold in the image that it writes.
use Rattle.std.specs.Prelude.{◌≡◌, ◌≢◌, ℕ, ◌<◌, List, Some, Ok}
use Rattle.elf_types.specs.declared.constants.TheConstants.{SHT_REL, SHT_RELA, SHT_STRTAB}
use Rattle.rebuild_model.specs.elf_object.Object.{Object}
use Rattle.rebuild_model.specs.elf_object.Sections.{header_at}
use Rattle.rebuild_model.specs.hash_model.BuiltHashes.{GnuShape}
use Rattle.rebuild_model.specs.Laws.{IsRehashed, LooksUpAlike, NamesAlike, rel_symbol, rela_symbol, RehashKeepsLookup}
use Rattle.rebuild_model.specs.Rehashed.{dynamic_symbols, gnu_section, sysv_section, rehashed}
use Rattle.law_hash.specs.Built.{HoldsSysv, HoldsGnu}

-- in what is made of an object, a lookup of a name finds an equal symbol or none as before, and a
-- relocation that named a symbol names an equal one
abbrev pub RehashedKeepsLookup : Type 0
RehashedKeepsLookup =
    (before after : Object) (s : ℕ) → rehashed before ≡ Ok after → dynamic_symbols before ≡ Some s
    → RehashKeepsLookup before after s

-- ---- Of an image and what is written of it

-- the names of a table's symbols are not strings of section 0, of which no bytes are written
abbrev pub HasStringsApart : Object → ℕ → Type 0
HasStringsApart o s = (header_at o s).link ≡ 0 → (header_at o 0).stype ≢ SHT_STRTAB

-- lookups where these strings are written, and relocations of sections that are
pub record WrittenKeepsLookup (before after : Object) (s : ℕ) : Type 0 where
  pub lookups : HasStringsApart before s → (name : List ℕ) → LooksUpAlike before after s name
  pub rels : (n i : ℕ) → 0 < n → (header_at before n).stype ≡ SHT_REL
      → (header_at before n).link ≡ s
      → NamesAlike before after s (rel_symbol before n i) (rel_symbol after n i)
  pub relas : (n i : ℕ) → 0 < n → (header_at before n).stype ≡ SHT_RELA
      → (header_at before n).link ≡ s
      → NamesAlike before after s (rela_symbol before n i) (rela_symbol after n i)

-- so it is where the table is not section 0
abbrev pub RehashWrites : Type 0
RehashWrites =
    (before after : Object) (s : ℕ) → IsRehashed before after s → 0 < s
    → WrittenKeepsLookup before after s

-- ---- The sections that are built anew

-- GNU's hash section of a table holds what is built in some shape
pub record HoldsRebuiltGnu (o : Object) (g : ℕ) : Type 0 where
  pub shape : GnuShape
  pub holds : HoldsGnu o g shape

-- the one of words what is built for some buckets
pub record HoldsRebuiltSysv (o : Object) (h : ℕ) : Type 0 where
  pub nbucket : ℕ
  pub holds : HoldsSysv o h nbucket

-- in the image again they stand under their numbers, from 1 on, link to the table, and hold what
-- is built for it
pub record RebuiltStand (before after : Object) (s : ℕ) : Type 0 where
  pub gnu : (g : ℕ) → gnu_section before s ≡ Some g
      → (0 < g) × ((header_at after g).link ≡ s) × HoldsRebuiltGnu after g
  pub sysv : (h : ℕ) → sysv_section before s ≡ Some h
      → (0 < h) × ((header_at after h).link ≡ s) × HoldsRebuiltSysv after h

abbrev pub RehashRebuilds : Type 0
RehashRebuilds =
    (before after : Object) (s : ℕ) → IsRehashed before after s → 0 < s
    → HasStringsApart before s → RebuiltStand before after s
