-- What strip and rehash keep, and how hash sections are built, as laws over the definitions. They
-- are stated here; docs/PROVED.md says which of them are proved.
use Rattle.std.specs.Prelude.{◌≡◌, ◌↔◌, ℕ, ◌+◌, ◌<◌, ◌≤◌, ◌^◌, Bool, true, false, ◌&&◌, nat_le, nat_lt, List, [], ◌∷◌, length, slice_get, slice_index, All, Option, Some, None, Result, Ok, Err}
use Rattle.std.proofs.Math.ListN.{replicate}
use Rattle.std.specs.List.{list_any, range_with_len}
use Rattle.elf_types.specs.declared.records.Class.{Class}
use Rattle.elf_types.specs.declared.records.Phdr.{Phdr}
use Rattle.elf_types.specs.declared.records.Sym.{Sym}
use Rattle.elf_types.specs.declared.errors.ElfError.{ElfError}
use Rattle.elf_types.specs.declared.constants.TheConstants.{PT_LOAD, SHT_NULL, SHT_REL, SHT_RELA}
use Rattle.hash_model.specs.elf_xlate.Fields.{Field, field, place_in}
use Rattle.hash_model.specs.elf_xlate.Headers.{ehdr_size, shdr_size}
use Rattle.hash_model.specs.elf_ident.declared.fronts.Front.{Front}
use Rattle.hash_model.specs.elf_ident.Front.{front, needs_first}
use Rattle.hash_model.specs.elf_object.Object.{Object}
use Rattle.hash_model.specs.elf_object.Open.{begun, opened, standing_header}
use Rattle.hash_model.specs.elf_object.Answers.{items_at, syms_of, rels_of, relas_of}
use Rattle.hash_model.specs.elf_object.Derived.{where_any}
use Rattle.elf_types.specs.Lists.{AreBytes}
use Rattle.hash_model.specs.elf_object.Valid.{IsObject}
use Rattle.hash_model.specs.elf_object.Sections.{header_at}
use Rattle.rebuild_model.specs.Arranged.{Rebuilt}
use Rattle.rebuild_model.specs.Rebuilt.{rebuilt, stripped}
use Rattle.rebuild_model.specs.Copied.{Changes, copied}
use Rattle.rebuild_model.specs.Split.{debug_of, unstripped}
use Rattle.rebuild_model.specs.Files.{file_of, file_made}
use Rattle.hash_model.specs.Listed.{listed_names, find_linear_answer}
use Rattle.hash_model.specs.HashSections.{is_whole_sysv, is_whole_gnu}
use Rattle.hash_model.specs.Hashes.{gnu_hash}
use Rattle.hash_model.specs.BuiltHashes.{GnuShape, buckets_of, gnu_order_of, first_unsorted, build_sysv_answer, build_gnu_answer}
use Rattle.rebuild_model.specs.Rehashed.{dynamic_symbols, rehashed}
use Rattle.hash_model.specs.Reordered.{reordered}

-- ---- What is made is an object

-- changes whose bytes and flags are in their ranges
pub record AreChanges (c : Changes) : Type 0 where
  pub update : All (λ change. AreBytes change.1) c.update
  pub flags : All (λ change. change.1 < 2 ^ 64) c.flags
  pub rename : All (λ change. AreBytes change.1) c.rename
  pub add : All (λ change. AreBytes change.0 × AreBytes change.1) c.add

-- of each object, whether its source tells its bytes or not
pub record MadeAreObjects : Type 0 where
  pub rebuilt :
      (o : Object) (removed : List ℕ) (r : Rebuilt) → IsObject o → rebuilt o removed ≡ Ok r
      → IsObject r.object
  pub copied :
      (o : Object) (c : Changes) (r : Rebuilt) → IsObject o → AreChanges c → copied c o ≡ Ok r
      → IsObject r.object
  pub reordered :
      (o : Object) (s : ℕ) (order : List ℕ) → IsObject o → length order ≤ 2 ^ 32
      → IsObject (reordered o s order)
  pub rehashed : (o p : Object) → IsObject o → rehashed o ≡ Ok p → IsObject p
  pub debug : (o p : Object) → IsObject o → debug_of o ≡ Ok p → IsObject p
  pub combined :
      (o d : Object) (r : Rebuilt) → IsObject o → IsObject d → unstripped o d ≡ Ok r
      → IsObject r.object

-- ---- Loadable bytes stay

-- a header as linkers write it: nothing in bytes 9 to 15, the sizes of its class, and no number of
-- its own in section 0
pub record IsUsual (f : Front) : Type 0 where
  pub pad : f.pad ≡ replicate 7 0
  pub ehsize : f.ehdr.ehsize ≡ ehdr_size f.ehdr.class
  pub shentsize : f.ehdr.shentsize ≡ where_any (length f.shdrs) (shdr_size f.ehdr.class)
  pub numbers : needs_first (standing_header f) ≡ false

-- the fields that strip may change: e_shoff, e_shnum and e_shstrndx
unfoldable pub changing_fields : List Field
changing_fields = field (32, 4) (40, 8) ∷ field (48, 2) (60, 2) ∷ field (50, 2) (62, 2) ∷ []

abbrev pub is_in_field : Class → ℕ → Field → Bool
is_in_field class k f =
    nat_le (place_in class f).0 k && nat_lt k ((place_in class f).0 + (place_in class f).1)

unfoldable pub may_change : Class → ℕ → Bool
may_change class k = list_any (is_in_field class k) changing_fields

-- the place lies in a segment that is loaded of the file
pub record IsLoaded (phdrs : List Phdr) (k : ℕ) : Type 0 where
  pub segment : ℕ
  pub phdr : Phdr
  pub there : slice_get phdrs segment ≡ Some phdr
  pub load : phdr.ptype ≡ PT_LOAD
  pub from : phdr.offset ≤ k
  pub below : k < phdr.offset + phdr.filesz

-- each byte that is loaded is the same in what strip writes
abbrev pub LoadableBytesStay : Type 0
LoadableBytesStay =
    (image : List ℕ) (f : Front) (debug_only : Bool) (names : List (List ℕ)) (out : List ℕ)
    → AreBytes image → front image ≡ Ok f → IsUsual f
    → file_made (stripped debug_only names (begun f image)) ≡ Ok out
    → (k : ℕ) → IsLoaded f.phdrs k → k < length image → may_change f.ehdr.class k ≡ false
    → (k < length out) × (slice_index out k ≡ slice_index image k)

-- ---- Hash sections

-- a shape that a section can have
pub record IsShape (shape : GnuShape) : Type 0 where
  pub some_buckets : 0 < shape.nbuckets
  pub nbuckets : shape.nbuckets < 2 ^ 32
  pub some_bloom : 0 < shape.bloom
  pub bloom : shape.bloom < 2 ^ 32
  pub shift : shape.shift < 32

-- those that are built are whole
pub record BuiltHashesAreWhole : Type 0 where
  pub sysv :
      (o : Object) (s nbucket : ℕ) (words : List ℕ) → 0 < nbucket → nbucket < 2 ^ 32
      → build_sysv_answer o s nbucket ≡ Ok words → is_whole_sysv words (listed_names o s) ≡ true
  pub gnu :
      (o : Object) (s : ℕ) (shape : GnuShape) (bytes : List ℕ) → IsShape shape
      → build_gnu_answer o s shape ≡ Ok bytes
      → is_whole_gnu o.header.class o.header.order bytes (listed_names o s) ≡ true

-- symbols are refused as unsorted exactly where they do not stand in the order that GNU's section
-- needs
abbrev pub SortedAreBuilt : Type 0
SortedAreBuilt =
    (nbuckets : ℕ) (names : List (Option (List ℕ)))
    → (first_unsorted (buckets_of gnu_hash nbuckets names) ≡ None)
    ↔ (gnu_order_of nbuckets names ≡ range_with_len 0 (length names))

-- ---- Rehash keeps lookup

-- an image, what rehash writes of it, the objects of both, and the table of dynamic symbols
pub record IsRehashed (before after : Object) (s : ℕ) : Type 0 where
  pub image : List ℕ
  pub bytes : AreBytes image
  pub is_before : opened image ≡ Ok before
  pub edited : Object
  pub is_edited : rehashed before ≡ Ok edited
  pub out : List ℕ
  pub is_out : file_of edited ≡ Ok out
  pub is_after : opened out ≡ Ok after
  pub table : dynamic_symbols before ≡ Some s

abbrev pub symbol_at : Object → ℕ → ℕ → Option Sym
symbol_at o s i = slice_get (syms_of (items_at o s 0)) i

-- two lookups found equal symbols, or both none
abbrev pub FoundAlike :
    Object → Object → ℕ → Result (Option ℕ) ElfError → Result (Option ℕ) ElfError → Type 0
FoundAlike before after s (Ok (Some i)) (Ok (Some j)) = symbol_at before s i ≡ symbol_at after s j
FoundAlike before after s (Ok None) (Ok None) = Unit {0}
FoundAlike before after s (Err e) (Err d) = e ≡ d
FoundAlike before after s a b = ⊥

-- a lookup of a name finds the same in both
abbrev pub LooksUpAlike : Object → Object → ℕ → List ℕ → Type 0
LooksUpAlike before after s name =
    FoundAlike
    before
    after
    s
    (find_linear_answer before s name)
    (find_linear_answer after s name)

-- a relocation that named a symbol names an equal one
abbrev pub NamesAlike : Object → Object → ℕ → Option ℕ → Option ℕ → Type 0
NamesAlike before after s (Some i) (Some j) =
    i < length (syms_of (items_at before s 0)) → symbol_at before s i ≡ symbol_at after s j
NamesAlike before after s None None = Unit {0}
NamesAlike before after s a b = ⊥

abbrev pub rel_symbol : Object → ℕ → ℕ → Option ℕ
rel_symbol o n i =
    elim (slice_get (rels_of (items_at o n 0)) i) [ None ↦ None | Some r ↦ Some r.sym ]

abbrev pub rela_symbol : Object → ℕ → ℕ → Option ℕ
rela_symbol o n i =
    elim (slice_get (relas_of (items_at o n 0)) i) [ None ↦ None | Some r ↦ Some r.sym ]

pub record RehashKeepsLookup (before after : Object) (s : ℕ) : Type 0 where
  pub lookups : (name : List ℕ) → LooksUpAlike before after s name
  pub rels : (n i : ℕ) → (header_at before n).stype ≡ SHT_REL → (header_at before n).link ≡ s
      → NamesAlike before after s (rel_symbol before n i) (rel_symbol after n i)
  pub relas : (n i : ℕ) → (header_at before n).stype ≡ SHT_RELA → (header_at before n).link ≡ s
      → NamesAlike before after s (rela_symbol before n i) (rela_symbol after n i)

-- of an image whose section 0 is of type SHT_NULL: what is written has no bytes of section 0
abbrev pub RehashLaw : Type 0
RehashLaw =
    (before after : Object) (s : ℕ) → IsRehashed before after s
    → (header_at before 0).stype ≡ SHT_NULL → RehashKeepsLookup before after s
