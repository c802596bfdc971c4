-- What copy keeps, and that what was split combines again, as laws over the definitions.
use Rattle.std.specs.Prelude.{◌≡◌, ◌≢◌, ℕ, ◌+◌, ◌<◌, ◌≤◌, Bool, true, false, List, [], ◌∷◌, ◌++◌, length, slice_get, Option, Some, None, Result, Ok, Err}
use Rattle.std.specs.List.{flat_map}
use Rattle.elf_types.specs.declared.records.Ehdr.{Ehdr}
use Rattle.elf_types.specs.declared.records.Shdr.{Shdr}
use Rattle.elf_types.specs.declared.errors.ElfError.{ElfError}
use Rattle.elf_types.specs.declared.errors.ElfError.TheVariants.{TooLarge}
use Rattle.hash_model.specs.elf_ident.Front.{zero_shdr}
use Rattle.hash_model.specs.elf_object.Object.{Object, Section, section_at}
use Rattle.hash_model.specs.elf_object.Open.{opened}
use Rattle.hash_model.specs.elf_object.Refusal.{refusal}
use Rattle.elf_types.specs.Lists.{AreBytes}
use Rattle.hash_model.specs.elf_object.Sections.{is_allocated, is_program, header_at, is_among, in_turn}
use Rattle.hash_model.specs.elf_object.Strings.{section_name, or_empty_name}
use Rattle.rebuild_model.specs.Removed.{removed_sections, removed_by_name}
use Rattle.rebuild_model.specs.Arranged.{Rebuilt}
use Rattle.rebuild_model.specs.Rebuilt.{rebuilt, renews_names}
use Rattle.rebuild_model.specs.Copied.{Changes, CopyFault, copied, names_in, section_named, with_bytes, with_name}
use Rattle.rebuild_model.specs.Split.{UnstripFault, debug_of, unstripped, removed_allocated}
use Rattle.rebuild_model.specs.Split.UnstripFault.{Elf}
use Rattle.rebuild_model.specs.Files.{file_of}
use Rattle.rebuild_model.specs.Laws.{AreChanges}

-- ---- Copy keeps the rest

-- an image, the changes, what copy writes, and the objects of both
pub record IsCopied (c : Changes) (before after : Object) : Type 0 where
  pub image : List ℕ
  pub bytes : AreBytes image
  pub is_before : opened image ≡ Ok before
  pub made : Rebuilt
  pub is_made : copied c before ≡ Ok made
  pub out : List ℕ
  pub is_out : file_of made.object ≡ Ok out
  pub is_after : opened out ≡ Ok after

abbrev pub or_nowhere : Result ℕ CopyFault → List ℕ
or_nowhere (Ok s) = s ∷ []
or_nowhere (Err e) = []

-- the sections that changes of bytes choose by their names, each as the object stands then
unfoldable pub chosen_for_bytes : Object → List (List ℕ × List ℕ) → List ℕ
chosen_for_bytes o [] = []
chosen_for_bytes o (change ∷ later) =
    or_nowhere (section_named (names_in o) change.0)
    ++ elim (with_bytes o change) [ Ok new ↦ chosen_for_bytes new later | Err fault ↦ [] ]

-- those that new names choose
unfoldable pub chosen_for_names : List (Option (List ℕ)) → List (List ℕ × List ℕ) → List ℕ
chosen_for_names names [] = []
chosen_for_names names (change ∷ later) =
    or_nowhere (section_named names change.0)
    ++ elim (with_name names change) [ Ok new ↦ chosen_for_names new later | Err fault ↦ [] ]

-- those that new flags choose, by the new names
abbrev pub chosen_for_flags : List (Option (List ℕ)) → List (List ℕ × ℕ) → List ℕ
chosen_for_flags names changes =
    flat_map (λ change. or_nowhere (section_named names change.0)) changes

abbrev pub or_old : {A : Type 0} → A → Result A CopyFault → A
or_old old (Ok new) = new
or_old old (Err fault) = old

-- all sections that an option chooses, in an object that was made anew
unfoldable pub chosen : Changes → Object → List ℕ
chosen c o =
    let updated = or_old o (in_turn with_bytes o c.update) in
    let names = or_old (names_in updated) (in_turn with_name (names_in updated) c.rename) in
    chosen_for_bytes o c.update
    ++ (chosen_for_names (names_in updated) c.rename ++ chosen_for_flags names c.flags)

-- a header but for sh_name and sh_offset
abbrev pub without_places : Shdr → Shdr
without_places h = record h { name = 0; offset = 0 }

-- the object that the changes after the first kind begin with
abbrev pub rebuilt_for : Changes → Object → Result Rebuilt ElfError
rebuilt_for c before = rebuilt before (removed_by_name c.remove before)

-- without -R, a section from 1 on that stays: it is not the table of the names, and no option
-- chooses it
pub record IsLeft (c : Changes) (before : Object) (r : Rebuilt) (s : ℕ) : Type 0 where
  pub none_removed : c.remove ≡ []
  pub rebuilt : rebuilt_for c before ≡ Ok r
  pub from_1 : 1 ≤ s
  pub there : s < length before.sections
  pub no_table : s ≢ before.header.shstrndx
  pub not_chosen : is_among (chosen c r.object) s ≡ false

-- a name that is kept; where the table of the names is made anew, one that is none becomes the
-- empty one
abbrev pub kept_name : Bool → Option (List ℕ) → Option (List ℕ)
kept_name true name = Some (or_empty_name name)
kept_name false name = name

-- without -R such a section keeps its number, its header but for sh_name and sh_offset, and its
-- bytes; and its name where no new bytes were given to the table of the names
pub record SectionsAreKept (c : Changes) (before after : Object) : Type 0 where
  pub header : (r : Rebuilt) (s : ℕ) → IsLeft c before r s
      → without_places (header_at after s) ≡ without_places (header_at before s)
  pub bytes : (r : Rebuilt) (s : ℕ) → IsLeft c before r s
      → (section_at after s).raw ≡ (section_at before s).raw
  pub name : (r : Rebuilt) (s : ℕ) → IsLeft c before r s
      → is_among (chosen_for_bytes r.object c.update) before.header.shstrndx ≡ false
      → section_name after s ≡ kept_name (renews_names before []) (section_name before s)

-- the last change of bytes that chooses a section
pub record IsLastUpdate (c : Changes) (o : Object) (r : Rebuilt) (s : ℕ) (b : List ℕ) : Type 0 where
  pub rebuilt : rebuilt_for c o ≡ Ok r
  pub earlier : List (List ℕ × List ℕ)
  pub later : List (List ℕ × List ℕ)
  pub name : List ℕ
  pub change : c.update ≡ earlier ++ (name, b) ∷ later
  pub old : Object
  pub is_old : in_turn with_bytes r.object earlier ≡ Ok old
  pub chooses : section_named (names_in old) name ≡ Ok s
  pub new : Object
  pub is_new : with_bytes old (name, b) ≡ Ok new
  pub last : is_among (chosen_for_bytes new later) s ≡ false

-- a section that is given bytes has those of the last change that chooses it, and a new section
-- has its own
pub record BytesAreGiven (c : Changes) (before after : Object) : Type 0 where
  pub updated :
      (r : Rebuilt) (s : ℕ) (bytes : List ℕ) → IsLastUpdate c before r s bytes
      → s ≢ r.object.header.shstrndx → (section_at after s).raw ≡ bytes
  pub added :
      (r : Rebuilt) (i : ℕ) (name bytes : List ℕ) → rebuilt_for c before ≡ Ok r
      → slice_get c.add i ≡ Some (name, bytes)
      → (section_at after (length r.object.sections + i)).raw ≡ bytes

abbrev pub CopyLaw : Type 0
CopyLaw =
    (c : Changes) (before after : Object) → AreChanges c → IsCopied c before after
    → SectionsAreKept c before after × BytesAreGiven c before after

-- ---- Split and combine

-- an image and its two halves, as they are opened again
pub record IsSplit (removed : List ℕ) (whole stripped debug : Object) : Type 0 where
  pub image : List ℕ
  pub bytes : AreBytes image
  pub is_whole : opened image ≡ Ok whole
  pub first : record (header_at whole 0) { size = 0; link = 0; info = 0 } ≡ zero_shdr
  pub allocated_stay : removed_allocated whole removed ≡ None
  pub made : Rebuilt
  pub is_made : rebuilt whole removed ≡ Ok made
  pub half : Object
  pub is_half : debug_of whole ≡ Ok half
  pub out : List ℕ
  pub is_out : file_of made.object ≡ Ok out
  pub debug_out : List ℕ
  pub is_debug_out : file_of half ≡ Ok debug_out
  pub is_stripped : opened out ≡ Ok stripped
  pub is_debug : opened debug_out ≡ Ok debug

-- headers but for the places and the values that an update derives
pub record SameHeader (a b : Ehdr) : Type 0 where
  pub class : a.class ≡ b.class
  pub order : a.order ≡ b.order
  pub osabi : a.osabi ≡ b.osabi
  pub abiversion : a.abiversion ≡ b.abiversion
  pub etype : a.etype ≡ b.etype
  pub machine : a.machine ≡ b.machine
  pub entry : a.entry ≡ b.entry
  pub flags : a.flags ≡ b.flags
  pub shstrndx : a.shstrndx ≡ b.shstrndx

-- sections but for their places: that of an allocated section of a program is the same too
pub record SameSection (program : Bool) (a b : Section) : Type 0 where
  pub header : record a.header { offset = 0 } ≡ record b.header { offset = 0 }
  pub place : program ≡ true → is_allocated a.header ≡ true → a.header.offset ≡ b.header.offset
  pub kind : a.home.kind ≡ b.home.kind
  pub raw : a.raw ≡ b.raw
  pub pieces : a.pieces ≡ b.pieces

-- what is combined answers as the image did
pub record SameButPlaces (a b : Object) : Type 0 where
  pub header : SameHeader a.header b.header
  pub phoff : a.phdrs ≢ [] → a.header.phoff ≡ b.header.phoff
  pub phdrs : a.phdrs ≡ b.phdrs
  pub count : length a.sections ≡ length b.sections
  pub first : record (header_at b 0) { size = 0; link = 0; info = 0 } ≡ zero_shdr
  pub sections :
      (s : ℕ) → 1 ≤ s → s < length a.sections
      → SameSection (is_program a) (section_at a s) (section_at b s)

-- no refusal but that of a place that is too large; and else the same object but for places
pub record CombinesAgain (whole stripped debug : Object) : Type 0 where
  pub refused :
      (fault : UnstripFault) → unstripped stripped debug ≡ Err fault → fault ≡ Elf TooLarge
  pub updated :
      (r : Rebuilt) (e : ElfError) → unstripped stripped debug ≡ Ok r → refusal r.object ≡ Some e
      → e ≡ TooLarge
  pub same :
      (r : Rebuilt) (out : List ℕ) (o : Object) → unstripped stripped debug ≡ Ok r
      → file_of r.object ≡ Ok out → opened out ≡ Ok o → SameButPlaces whole o

abbrev pub SplitLaw : Type 0
SplitLaw =
    (debug_only : Bool) (names : List (List ℕ)) (whole stripped debug : Object)
    → IsSplit (removed_sections debug_only names whole) whole stripped debug
    → CombinesAgain whole stripped debug
