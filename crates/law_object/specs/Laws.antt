-- Laws over the definitions, each proved as the contract of a function.
use Rattle.std.specs.Prelude.{◌≡◌, ◌≢◌, ℕ, ◌<◌, ◌≤◌, ◌^◌, min, take, drop, All, Bool, true, false, List, [], ◌∷◌, length, map, slice_get, slice_index, Some, None, ◌⊎◌, Ok, IsErr}
use Rattle.elf_types.specs.Kinds.{section_kind}
use Rattle.elf_types.specs.declared.records.Class.{Class}
use Rattle.elf_types.specs.declared.records.Order.{Order}
use Rattle.elf_types.specs.declared.records.Kind.TheVariants as kinds
use Rattle.elf_types.specs.declared.records.Ehdr.{Ehdr}
use Rattle.elf_types.specs.declared.records.Phdr.{Phdr}
use Rattle.elf_types.specs.declared.records.Shdr.{Shdr}
use Rattle.elf_types.specs.declared.records.Sym.{Sym}
use Rattle.elf_types.specs.declared.records.Rel.{Rel}
use Rattle.elf_types.specs.declared.records.Rela.{Rela}
use Rattle.elf_types.specs.declared.records.Dyn.{Dyn}
use Rattle.elf_types.specs.declared.records.Part.{Part}
use Rattle.elf_object.specs.elf_xlate.declared.content.Items.{Items}
use Rattle.elf_types.specs.declared.constants.TheConstants.{MAX_SEGMENTS}
use Rattle.elf_object.specs.elf_xlate.Headers.{IsEhdr, IsPhdr, IsShdr}
use Rattle.elf_object.specs.elf_xlate.Translation.{AreItems, items_kind}
use Rattle.elf_object.specs.elf_ident.declared.fronts.Front.{Front}
use Rattle.elf_object.specs.elf_ident.Reading.{IsFittingFront, IsCounted}
use Rattle.elf_object.specs.elf_layout.declared.parts.PartAt.{PartAt}
use Rattle.elf_object.specs.elf_layout.Capping.{capped}
use Rattle.elf_object.specs.elf_layout.Layout.{placing, refusal_of}
use Rattle.elf_object.specs.elf_layout.Meeting.{meets}
use Rattle.elf_object.specs.Blocks.{Block}
use Rattle.elf_object.specs.Object.{Object, Piece, section_at, has_file_bytes, is_dirty}
use Rattle.elf_object.specs.Open.{begun, opened, created_over}
use Rattle.elf_object.specs.Answers.{content}
use Rattle.elf_object.specs.Joined.{file_bytes, pieces_end}
use Rattle.elf_object.specs.Layout.{parts_of, placed, placed_parts}
use Rattle.elf_object.specs.Image.{image, image_length, part_blocks}
use Rattle.elf_object.specs.Refusal.{placing_refusal, refusal}
use Rattle.elf_object.specs.Settled.{settle, settled}
use Rattle.elf_object.specs.Changed.{torn}
use Rattle.elf_object.specs.Calls.{Call, step}
use Rattle.elf_object.specs.Calls as calls
use Rattle.elf_object.specs.Runs as runs
use Rattle.elf_types.specs.Lists.{AreBytes}
use Rattle.elf_object.specs.Valid.{IsObject, IsTied, KeepsObject, KeepsTied, as_opened}

-- with nothing dirty the image is the base, and an update leaves the object
pub record CleanStays : Type 0 where
  pub same_image : (o : Object) → is_dirty o ≡ false → image o ≡ o.base
  pub same_object : (o : Object) → is_dirty o ≡ false → placed o ≡ o
  pub same_settled : (o : Object) → is_dirty o ≡ false → settle o ≡ o

-- a refused call leaves the object
abbrev pub RefusedStays : Type 0 → Type 0
RefusedStays A = (c : Call A) (o : Object) → IsErr (c.answer o) → step c o ≡ o

-- every step keeps what makes an object; a header that is handed in is in the range of its type,
-- and so is one that a change makes of one that is
pub record EveryStepKeeps : Type 0 where
  pub update_ehdr : (h : Ehdr) → IsEhdr h → KeepsObject (calls.update_ehdr h)
  pub update_phdr : (i : ℕ) (p : Phdr) → KeepsObject (calls.update_phdr i p)
  pub newphdr : (n : ℕ) → KeepsObject (calls.newphdr n)
  pub phdrs_mut : (left : List Phdr) → length left ≤ MAX_SEGMENTS
      → KeepsObject (calls.phdrs_mut left)
  pub update_shdr : (s : ℕ) (h : Shdr) → IsShdr h → KeepsObject (calls.update_shdr s h)
  pub newscn : KeepsObject calls.newscn
  pub newnull : KeepsObject calls.newnull
  pub newdata : (s : ℕ) (items : Items) (align : ℕ)
      → KeepsObject (calls.newdata_aligned s items align)
  pub set_fill : (byte : ℕ) → byte < 2 ^ 8 → KeepsObject (calls.set_fill byte)
  pub replace : (s p : ℕ) (items : Items) → KeepsObject (calls.replace s p items)
  pub flag : (p : Part) (set : Bool) (bits : ℕ) → KeepsObject (calls.flag p set bits)
  pub update_null : KeepsObject calls.update_null
  pub lend : (s p : ℕ) (left : Items) → KeepsObject (calls.lend s p left)
  pub update_half : (s p i v : ℕ) → KeepsObject (calls.update_half s p i v)
  pub update_word : (s p i v : ℕ) → KeepsObject (calls.update_word s p i v)
  pub update_addr : (s p i v : ℕ) → KeepsObject (calls.update_addr s p i v)
  pub update_sym : (s p i : ℕ) (v : Sym) → KeepsObject (calls.update_sym s p i v)
  pub update_rel : (s p i : ℕ) (v : Rel) → KeepsObject (calls.update_rel s p i v)
  pub update_rela : (s p i : ℕ) (v : Rela) → KeepsObject (calls.update_rela s p i v)
  pub update_dynent : (s p i : ℕ) (v : Dyn) → KeepsObject (calls.update_dynent s p i v)
  pub addall : (s p n : ℕ) → KeepsObject (runs.addall s p n)
  pub set_ehdr : (change : Ehdr → Ehdr) → ((h : Ehdr) → IsEhdr h → IsEhdr (change h))
      → KeepsObject (runs.set_ehdr change)
  pub set_phdr : (i : ℕ) (change : Phdr → Phdr) → KeepsObject (runs.set_phdr i change)
  pub set_shdr : (s : ℕ) (change : Shdr → Shdr) → ((h : Shdr) → IsShdr h → IsShdr (change h))
      → KeepsObject (runs.set_shdr s change)
  pub set_half : (s p i : ℕ) (change : ℕ → ℕ)
      → KeepsObject (runs.set_item (calls.half s p i) (calls.update_half s p i) change)
  pub set_word : (s p i : ℕ) (change : ℕ → ℕ)
      → KeepsObject (runs.set_item (calls.word s p i) (calls.update_word s p i) change)
  pub set_addr : (s p i : ℕ) (change : ℕ → ℕ)
      → KeepsObject (runs.set_item (calls.addr s p i) (calls.update_addr s p i) change)
  pub set_sym : (s p i : ℕ) (change : Sym → Sym)
      → KeepsObject (runs.set_item (calls.sym s p i) (calls.update_sym s p i) change)
  pub set_rel : (s p i : ℕ) (change : Rel → Rel)
      → KeepsObject (runs.set_item (calls.rel s p i) (calls.update_rel s p i) change)
  pub set_rela : (s p i : ℕ) (change : Rela → Rela)
      → KeepsObject (runs.set_item (calls.rela s p i) (calls.update_rela s p i) change)
  pub set_dynent : (s p i : ℕ) (change : Dyn → Dyn)
      → KeepsObject (runs.set_item (calls.dynent s p i) (calls.update_dynent s p i) change)

-- every step keeps that an object in which nothing is dirty is that of its base
pub record EveryStepKeepsTied : Type 0 where
  pub update_ehdr : (h : Ehdr) → KeepsTied (calls.update_ehdr h)
  pub update_phdr : (i : ℕ) (p : Phdr) → KeepsTied (calls.update_phdr i p)
  pub newphdr : (n : ℕ) → KeepsTied (calls.newphdr n)
  pub phdrs_mut : (left : List Phdr) → KeepsTied (calls.phdrs_mut left)
  pub update_shdr : (s : ℕ) (h : Shdr) → KeepsTied (calls.update_shdr s h)
  pub newscn : KeepsTied calls.newscn
  pub newnull : KeepsTied calls.newnull
  pub newdata : (s : ℕ) (items : Items) (align : ℕ)
      → KeepsTied (calls.newdata_aligned s items align)
  pub set_fill : (byte : ℕ) → KeepsTied (calls.set_fill byte)
  pub replace : (s p : ℕ) (items : Items) → KeepsTied (calls.replace s p items)
  pub flag : (p : Part) (set : Bool) (bits : ℕ) → KeepsTied (calls.flag p set bits)
  pub update_null : KeepsTied calls.update_null
  pub lend : (s p : ℕ) (left : Items) → KeepsTied (calls.lend s p left)
  pub update_half : (s p i v : ℕ) → KeepsTied (calls.update_half s p i v)
  pub update_word : (s p i v : ℕ) → KeepsTied (calls.update_word s p i v)
  pub update_addr : (s p i v : ℕ) → KeepsTied (calls.update_addr s p i v)
  pub update_sym : (s p i : ℕ) (v : Sym) → KeepsTied (calls.update_sym s p i v)
  pub update_rel : (s p i : ℕ) (v : Rel) → KeepsTied (calls.update_rel s p i v)
  pub update_rela : (s p i : ℕ) (v : Rela) → KeepsTied (calls.update_rela s p i v)
  pub update_dynent : (s p i : ℕ) (v : Dyn) → KeepsTied (calls.update_dynent s p i v)
  pub addall : (s p n : ℕ) → KeepsTied (runs.addall s p n)
  pub set_ehdr : (change : Ehdr → Ehdr) → KeepsTied (runs.set_ehdr change)
  pub set_phdr : (i : ℕ) (change : Phdr → Phdr) → KeepsTied (runs.set_phdr i change)
  pub set_shdr : (s : ℕ) (change : Shdr → Shdr) → KeepsTied (runs.set_shdr s change)
  pub set_half : (s p i : ℕ) (change : ℕ → ℕ)
      → KeepsTied (runs.set_item (calls.half s p i) (calls.update_half s p i) change)
  pub set_word : (s p i : ℕ) (change : ℕ → ℕ)
      → KeepsTied (runs.set_item (calls.word s p i) (calls.update_word s p i) change)
  pub set_addr : (s p i : ℕ) (change : ℕ → ℕ)
      → KeepsTied (runs.set_item (calls.addr s p i) (calls.update_addr s p i) change)
  pub set_sym : (s p i : ℕ) (change : Sym → Sym)
      → KeepsTied (runs.set_item (calls.sym s p i) (calls.update_sym s p i) change)
  pub set_rel : (s p i : ℕ) (change : Rel → Rel)
      → KeepsTied (runs.set_item (calls.rel s p i) (calls.update_rel s p i) change)
  pub set_rela : (s p i : ℕ) (change : Rela → Rela)
      → KeepsTied (runs.set_item (calls.rela s p i) (calls.update_rela s p i) change)
  pub set_dynent : (s p i : ℕ) (change : Dyn → Dyn)
      → KeepsTied (runs.set_item (calls.dynent s p i) (calls.update_dynent s p i) change)

-- an object begun over a front that has the shape of one, and over any bytes of its length, also
-- over a file on disk, which counts as zeros
abbrev pub BegunFits : Type 0
BegunFits =
    (f : Front) (image : List ℕ) → IsFittingFront f → IsCounted f → AreBytes image
    → length image < 2 ^ 64 → IsObject (begun f image)

-- an image that is opened gives an object, whose program headers are in the range of their types,
-- and so does creating one
pub record BeginningsAre : Type 0 where
  pub from_image : (image : List ℕ) (o : Object) → AreBytes image → opened image ≡ Ok o → IsObject o
  pub phdrs : (image : List ℕ) (o : Object) → AreBytes image → opened image ≡ Ok o
      → All IsPhdr o.phdrs
  pub from_nothing : (class : Class) (order : Order) (base : List ℕ) → AreBytes base
      → length base < 2 ^ 64 → IsObject (created_over class order base)

-- an object is that of its base as it is opened or created
pub record BeginningsAreTied : Type 0 where
  pub from_image : (image : List ℕ) (o : Object) → opened image ≡ Ok o → IsTied o
  pub from_nothing : (class : Class) (order : Order) (base : List ℕ)
      → IsTied (created_over class order base)

-- a section's bytes end with its last piece; where something is dirty sh_size as it is stored is
-- their number; an image is as long as said
pub record SizesAreLengths : Type 0 where
  pub of_pieces : (o : Object) (s : ℕ) → has_file_bytes s (section_at o s) ≡ true
      → length (file_bytes o s) ≡ pieces_end o s
  pub as_stored : (o : Object) (s : ℕ) → is_dirty o ≡ true → s < length o.sections
      → has_file_bytes s (section_at o s) ≡ true
      → (section_at (placed o) s).header.size ≡ length (file_bytes o s)
  pub of_image : (o : Object) → length (image o) ≡ image_length o

-- without ELF_F_LAYOUT no two parts share a byte
abbrev pub PartsDoNotMeet : Type 0
PartsDoNotMeet =
    (o : Object) (i j : ℕ) (p q : PartAt) → o.layout ≡ false → i < j
    → slice_get (placed_parts o) i ≡ Some p → slice_get (placed_parts o) j ≡ Some q
    → meets p q ≡ false

-- Parts may be told with lengths of at most 2^64 - 1: a section's bytes may be more. They are
-- refused and placed as the object's parts are, and are these where nothing is refused.
pub record IsCappedAlike (o : Object) : Type 0 where
  pub refused : refusal_of (map capped (parts_of o)) o.layout (length o.base) o.header.class
      ≡ placing_refusal o
  pub placed : placing (map capped (parts_of o)) o.layout (length o.base) o.header.class
      ≡ placing (parts_of o) o.layout (length o.base) o.header.class
  pub same : placing_refusal o ≡ None → map capped (parts_of o) ≡ parts_of o

abbrev pub PartsMayBeCapped : Type 0
PartsMayBeCapped = (o : Object) → IsObject o → IsCappedAlike o

-- where the update is not refused, the places that are stored stay where nothing else is edited
abbrev pub PlacedStays : Object → Type 0
PlacedStays o =
    IsObject o → refusal o ≡ None
    → (placed (placed o) ≡ placed o) × (refusal (placed o) ≡ None) × (image (placed o) ≡ image o)

-- what a failed write may leave below the length of the base: at each place the base's byte or the
-- image's. Where the image is the shorter one, it may be cut there or not yet.
pub record IsTornImage (o : Object) (bytes : List ℕ) : Type 0 where
  pub len : (length bytes ≡ length o.base) ⊎ (length bytes ≡ min (length o.base) (length (image o)))
  pub each : (k : ℕ) → k < length bytes
      → (slice_index bytes k ≡ slice_index o.base k)
      ⊎ (slice_index bytes k ≡ slice_index (image o) k)

-- where something is dirty and the update is not refused, a torn object has the same image
abbrev pub TornLaw : Object → Type 0
TornLaw o =
    (bytes : List ℕ) → IsObject o → is_dirty o ≡ true → refusal o ≡ None → IsTornImage o bytes
    → (refusal (torn o bytes) ≡ None) × (image (torn o bytes) ≡ image o)

-- where something is dirty and the update is not refused, each part stands in the image with all of
-- its bytes
abbrev pub PartsStand : Object → Type 0
PartsStand o =
    (i : ℕ) (b : Block) → IsObject o → is_dirty o ≡ true → refusal o ≡ None
    → slice_get (part_blocks (placed o)) i ≡ Some b
    → take (length b.bytes) (drop b.at (image o)) ≡ b.bytes

-- where the update is not refused, the image of an object, opened again, is that object settled,
-- but for ELF_F_LAYOUT and the fill byte
abbrev pub ReopenLaw : Object → Type 0
ReopenLaw o =
    IsObject o → All IsPhdr o.phdrs → IsTied o → refusal o ≡ None
    → opened (image o) ≡ Ok (as_opened (settle o))

-- where the update is not refused, the image is made of bytes, and an update in place leaves an
-- object, whether the source tells its bytes or not, and so does one that failed
pub record UpdatesKeep (o : Object) : Type 0 where
  pub bytes : IsObject o → refusal o ≡ None → AreBytes (image o)
  pub left : (told : Bool) → IsObject o → refusal o ≡ None → IsObject (settled told o)
  pub settled : IsObject o → refusal o ≡ None → IsObject (settle o)
  pub torn : (bytes : List ℕ) → IsObject o → refusal o ≡ None → AreBytes bytes
      → length bytes < 2 ^ 64 → IsObject (torn o bytes)

-- where it is not refused, an update in place leaves an object that is that of its base; one that
-- failed does too, since it leaves a mark
pub record UpdatesTie (o : Object) : Type 0 where
  pub settled : IsObject o → All IsPhdr o.phdrs → IsTied o → refusal o ≡ None → IsTied (settle o)
  pub torn : (bytes : List ℕ) → IsTied o → IsTied (torn o bytes)

-- where the update is not refused, settling keeps the items of an own piece that stands alone in a
-- section from 1 on and is of the kind of its present header, which has items
abbrev pub SettlingKeepsItems : Object → Type 0
SettlingKeepsItems o =
    (s : ℕ) (p : Piece) (items : Items) → IsObject o → refusal o ≡ None → 0 < s
    → s < length o.sections → (section_at o s).pieces ≡ p ∷ [] → p.own ≡ Some items → AreItems items
    → items_kind items ≡ section_kind (section_at o s).header
    → items_kind items ≢ kinds.Empty → content (settle o) s ≡ Ok items
