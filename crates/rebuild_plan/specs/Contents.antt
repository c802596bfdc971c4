-- What is kept of the sections of an object: their headers, how many bytes they have in the file,
-- and where these are (gABI chapter 4, "Sections").
use Rattle.std.specs.Prelude.{◌≡◌, ℕ, ◌+◌, ◌<◌, ◌≤◌, ◌^◌, Bool, List, [], ◌∷◌, ◌++◌, length, map, sum_by, All, None, Result, IsTrue, IfOk, IfErr, OnOk, if◌then◌else◌}
use Rattle.elf_types.specs.Answers.{first_refusal}
use Rattle.elf_types.specs.declared.constants.TheConstants.{MAX_SECTIONS}
use Rattle.elf_types.specs.declared.records.Kind.{Kind}
use Rattle.elf_types.specs.declared.records.Shdr.{Shdr}
use Rattle.elf_types.specs.declared.errors.ElfError.{ElfError}
use Rattle.elf_outside.specs.declared.sources.Source.{Ghosts}
use Rattle.law_rebuild.specs.elf_ident.Front.{zero_shdr}
use Rattle.law_rebuild.specs.elf_object.Object.{Object, occupies_file}
use Rattle.rebuild_tables.specs.elf_descriptor.State.{State}
use Rattle.law_rebuild.specs.rebuild_model.Followed.{kept_from_1}
use Rattle.rebuild_tables.specs.rebuild_making.Refused.{UnreadBy}
use Rattle.rebuild_tables.specs.rebuild_image.declared.ranges.ranges.ByteRange.{ByteRange}
use Rattle.rebuild_tables.specs.rebuild_image.Ranges.Ranges.{range_bytes}
use Rattle.rebuild_tables.specs.rebuild_keep.declared.keepers.Keeper.{Keeper}
use Rattle.rebuild_tables.specs.rebuild_keep.Keepers.{header_by, kind_by, refusal_by}
use Rattle.rebuild_tables.specs.rebuild_keep.Makes.{AsksFor}
use Rattle.rebuild_plan.specs.declared.contents.Contents.{Contents}
use Rattle.rebuild_plan.specs.Ranges.{bytes_by, making_due, base_due_by, IsRangeOf}
use Rattle.rebuild_plan.specs.Reading.{IsReadAs, AreReadAs, IsReadOf}

-- how many of so many bytes a section with a header has in the file
abbrev pub kept_size : Shdr → ℕ → ℕ
kept_size h len = if occupies_file h then len else 0

-- ---- One section more

-- a header, a size, a range and a kind were put behind the others
pub record IsPushed (h : Shdr) (size : ℕ) (range : ByteRange) (kind : Kind) (old new : Contents)
    : Type 0 where
  pub headers : new.headers ≡ old.headers ++ h ∷ []
  pub sizes : new.sizes ≡ old.sizes ++ size ∷ []
  pub ranges : new.ranges ≡ old.ranges ++ range ∷ []
  pub kinds_are : new.kinds ≡ old.kinds ++ kind ∷ []
  pub held : new.held ≡ old.held
  pub small : size < 2 ^ 64

-- a section with a header and bytes was put behind the others
pub record HasOneMore (told : Bool) (base : List ℕ) (h : Shdr) (bytes : List ℕ) (old new : Contents)
    : Type 0 where
  pub size : ℕ
  pub range : ByteRange
  pub added : List ℕ
  pub headers : new.headers ≡ old.headers ++ h ∷ []
  pub sizes : new.sizes ≡ old.sizes ++ size ∷ []
  pub ranges : new.ranges ≡ old.ranges ++ range ∷ []
  pub held : new.held ≡ old.held ++ added
  pub small : size < 2 ^ 64
  pub size_is : IsTrue told → size ≡ kept_size h (length bytes)
  pub is : IsTrue told → (later : List ℕ)
      → range_bytes (new.held ++ later) base range ≡ bytes

-- a section whose bytes are in a range was put behind the others
abbrev pub IsPutBehind : Shdr → ByteRange → Contents → Contents → Type 0
IsPutBehind h range old new =
    (told : Bool) (base bytes : List ℕ) → IsRangeOf told base bytes old.held old.held range
    → HasOneMore told base h bytes old new

-- a step adds what a keeper makes of a section, and leaves the object
pub record KeepsSection {S : Type 0} (g : Ghosts S) (k : Keeper) (s : ℕ)
    (result : Result (Unit {0}) ElfError) (old new : State S) (contents next : Contents)
    : Type 0 where
  pub ok : OnOk result
      (HasOneMore old.told old.o.base (header_by k old.o s) (bytes_by k old.o s) contents next)
  pub read : OnOk result (IsReadAs (kind_by k old.o s) (base_due_by k old.o s) contents next)
  pub passed : OnOk result (refusal_by k old.o s ≡ None)
  pub err : IfErr result (UnreadBy (refusal_by k old.o s))
  pub asks : AsksFor g result old new (making_due k old.o s)

-- ---- All of them

-- Section 0 and these were kept: they have the stated headers, and where the source tells its bytes
-- the stated ones, in their ranges, whatever is held behind.
pub record AreKeptSections (told : Bool) (base : List ℕ) (header : ℕ → Shdr) (bytes : ℕ → List ℕ)
    (numbers : List ℕ) (x : Contents) : Type 0 where
  pub headers : x.headers ≡ zero_shdr ∷ map header numbers
  pub sized : length x.sizes ≡ length numbers + 1
  pub small : All (λ n. n < 2 ^ 64) x.sizes
  pub sizes : IsTrue told
      → x.sizes ≡ 0 ∷ map (λ s. kept_size (header s) (length (bytes s))) numbers
  pub ranges : IsTrue told → (later : List ℕ)
      → map (range_bytes (x.held ++ later) base) x.ranges ≡ [] ∷ map bytes numbers

-- section 0 alone was kept
abbrev pub HasFirst : Contents → Type 0
HasFirst x =
    (told : Bool) (base : List ℕ) (header : ℕ → Shdr) (bytes : ℕ → List ℕ)
    → AreKeptSections told base header bytes [] x

-- by a keeper
abbrev pub AreKeptBy : {S : Type 0} → Keeper → State S → List ℕ → Contents → Type 0
AreKeptBy k s numbers x =
    AreKeptSections s.told s.o.base (header_by k s.o) (bytes_by k s.o) numbers x

-- as what they are read
abbrev pub AreReadBy : Keeper → Object → List ℕ → Contents → Type 0
AreReadBy k o numbers x = AreReadAs (kind_by k o) (base_due_by k o) numbers x

-- what is asked for
abbrev pub sections_due : Keeper → Object → List ℕ → ℕ
sections_due k o numbers = sum_by (making_due k o) numbers

-- a step adds what a keeper makes of some sections, and leaves the object
pub record KeepsSections {S : Type 0} (g : Ghosts S) (k : Keeper) (numbers : List ℕ)
    (result : Result (Unit {0}) ElfError) (old new : State S) (next : Contents) : Type 0 where
  pub ok : OnOk result (AreKeptBy k old numbers next)
  pub read : OnOk result (AreReadBy k old.o numbers next)
  pub passed : OnOk result (first_refusal (map (refusal_by k old.o) numbers) ≡ None)
  pub err : IfErr result (UnreadBy (first_refusal (map (refusal_by k old.o) numbers)))
  pub asks : AsksFor g result old new (sections_due k old.o numbers)

-- what was kept of so many sections, section 0 among them: nothing where there are none
pub record HasKept (told : Bool) (base : List ℕ) (header : ℕ → Shdr) (bytes : ℕ → List ℕ)
    (numbers : List ℕ) (count : ℕ) (x : Contents) : Type 0 where
  pub few : length x.headers ≤ MAX_SECTIONS
  pub same : length x.sizes ≡ length x.headers
  pub none : count ≡ 0 → (x.headers ≡ []) × (x.sizes ≡ [])
  pub some : (count ≡ 0 → ⊥) → AreKeptSections told base header bytes numbers x

-- by a keeper
abbrev pub HasContents : {S : Type 0} → Keeper → State S → Contents → Type 0
HasContents k s x =
    HasKept s.told s.o.base (header_by k s.o) (bytes_by k s.o) (kept_from_1 s.o k.removed.now)
    (length s.o.sections) x

abbrev pub IsReadBy : Keeper → Object → Contents → Type 0
IsReadBy k o x =
    IsReadOf (kind_by k o) (base_due_by k o) (kept_from_1 o k.removed.now) (length o.sections) x

-- a step keeps what a keeper makes of all sections that are kept, and leaves the object
pub record KeepsContents {S : Type 0} (g : Ghosts S) (k : Keeper) (numbers : List ℕ)
    (result : Result Contents ElfError) (old new : State S) : Type 0 where
  pub ok : IfOk result (HasContents k old)
  pub read : IfOk result (IsReadBy k old.o)
  pub passed : OnOk result (first_refusal (map (refusal_by k old.o) numbers) ≡ None)
  pub err : IfErr result (UnreadBy (first_refusal (map (refusal_by k old.o) numbers)))
  pub asks : AsksFor g result old new (sections_due k old.o numbers)
