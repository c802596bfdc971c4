-- The plan of an image that is made anew, by its listed headers and the ranges of its sections:
-- when it is that of an object, and what it answers (gABI chapter 4, "ELF Header" and "Section
-- Header").
use Rattle.std.specs.Prelude.{◌≡◌, ◌⊎◌, ℕ, ◌==◌, ◌+◌, ◌<◌, ◌≤◌, ◌&&◌, ◌||◌, Bool, true, List, [], ◌++◌, length, take, slice_get, sum_by, unwrap_or, if◌then◌else◌, Option, Some, None, is_some, Result, Ok, Err, IsTrue, IfOk, IfErr}
use Rattle.std.proofs.Math.ListN.{replicate}
use Rattle.elf_types.specs.declared.constants.TheConstants.{EV_CURRENT, MAX_SECTIONS}
use Rattle.elf_types.specs.declared.records.Ehdr.{Ehdr}
use Rattle.elf_types.specs.declared.records.Phdr.{Phdr}
use Rattle.elf_types.specs.declared.errors.ElfError.{ElfError}
use Rattle.elf_types.specs.declared.errors.ElfError.TheVariants.{Memory, Read, Write, TooLarge}
use Rattle.elf_outside.specs.Asks.{ReadRose}
use Rattle.elf_outside.specs.declared.sources.Source.{Ghosts}
use Rattle.law_rebuild.specs.elf_object.Object.{Object, header_of, section_at, occupies_file, is_dirty}
use Rattle.law_rebuild.specs.elf_object.Due.{homes_due}
use Rattle.law_rebuild.specs.elf_object.Image.{kept_base}
use Rattle.law_rebuild.specs.elf_object.Joined.{aligned_pieces}
use Rattle.law_rebuild.specs.elf_object.Refusal.{content_refusal}
use Rattle.law_rebuild.specs.elf_object.Valid.{IsObject}
use Rattle.rebuild_tables.specs.elf_descriptor.State.{State}
use Rattle.rebuild_tables.specs.elf_update_plan.Placing.{IsRefused}
use Rattle.law_rebuild.specs.rebuild_model.Arranged.{Rebuilt, placed_from}
use Rattle.law_rebuild.specs.rebuild_model.Files.{file_made}
use Rattle.law_rebuild.specs.rebuild_model.Followed.{kept_from_1}
use Rattle.law_rebuild.specs.rebuild_model.Rebuilt.{rebuilt, rebuilt_tail, renews_names, items_follow}
use Rattle.rebuild_tables.specs.rebuild_making.Placing.{arranged_refusal}
use Rattle.rebuild_tables.specs.rebuild_image.declared.listed.listed.HeaderListing.{HeaderListing}
use Rattle.rebuild_tables.specs.rebuild_image.Listed.Listing.{IsHeaderListing}
use Rattle.rebuild_tables.specs.rebuild_image.declared.ranges.ranges.ByteRange.{ByteRange}
use Rattle.rebuild_tables.specs.rebuild_image.Ranges.Ranges.{KeptSource, KeptRanges, pieces_at}
use Rattle.rebuild_tables.specs.rebuild_image.Ranges.Images.{AreRangesOf, ranged_text}
use Rattle.rebuild_tables.specs.rebuild_select.Calls.{names_home}
use Rattle.rebuild_tables.specs.rebuild_keep.Answers.{EarlyBy, early_refusal, kept_reads, rebuild_due}
use Rattle.rebuild_tables.specs.rebuild_keep.Makes.{AsksFor}
use Rattle.rebuild_tables.specs.rebuild_image.declared.streaming.Streamed.{Streamed}
use Rattle.rebuild_tables.specs.rebuild_image.Planning.{IsLaidOut}
use Rattle.rebuild_plan.specs.declared.arranged.Arranged.{Arranged}
use Rattle.rebuild_plan.specs.declared.contents.Contents.{Contents}
use Rattle.rebuild_plan.specs.declared.plans.RangedPlan.{RangedPlan}
use Rattle.rebuild_plan.specs.Reading.{ranges_due, rebuilt_kinds}

-- ---- The header

-- the header of an object that was created with the class and the order of another one, and has the
-- stored fields of its header, its program headers, a string index and so many sections
unfoldable pub new_header : Object → ℕ → ℕ → Ehdr
new_header o index count = record (header_of o) {
  version = EV_CURRENT;
  ehsize = 0;
  phentsize = 0;
  shentsize = 0;
  shnum = count;
  shstrndx = index;
}

-- ---- Places behind a tail, where there is one

abbrev pub arranged_object : Object → Option ℕ → Object
arranged_object p None = p
arranged_object p (Some tail) = placed_from p tail

-- the object is arranged, and these are its headers
pub record IsArrangedTo (p : Object) (tail : Option ℕ) (next : HeaderListing) : Type 0 where
  pub passed : arranged_refusal p tail ≡ None
  pub listed : IsHeaderListing (arranged_object p tail) next

-- it is refused, which comes behind a tail alone
pub record IsRefusedTo (x : HeaderListing) (tail : Option ℕ) (e : ElfError) : Type 0 where
  pub error : e ≡ TooLarge
  pub behind : is_some tail ≡ true
  pub refused : (p : Object) → IsHeaderListing p x → arranged_refusal p tail ≡ Some TooLarge

-- listed headers are arranged, as many as before, or their places are refused
pub record ArrangesTo (x : HeaderListing) (tail : Option ℕ) (result : Result HeaderListing ElfError)
    : Type 0 where
  pub ok : IfOk result (λ next. (p : Object) → IsHeaderListing p x → IsArrangedTo p tail next)
  pub count : IfOk result (λ next. length next.headers ≡ length x.headers)
  pub sizes : IfOk result (λ next. length next.sizes ≡ length x.headers)
  pub err : IfErr result (λ e. (e ≡ Memory) ⊎ IsRefusedTo x tail e)

-- ---- Ranges

-- each section of an object that has bytes in the file is the range that stands for it
pub record HasRanges (q : Object) (base held : List ℕ) (ranges : List ByteRange) : Type 0 where
  pub each : (s : ℕ) → 0 < s → s < length q.sections
      → occupies_file (section_at q s).header ≡ true → (later : List ℕ)
      → pieces_at (held ++ later) base (slice_get ranges s)
      ≡ aligned_pieces q.header.class q.header.order (section_at q s)

-- all of the parts of an image that is copied out of a source
abbrev pub kept_with : KeptSource → RangedPlan → KeptRanges
kept_with e x = record { source = e; held = x.held; ranges = x.ranges; kept = x.kept }

-- they are those of an object, over a base
abbrev pub AreRangesBy : Object → List ℕ → RangedPlan → Type 0
AreRangesBy q base x =
    (e : KeptSource) → e.base ≡ base → AreRangesOf q (kept_with e x) x.plan x.end

-- ---- From listed headers to the plan

-- what was planned and held of them, and the ranges of the sections, over so many bytes of the base
abbrev pub plan_of : List ℕ → List ByteRange → ℕ → Streamed → RangedPlan
plan_of held ranges kept streamed = record {
  held = held;
  ranges = record {
    header = streamed.front.header;
    segments = streamed.front.segments;
    table = streamed.front.table;
    sections = ranges;
  };
  kept = kept;
  plan = streamed.planned.parts;
  end = streamed.planned.places.end;
}

-- an object is made over a base, with these program headers: its headers are listed, its sections
-- have these ranges, and the bytes before the tail are its base
pub record IsRangedAs (phdrs : List Phdr) (base : List ℕ) (q : Object) (x : HeaderListing)
    (found : List ByteRange) (held : List ℕ) (tail : Option ℕ) : Type 0 where
  pub laid : IsLaidOut q x (is_some tail) (unwrap_or tail 0)
  pub pad : q.pad ≡ replicate 7 0
  pub segments : q.phdrs ≡ phdrs
  pub fill : q.fill ≡ 0
  pub below : take (unwrap_or tail 0) base ≡ q.base
  pub kept : kept_base q ≡ unwrap_or tail 0
  pub ranges : HasRanges q base held found

-- what is planned of such an object, or refused, whatever the base is; nothing is read
pub record PlansCopied (phdrs : List Phdr) (x : HeaderListing) (ranges : List ByteRange)
    (held : List ℕ)
    (tail : Option ℕ) (result : Result RangedPlan ElfError) : Type 0 where
  pub ok : IfOk result (λ plan. (base : List ℕ) (q : Object)
      → IsRangedAs phdrs base q x ranges held tail → AreRangesBy q base plan)
  pub err : IfErr result (λ e. (base : List ℕ) (q : Object)
      → IsRangedAs phdrs base q x ranges held tail → IsRefused q e)
  pub unread : (a b : ℕ) → ReadRose result a b

-- the same before its places are given
pub record IsGathered (phdrs : List Phdr) (base : List ℕ) (p : Object) (x : HeaderListing)
    (found : List ByteRange) (held : List ℕ) (tail : Option ℕ) : Type 0 where
  pub listed : IsHeaderListing p x
  pub layout : p.layout ≡ is_some tail
  pub long : length p.base ≡ unwrap_or tail 0
  pub pad : p.pad ≡ replicate 7 0
  pub segments : p.phdrs ≡ phdrs
  pub fill : p.fill ≡ 0
  pub below : take (unwrap_or tail 0) base ≡ p.base
  pub ranges : HasRanges p base held found

-- an update writes it, where its places allow that
pub record MayBeWritten (q : Object) : Type 0 where
  pub object : IsObject q
  pub dirty : is_dirty q ≡ true
  pub content : content_refusal q ≡ None

-- ---- What was kept, with its places

abbrev pub IsRangedBy : List Phdr → List ℕ → Object → Arranged → Type 0
IsRangedBy phdrs base q x = IsRangedAs phdrs base q x.listed x.ranges x.held x.tail

-- there are no more headers than sections may be, and each has a size
pub record IsListable (x : Arranged) : Type 0 where
  pub few : length x.listed.headers ≤ MAX_SECTIONS
  pub same : length x.listed.sizes ≡ length x.listed.headers

-- the headers of what was kept, with the new header
abbrev pub listed_of : Object → ℕ → Contents → HeaderListing
listed_of o index x = record {
  header = new_header o index (length x.headers);
  headers = x.headers;
  sizes = x.sizes;
}

-- an object with the program headers and the header of another one has what was kept
abbrev pub IsGatheredOf : Object → ℕ → Contents → Option ℕ → List ℕ → Object → Type 0
IsGatheredOf o index x tail base p =
    IsGathered o.phdrs base p (listed_of o index x) x.ranges x.held tail

-- its places are given, and this is what it has then
pub record IsArrangedAs (phdrs : List Phdr) (base : List ℕ) (p : Object) (tail : Option ℕ)
    (next : Arranged) : Type 0 where
  pub passed : arranged_refusal p tail ≡ None
  pub ranges : MayBeWritten (arranged_object p tail)
      → IsRangedBy phdrs base (arranged_object p tail) next

-- they are refused, behind a tail alone
pub record IsUnarranged (o : Object) (index : ℕ) (x : Contents) (tail : Option ℕ) (e : ElfError)
    : Type 0 where
  pub error : e ≡ TooLarge
  pub behind : is_some tail ≡ true
  pub refused : (base : List ℕ) (p : Object) → IsGatheredOf o index x tail base p
      → arranged_refusal p tail ≡ Some TooLarge

-- the ranges and the kinds stay, over a base up to a tail
pub record KeepsRanges (x : Contents) (tail : Option ℕ) (next : Arranged) : Type 0 where
  pub ranges : next.ranges ≡ x.ranges
  pub kinds_are : next.kinds ≡ x.kinds
  pub tail_is : next.tail ≡ tail

-- what is arranged of the object that has what was kept, whatever the base is; nothing is read
pub record ArrangesContents (o : Object) (index : ℕ) (x : Contents) (tail : Option ℕ)
    (result : Result Arranged ElfError) : Type 0 where
  pub ok : IfOk result (λ next. (base : List ℕ) (p : Object)
      → IsGatheredOf o index x tail base p → IsArrangedAs o.phdrs base p tail next)
  pub kept : IfOk result (KeepsRanges x tail)
  pub small : IfOk result IsListable
  pub err : IfErr result (λ e. (e ≡ Memory) ⊎ IsUnarranged o index x tail e)
  pub unread : (a b : ℕ) → ReadRose result a b

-- ---- The whole step

-- these bytes are written of it, over a base
abbrev pub CopiesAs : List ℕ → RangedPlan → List ℕ → Type 0
CopiesAs base x bytes =
    (e : KeptSource) → e.base ≡ base → ranged_text (kept_with e x) x.plan x.end ≡ bytes

-- the plan of a stated file, or its refusal; or memory is wanted, or a read failed
abbrev pub FileAnswers : List ℕ → Result RangedPlan ElfError → Result (List ℕ) ElfError → Type 0
FileAnswers base (Ok x) stated =
    (bytes : List ℕ) × (stated ≡ Ok bytes) × CopiesAs base x bytes
FileAnswers base (Err Memory) stated = Unit {0}
FileAnswers base (Err Read) stated = Unit {0}
FileAnswers base (Err Write) stated = ⊥
FileAnswers base (Err e) stated = stated ≡ Err e

-- what was arranged of a stated object that is made of another one, or its refusal, in the same way
abbrev pub ArrangedAnswers : Object → Result Arranged ElfError → Result Rebuilt ElfError → Type 0
ArrangedAnswers o (Ok x) stated =
    (r : Rebuilt) × (stated ≡ Ok r) × IsRangedBy o.phdrs o.base r.object x
ArrangedAnswers o (Err Memory) stated = Unit {0}
ArrangedAnswers o (Err Read) stated = Unit {0}
ArrangedAnswers o (Err Write) stated = ⊥
ArrangedAnswers o (Err e) stated = stated ≡ Err e

-- the section of a kept number is made: its items follow, or it has the names that are made anew
abbrev pub is_made : Object → List ℕ → ℕ → Bool
is_made o removed s =
    (renews_names o removed && s == o.header.shstrndx) || items_follow o removed s

-- the homes that are looked at for such a section; nothing is asked for another one
unfoldable pub kept_due : Object → List ℕ → ℕ → ℕ
kept_due o removed s =
    if is_made o removed s then homes_due o [] (kept_reads o removed s) else 0

-- what is asked for: the names, and the homes of the sections that are made
unfoldable pub stream_due : Object → List ℕ → ℕ
stream_due o removed =
    homes_due o [] (names_home o) + sum_by (kept_due o removed) (kept_from_1 o removed)

-- what was arranged is over the stated base and of the stated kinds; and what is read when an
-- object is made of it, the base before the tail and the ranges of the base, is within what a
-- whole rebuilding may ask for
pub record MakesRebuilt (o : Object) (removed : List ℕ) (x : Arranged) : Type 0 where
  pub tail_is : x.tail ≡ rebuilt_tail o removed
  pub kinds_are : x.kinds ≡ rebuilt_kinds o removed
  pub within : stream_due o removed + (unwrap_or x.tail 0 + ranges_due x.ranges)
      ≤ rebuild_due o removed

-- a step arranges what is kept without the removed sections: as is stated where the source tells
-- its bytes, and what is refused early over every source; it reads nothing
pub record ArrangesKept {S : Type 0} (s : State S) (removed : List ℕ)
    (result : Result Arranged ElfError) : Type 0 where
  pub answer : IsTrue s.told → ArrangedAnswers s.o result (rebuilt s.o removed)
  pub early : IfErr result (EarlyBy (early_refusal s.o removed))
  pub makes : IfOk result (MakesRebuilt s.o removed)
  pub small : IfOk result IsListable
  pub unread : (a b : ℕ) → ReadRose result a b

-- a step that reads besides arranges it so, and leaves the object
pub record ArrangesRebuilt {S : Type 0} (g : Ghosts S) (removed : List ℕ)
    (result : Result Arranged ElfError) (due : ℕ) (old new : State S) : Type 0 where
  pub answer : IsTrue old.told → ArrangedAnswers old.o result (rebuilt old.o removed)
  pub early : IfErr result (EarlyBy (early_refusal old.o removed))
  pub makes : IfOk result (MakesRebuilt old.o removed)
  pub small : IfOk result IsListable
  pub asks : AsksFor g result old new due

-- and plans the file that an update writes of it
pub record StreamsRebuilt {S : Type 0} (g : Ghosts S) (removed : List ℕ)
    (result : Result RangedPlan ElfError) (due : ℕ) (old new : State S) : Type 0 where
  pub answer : IsTrue old.told
      → FileAnswers old.o.base result (file_made (rebuilt old.o removed))
  pub asks : AsksFor g result old new due
