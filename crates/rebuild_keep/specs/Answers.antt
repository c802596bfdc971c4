-- How an object that is made anew is answered.
use Rattle.std.specs.Prelude.{◌≡◌, ◌⊎◌, ◌<◌, ◌+◌, ℕ, ◌==◌, Bool, List, [], ◌∷◌, length, unwrap_or, if◌then◌else◌, map, Option, Some, None, Result, Ok, Err, IsTrue}
use Rattle.std.specs.List.{flat_map}
use Rattle.elf_types.specs.Answers.{first_refusal}
use Rattle.elf_types.specs.declared.records.Shdr.{Shdr}
use Rattle.elf_types.specs.declared.errors.ElfError.{ElfError}
use Rattle.elf_types.specs.declared.errors.ElfError.TheVariants as errors
use Rattle.elf_types.specs.declared.errors.ElfError.TheVariants.{Memory, Read, Write}
use Rattle.rebuild_names.specs.elf_xlate.declared.content.Items.{Items}
use Rattle.rebuild_making.specs.elf_object.Object.{Object, Section, new_section}
use Rattle.rebuild_making.specs.elf_object.Calls.{newphdr_refusal}
use Rattle.rebuild_making.specs.elf_object.Due.{homes_due}
use Rattle.rebuild_making.specs.elf_object.Steps.{with_sections}
use Rattle.elf_update_plan.specs.elf_descriptor.State.{State}
use Rattle.rebuild_making.specs.elf_object.Sections.{header_at, number_or_0}
use Rattle.rebuild_making.specs.rebuild_model.Followed.{kept_from_1, symbols_follow, members_follow, indexes_follow, extended_table}
use Rattle.rebuild_making.specs.rebuild_model.Rebuilt.{assembled, kept_refusal, index_refusal, rebuilt_sections, rebuilt_index, rebuilt_tail}
use Rattle.rebuild_making.specs.Making.{sections_by}
use Rattle.rebuild_numbers.specs.rebuild_select.Calls.{names_home}
use Rattle.rebuild_keep.specs.declared.naming.Names.{Names}
use Rattle.rebuild_keep.specs.declared.naming.Names.TheVariants.{Stay, Anew, TooLarge}
use Rattle.rebuild_keep.specs.declared.keepers.Keeper.{Keeper}
use Rattle.rebuild_keep.specs.Keepers.{header_by, items_by, refusal_by, index_by}

-- ---- Answers

-- over a source that tells its bytes: as stated, but for want of memory and failed reads
abbrev pub RebuildAnswers : {A : Type 0} → Result A ElfError → Result A ElfError → Type 0
RebuildAnswers (Ok r) stated = stated ≡ Ok r
RebuildAnswers (Err Memory) stated = Unit {0}
RebuildAnswers (Err Read) stated = Unit {0}
RebuildAnswers (Err Write) stated = ⊥
RebuildAnswers (Err e) stated = stated ≡ Err e

-- what is refused by counts, kinds, extents and sizes, over every source
unfoldable pub early_refusal : Object → List ℕ → Option ElfError
early_refusal o removed = first_refusal
    (newphdr_refusal (length o.phdrs)
    ∷ first_refusal (map (kept_refusal o removed) (kept_from_1 o removed))
    ∷ index_refusal o (rebuilt_sections o removed) (rebuilt_index o removed)
    ∷ [])

-- so such a refusal comes exactly where it is stated, and another one is TooLarge, of the names or
-- of a place behind the base
abbrev pub EarlyBy : Option ElfError → ElfError → Type 0
EarlyBy stated Memory = Unit {0}
EarlyBy stated Read = Unit {0}
EarlyBy stated Write = ⊥
EarlyBy stated errors.TooLarge = stated ≡ None
EarlyBy stated e = stated ≡ Some e

-- ---- What is read

-- the homes that are looked at for a section that is kept
unfoldable pub kept_reads : Object → List ℕ → ℕ → List ℕ
kept_reads o removed s =
    if symbols_follow o s then number_or_0 (extended_table o removed s) ∷ s ∷ []
    else (if members_follow o s then s ∷ []
    else (if indexes_follow o removed s then s ∷ (header_at o s).link ∷ [] else s ∷ []))

-- and for all of them
unfoldable pub kept_homes : Object → List ℕ → List ℕ
kept_homes o removed = flat_map (kept_reads o removed) (kept_from_1 o removed)

abbrev pub homes_asked : Object → List ℕ → ℕ
homes_asked o removed = homes_due o [] (kept_homes o removed)

-- what may be asked for: the names, the base before the tail, and these homes
unfoldable pub rebuild_due : Object → List ℕ → ℕ
rebuild_due o removed =
    homes_due o [] (names_home o)
    + (unwrap_or (rebuilt_tail o removed) 0 + homes_asked o removed)

-- ---- What is filled in

-- section 0, where there are sections, and what is made of those with these numbers
unfoldable pub filled_sections : Object → (ℕ → Shdr) → (ℕ → Items) → List ℕ → List Section
filled_sections o header items numbers =
    if length o.sections == 0 then [] else new_section ∷ sections_by header items numbers

unfoldable pub filled_refusal : Object → (ℕ → Option ElfError) → List ℕ → List Section → ℕ
    → Option ElfError
filled_refusal o refusal numbers sections index = first_refusal
    (newphdr_refusal (length o.phdrs)
    ∷ first_refusal (map refusal numbers)
    ∷ index_refusal o sections index
    ∷ [])

-- by a keeper
abbrev pub sections_of : Keeper → Object → List Section
sections_of k o =
    filled_sections o (header_by k o) (items_by k o) (kept_from_1 o k.removed.now)

abbrev pub refusal_of : Keeper → Object → Option ElfError
refusal_of k o =
    filled_refusal o (refusal_by k o) (kept_from_1 o k.removed.now) (sections_of k o) (index_by k o)

-- an object got sections, as many as are stated, and these over a source that tells its bytes
pub record HasSections {S : Type 0} (told : Bool) (stated : List Section) (old new : State S)
    : Type 0 where
  pub sections : List Section
  pub object : new.o ≡ with_sections old.o sections
  pub long : length sections ≡ length stated
  pub exact : IsTrue told → sections ≡ stated
  pub told_is : new.told ≡ old.told

-- it got the program headers and the header of another besides
pub record IsFilled {S : Type 0} (told : Bool) (o : Object) (index : ℕ) (stated : List Section)
    (old new : State S) : Type 0 where
  pub sections : List Section
  pub object : new.o ≡ assembled old.o o index sections
  pub long : length sections ≡ length stated
  pub exact : IsTrue told → sections ≡ stated
  pub told_is : new.told ≡ old.told
  pub index_is : (new.o.header.shstrndx ≡ 0) ⊎ (new.o.header.shstrndx < length new.o.sections)

-- names whose table would be too large are refused
abbrev pub ChecksNames : Names → Result (Unit {0}) ElfError → Type 0
ChecksNames Stay result = result ≡ Ok tt
ChecksNames (Anew names) result = result ≡ Ok tt
ChecksNames TooLarge result = result ≡ Err errors.TooLarge
