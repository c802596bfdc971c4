-- Which sections strip and copy remove, as calls on an object: what they read, and when they may
-- want memory.
use Rattle.std.specs.Prelude.{◌≡◌, ℕ, ◌==◌, ◌<◌, ◌&&◌, ◌||◌, Bool, false, List, [], if◌then◌else◌, Option, Some, None, Result, Ok, IfErr}
use Rattle.std.specs.List.{list_any}
use Rattle.elf_types.specs.declared.errors.ElfError.{ElfError}
use Rattle.elf_types.specs.declared.errors.ElfError.TheVariants.{Memory, Read}
use Rattle.rebuild_model.specs.elf_outside.declared.sources.Source.{Ghosts}
use Rattle.rebuild_model.specs.elf_object.Object.{Object}
use Rattle.rebuild_model.specs.elf_object.Calls.{Call, some_memory}
use Rattle.rebuild_model.specs.elf_object.Due.{when_clean, homes_due}
use Rattle.rebuild_model.specs.elf_object.Strings.{section_name, is_name}
use Rattle.rebuild_model.specs.Removed as rules
use Rattle.gelf_view.specs.SectionNames.{name_reads, name_memory}
use Rattle.gelf_view.specs.elf_descriptor.State.{State}
use Rattle.gelf_view.specs.elf_descriptor.Reads.{Reads}

-- the home of the names, where they are looked up in one
unfoldable pub names_home : Object → List ℕ
names_home o = if o.header.shstrndx == 0 then [] else when_clean o o.header.shstrndx

abbrev pub numbers_call : (Object → List ℕ) → Call (List ℕ)
numbers_call numbers = record {
  answer = λ o. Ok (numbers o);
  after = λ o. o;
  reads = names_home;
  memory = some_memory;
}

-- what strip removes
abbrev pub removed : Bool → List (List ℕ) → Call (List ℕ)
removed debug_only names = numbers_call (rules.removed_sections debug_only names)

-- what copy removes
abbrev pub removal_by_name : List (List ℕ) → Call (List ℕ)
removal_by_name names = numbers_call (rules.removed_by_name names)

-- ---- One section

-- a name is one of these, or that of debug data where it may be; one that is none is neither
abbrev pub found_by : List (List ℕ) → Bool → Option (List ℕ) → Bool
found_by names debug None = false
found_by names debug (Some name) =
    list_any (λ wanted. is_name wanted (Some name)) names || (debug && rules.is_debug_name name)

-- whether a section is found by its name
abbrev pub found_by_name : List (List ℕ) → Bool → ℕ → Call Bool
found_by_name names debug s = record {
  answer = λ o. Ok (found_by names debug (section_name o s));
  after = λ o. o;
  reads = name_reads s;
  memory = name_memory s;
}

-- ---- A step that looks at names

-- how it may end: for want of memory, and where the names are not loaded by a failed read
abbrev pub MayEndReadingNames : {S : Type 0} → State S → ElfError → Type 0
MayEndReadingNames s Memory = Unit {0}
MayEndReadingNames s Read = 0 < homes_due s.o s.loaded (names_home s.o)
MayEndReadingNames s e = ⊥

pub record ReadsNames {S T : Type 0} (g : Ghosts S) (result : Result T ElfError) (old new : State S)
    : Type 0 where
  pub object : new.o ≡ old.o
  pub reads : Reads g result old new (names_home old.o) []
      (homes_due old.o old.loaded (names_home old.o))
  pub ended : IfErr result (MayEndReadingNames old)
