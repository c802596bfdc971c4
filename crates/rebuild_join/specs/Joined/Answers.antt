-- How two halves that are joined are answered.
use Rattle.std.specs.Prelude.{◌≡◌, ℕ, ◌+◌, not, List, [], filter, unwrap_or, Option, Some, None, Result, Ok, Err}
use Rattle.elf_types.specs.declared.errors.ElfError.{ElfError}
use Rattle.elf_types.specs.declared.errors.ElfError.TheVariants as errors
use Rattle.elf_types.specs.declared.errors.ElfError.TheVariants.{Memory, Read, Write}
use Rattle.rebuild_keep.specs.elf_object.Object.{Object}
use Rattle.rebuild_keep.specs.elf_object.Due.{homes_due}
use Rattle.rebuild_keep.specs.elf_object.Layout.{section_numbers}
use Rattle.rebuild_keep.specs.rebuild_model.Arranged.{Rebuilt}
use Rattle.rebuild_keep.specs.rebuild_model.Split.{UnstripFault, allocated, combined_tail}
use Rattle.rebuild_keep.specs.rebuild_model.Split.{UnstripFault as stated}
use Rattle.rebuild_keep.specs.elf_object.Sections.{is_allocated, header_at}
use Rattle.rebuild_keep.specs.declared.rebuilding.Rebuilt.{Rebuilt as Made}
use Rattle.rebuild_join.specs.declared.joined.faults.UnstripFault.{UnstripFault as Fault}
use Rattle.rebuild_join.specs.declared.joined.faults.UnstripFault.TheVariants as faults

-- ---- What came, in the words of rebuild_model

abbrev pub stated_fault : Fault → UnstripFault
stated_fault (faults.Elf e) = stated.Elf e
stated_fault (faults.Debug e) = stated.Debug e
stated_fault faults.Mismatch = stated.Mismatch

-- of an object that was made with a tail
abbrev pub joined_as : {A : Type 0} → Object → Option ℕ → Result A Fault
    → Result Rebuilt UnstripFault
joined_as o tail (Ok x) = Ok (record { object = o; tail = tail })
joined_as o tail (Err f) = Err (stated_fault f)

abbrev pub seen_join : Result Made Fault → Result Rebuilt UnstripFault
seen_join (Ok r) = Ok (record { object = r.elf.o; tail = r.tail })
seen_join (Err f) = Err (stated_fault f)

-- ---- Answers

-- over sources that tell their bytes: as stated, but for want of memory and failed reads
abbrev pub UnstripAnswers : {A : Type 0} → Result A UnstripFault → Result A UnstripFault → Type 0
UnstripAnswers (Ok r) came = came ≡ Ok r
UnstripAnswers (Err (stated.Elf Memory)) came = Unit {0}
UnstripAnswers (Err (stated.Elf Read)) came = Unit {0}
UnstripAnswers (Err (stated.Elf Write)) came = ⊥
UnstripAnswers (Err (stated.Debug Memory)) came = Unit {0}
UnstripAnswers (Err (stated.Debug Read)) came = Unit {0}
UnstripAnswers (Err (stated.Debug Write)) came = ⊥
UnstripAnswers (Err f) came = came ≡ Err f

-- a refusal comes exactly where it is stated, over every source
abbrev pub FaultBy : Option UnstripFault → UnstripFault → Type 0
FaultBy refusal (stated.Elf Memory) = Unit {0}
FaultBy refusal (stated.Elf Read) = Unit {0}
FaultBy refusal (stated.Elf Write) = ⊥
FaultBy refusal (stated.Debug Memory) = Unit {0}
FaultBy refusal (stated.Debug Read) = Unit {0}
FaultBy refusal (stated.Debug Write) = ⊥
FaultBy refusal f = refusal ≡ Some f

-- and where none is, TooLarge of a place behind the base alone
abbrev pub EarlyFault : Option UnstripFault → UnstripFault → Type 0
EarlyFault refusal (stated.Elf errors.TooLarge) = refusal ≡ None
EarlyFault refusal f = FaultBy refusal f

-- ---- What each half sees of it: an error on it, and none for any other end

abbrev pub elf_error : Fault → Result (Unit {0}) ElfError
elf_error (faults.Elf e) = Err e
elf_error (faults.Debug e) = Ok tt
elf_error faults.Mismatch = Ok tt

abbrev pub debug_error : Fault → Result (Unit {0}) ElfError
debug_error (faults.Elf e) = Ok tt
debug_error (faults.Debug e) = Err e
debug_error faults.Mismatch = Ok tt

abbrev pub on_stripped : {A : Type 0} → Result A Fault → Result (Unit {0}) ElfError
on_stripped (Ok x) = Ok tt
on_stripped (Err f) = elf_error f

abbrev pub on_debug : {A : Type 0} → Result A Fault → Result (Unit {0}) ElfError
on_debug (Ok x) = Ok tt
on_debug (Err f) = debug_error f

-- ---- What is read

-- of the stripped half: the homes of the allocated sections, and the base before the tail
abbrev pub homes_of_stripped : Object → ℕ
homes_of_stripped o = homes_due o [] (allocated o)

unfoldable pub stripped_due : Object → ℕ
stripped_due o = unwrap_or (combined_tail o) 0 + homes_of_stripped o

-- of the debug half: the homes of the others, from 1 on
unfoldable pub unallocated : Object → List ℕ
unallocated o = filter (λ s. not (is_allocated (header_at o s))) (section_numbers o)

abbrev pub debug_due : Object → ℕ
debug_due o = homes_due o [] (unallocated o)
