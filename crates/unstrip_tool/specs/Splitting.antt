-- The two halves of an image as files: of what is kept of it, and of its debug half.
use Rattle.std.specs.Prelude.{◌≡◌, ℕ, List, IsTrue, Result, Ok, Err}
use Rattle.elf_types.specs.declared.errors.ElfError.{ElfError}
use Rattle.elf_types.specs.declared.errors.ElfError.TheVariants.{Memory, Read, Write}
use Rattle.elf_types.specs.Answers.{◌>>=◌}
use Rattle.elf_outside.specs.Asks.{ReadRose}
use Rattle.elf_outside.specs.declared.sources.Source.{Ghosts}
use Rattle.elf_object.specs.Object.{Object}
use Rattle.rebuild_join.specs.elf_descriptor.State.{State}
use Rattle.rebuild_model.specs.Files.{file_of}
use Rattle.rebuild_model.specs.Rebuilt.{rebuilt}
use Rattle.rebuild_model.specs.Split.{debug_half, debug_of}
use Rattle.rebuild_join.specs.rebuild_keep.Makes.{AsksFor}
use Rattle.rebuild_debug.specs.rebuild_plan.declared.arranged.Arranged.{Arranged}
use Rattle.rebuild_debug.specs.rebuild_plan.Plans.{CopiesAs, IsRangedBy, stream_due}
use Rattle.unstrip_tool.specs.declared.plans.SplitPlans.{SplitPlans}

-- the bytes of two files, or the first refusal
abbrev pub both_bytes : Result (List ℕ) ElfError → Result (List ℕ) ElfError
    → Result (List ℕ × List ℕ) ElfError
both_bytes first second = first >>= λ bytes. second >>= λ others. Ok (bytes, others)

-- what updates write of two objects
abbrev pub both_files : Object → Object → Result (List ℕ × List ℕ) ElfError
both_files stripped half = both_bytes (file_of stripped) (file_of half)

-- of both halves: each is made first, and then each is written
abbrev pub split_file_bytes : Object → List ℕ → Result (List ℕ × List ℕ) ElfError
split_file_bytes o removed =
    rebuilt o removed >>= λ r. debug_of o >>= λ half. both_files r.object half

-- the plans of stated files, or their refusal; or memory is wanted, or a read failed
abbrev pub SplitAnswers : List ℕ → Result SplitPlans ElfError
    → Result (List ℕ × List ℕ) ElfError → Type 0
SplitAnswers base (Ok p) stated =
    (bytes : List ℕ) × (others : List ℕ) × (stated ≡ Ok (bytes, others))
    × CopiesAs base p.stripped bytes × CopiesAs base p.debug others
SplitAnswers base (Err Memory) stated = Unit {0}
SplitAnswers base (Err Read) stated = Unit {0}
SplitAnswers base (Err Write) stated = ⊥
SplitAnswers base (Err e) stated = stated ≡ Err e

-- A step plans the files of the object that has what was arranged, and of the debug half, or
-- refuses one, where the source tells its bytes. It reads nothing.
pub record PlansBoth {S : Type 0} (s : State S) (x : Arranged) (result : Result SplitPlans ElfError)
    : Type 0 where
  pub answer : IsTrue s.told → (q : Object) → IsRangedBy s.o.phdrs s.o.base q x
      → SplitAnswers s.o.base result (both_files q (debug_half s.o))
  pub unread : (a b : ℕ) → ReadRose result a b

-- It plans both files, or refuses them, where the source tells its bytes. Over every source it
-- leaves the object, and asks for no more than is stated: what is made anew of the first half.
pub record PlansSplit {S : Type 0} (g : Ghosts S) (removed : List ℕ)
    (result : Result SplitPlans ElfError) (old new : State S) : Type 0 where
  pub answer : IsTrue old.told
      → SplitAnswers old.o.base result (split_file_bytes old.o removed)
  pub asks : AsksFor g result old new (stream_due old.o removed)
