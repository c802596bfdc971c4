-- The plan of what two halves are halves of, over the bytes of the stripped half followed by those
-- of the debug half.
use Rattle.std.specs.Prelude.{◌≡◌, ◌⊎◌, ℕ, ◌+◌, ◌<◌, ◌^◌, List, ◌++◌, length, Option, None, Result, Ok, Err, IsTrue, IfErr, OnOk}
use Rattle.elf_types.specs.Answers.{◌>>=◌}
use Rattle.elf_types.specs.declared.errors.ElfError.{ElfError}
use Rattle.elf_outside.specs.Asks.{ReadRose}
use Rattle.elf_object.specs.Object.{Object}
use Rattle.rebuild_keep.specs.elf_descriptor.State.{State}
use Rattle.rebuild_model.specs.Arranged.{Rebuilt, arranged}
use Rattle.rebuild_model.specs.Files.{file_of, file_made}
use Rattle.rebuild_model.specs.Split.{UnstripFault, combined_object, combined_tail, combine_fault, or_elf, unstripped}
use Rattle.rebuild_model.specs.Split.{UnstripFault as stated}
use Rattle.rebuild_keep.specs.rebuild_making.Placing.{made_of}
use Rattle.rebuild_plan.specs.declared.plans.RangedPlan.{RangedPlan}
use Rattle.rebuild_plan.specs.Plans.{CopiesAs, FileAnswers}
use Rattle.rebuild_join.specs.declared.joined.faults.UnstripFault.{UnstripFault as Fault}
use Rattle.rebuild_join.specs.Joined.Answers.{stated_fault, UnstripAnswers, FaultBy, on_stripped, on_debug}

-- ---- Of what was kept

-- the two combined, before places are given behind the tail
abbrev pub combined_made : Object → Object → Rebuilt
combined_made stripped debug = made_of (combined_object stripped debug) (combined_tail stripped)

-- a step plans the file that an update writes of them with these places, or refuses that, where
-- both sources tell their bytes; it reads nothing
pub record PlansCombined {S T : Type 0} (s : State S) (d : State T)
    (result : Result RangedPlan ElfError) : Type 0 where
  pub answer : IsTrue s.told → IsTrue d.told
      → FileAnswers (s.o.base ++ d.o.base) result (file_made (arranged (combined_made s.o d.o)))
  pub unread : (a b : ℕ) → ReadRose result a b

-- ---- The whole

-- the file that an update writes of what two halves are joined to, or the fault: a refusal of the
-- update is one of what is made
abbrev pub file_joined : Result Rebuilt UnstripFault → Result (List ℕ) UnstripFault
file_joined r = r >>= λ m. or_elf (file_of m.object)

-- the plan of a stated file, or the stated fault; or memory is wanted, or a read failed
abbrev pub JoinAnswers : List ℕ → Result RangedPlan Fault → Result (List ℕ) UnstripFault → Type 0
JoinAnswers base (Ok x) came = (bytes : List ℕ) × (came ≡ Ok bytes) × CopiesAs base x bytes
JoinAnswers base (Err f) came = UnstripAnswers {A = List ℕ} (Err (stated_fault f)) came

-- a fault is that of what is made
abbrev pub IsOfMade : UnstripFault → Type 0
IsOfMade (stated.Elf e) = Unit {0}
IsOfMade f = ⊥

-- a fault comes exactly where it is stated of two halves; where none is stated, it is that of a
-- place behind the base, or of the update
abbrev pub PlanFault : Option UnstripFault → UnstripFault → Type 0
PlanFault refusal f = FaultBy refusal f ⊎ ((refusal ≡ None) × IsOfMade f)

-- a step plans the file of two halves, or refuses them, where both sources tell their bytes; over
-- every source it refuses them exactly where that is stated, and reads nothing
pub record PlansJoined {S T : Type 0} (s : State S) (d : State T)
    (result : Result RangedPlan Fault) : Type 0 where
  pub answer : IsTrue s.told → IsTrue d.told
      → JoinAnswers (s.o.base ++ d.o.base) result (file_joined (unstripped s.o d.o))
  pub small : OnOk result (length s.o.base + length d.o.base < 2 ^ 64)
  pub passed : OnOk result (combine_fault s.o d.o ≡ None)
  pub early : IfErr result (λ f. PlanFault (combine_fault s.o d.o) (stated_fault f))
  pub unread_stripped : (a b : ℕ) → ReadRose (on_stripped result) a b
  pub unread_debug : (a b : ℕ) → ReadRose (on_debug result) a b
