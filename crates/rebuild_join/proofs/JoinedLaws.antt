-- The whole step, one part after another.
use Rattle.std.proofs.Common.{◌≡◌, inl, inr, ◌+◌, ◌<◌, ◌^◌, ◌++◌, ℕ, List, length, None, Result, Ok, Err, refl, sym, ap, ◌∙◌, subst}
use Rattle.elf_types.specs.declared.errors.ElfError.{ElfError}
use Rattle.elf_types.specs.declared.errors.ElfError.TheVariants.{Memory, Read, Write}
use Rattle.elf_outside.specs.Asks.{ReadRose}
use Rattle.elf_outside.proofs.AskLemmas.{read_rose_on}
use Rattle.rebuild_keep.specs.elf_descriptor.State.{State}
use Rattle.rebuild_model.specs.Arranged.{Rebuilt, arranged}
use Rattle.rebuild_model.specs.Files.{file_made}
use Rattle.rebuild_model.specs.Split.{UnstripFault, combine_fault, or_elf, unstripped}
use Rattle.rebuild_plan.specs.declared.plans.RangedPlan.{RangedPlan}
use Rattle.rebuild_plan.specs.Plans.{FileAnswers}
use Rattle.rebuild_join.specs.declared.joined.faults.UnstripFault.{UnstripFault as Fault}
use Rattle.rebuild_join.specs.declared.joined.faults.UnstripFault.TheVariants as faults
use Rattle.rebuild_join.specs.Joined.Answers.{stated_fault, FaultBy, elf_error, debug_error}
use Rattle.rebuild_join.proofs.joined.FaultLaws.{fault_answers}
use Rattle.rebuild_join.proofs.joined.JoinLaws.{unstripped_refused, unstripped_passed}
use Rattle.rebuild_join.specs.Keeping.{IsUnreadFault, KeepsJoined}
use Rattle.rebuild_join.specs.Joining.{combined_made, PlansCombined, file_joined, JoinAnswers, PlansJoined}

-- ---- A refusal of what is made

file_as : (r : Result Rebuilt ElfError) → file_joined (or_elf r) ≡ or_elf (file_made r)
file_as (Ok r) = refl
file_as (Err e) = refl

plan_answers : (base : List ℕ) (plan : RangedPlan) (came : Result (List ℕ) ElfError)
    → FileAnswers base (Ok plan) came → JoinAnswers base (Ok plan) (or_elf came)
plan_answers base plan came is = (is.0, ap or_elf is.1, is.2)

plan_refuses : (base : List ℕ) (e : ElfError) (came : Result (List ℕ) ElfError)
    → FileAnswers base (Err e) came → JoinAnswers base (Err (faults.Elf e)) (or_elf came)
plan_refuses base Memory came is = tt
plan_refuses base Read came is = tt
plan_refuses base Write came is = is
plan_refuses base e came is = ap or_elf is

-- ---- Nothing is read

unread_elf : (f : Fault) → IsUnreadFault f → (a b : ℕ) → ReadRose (elf_error f) a b
unread_elf (faults.Elf Read) is a b = absurd is
unread_elf (faults.Elf Write) is a b = absurd is
unread_elf (faults.Elf e) is a b = tt
unread_elf (faults.Debug e) is a b = tt
unread_elf faults.Mismatch is a b = tt

unread_debug : (f : Fault) → IsUnreadFault f → (a b : ℕ) → ReadRose (debug_error f) a b
unread_debug (faults.Elf e) is a b = tt
unread_debug (faults.Debug Read) is a b = absurd is
unread_debug (faults.Debug Write) is a b = absurd is
unread_debug (faults.Debug e) is a b = tt
unread_debug faults.Mismatch is a b = tt

-- ---- The whole

module _ {S T : Type 0} (s : State S) (d : State T) where
  abbrev came : Result (List ℕ) UnstripFault
  came = file_joined (unstripped s.o d.o)

  -- they are refused as is stated of them, or for want of memory
  pub joined_stops : (f : Fault) → FaultBy (combine_fault s.o d.o) (stated_fault f)
      → IsUnreadFault f → PlansJoined s d (Err f)
  joined_stops f by unread = record {
    answer = λ t u.
        fault_answers {A = List ℕ} (combine_fault s.o d.o) (stated_fault f) came
        (λ is. ap file_joined (unstripped_refused s.o d.o (stated_fault f) is)) by;
    small = tt;
    passed = tt;
    early = inl by;
    unread_stripped = unread_elf f unread;
    unread_debug = unread_debug f unread;
  }

  pub elf_wanted : (e : ElfError) → e ≡ Memory → PlansJoined s d (Err (faults.Elf e))
  elf_wanted e want =
      subst (λ (c : ElfError). PlansJoined s d (Err (faults.Elf c))) (sym want)
      (joined_stops (faults.Elf Memory) tt tt)

  pub debug_wanted : (e : ElfError) → e ≡ Memory → PlansJoined s d (Err (faults.Debug e))
  debug_wanted e want =
      subst (λ (c : ElfError). PlansJoined s d (Err (faults.Debug c))) (sym want)
      (joined_stops (faults.Debug Memory) tt tt)

  pub joined_unkept : (f : Fault) → KeepsJoined s d (Err f) → PlansJoined s d (Err f)
  joined_unkept f keeps = joined_stops f keeps.fault keeps.unread

  module _ (passed : combine_fault s.o d.o ≡ None) where
    came_as : came ≡ or_elf (file_made (arranged (combined_made s.o d.o)))
    came_as =
        ap file_joined (unstripped_passed s.o d.o passed)
        ∙ file_as (arranged (combined_made s.o d.o))

    pub joined_planned : (plan : RangedPlan) → length s.o.base + length d.o.base < 2 ^ 64
        → PlansCombined s d (Ok plan) → PlansJoined s d (Ok plan)
    joined_planned plan small plans = record {
      answer = λ t u.
          subst (λ (r : Result (List ℕ) UnstripFault).
          JoinAnswers (s.o.base ++ d.o.base) (Ok plan) r) (sym came_as)
          (plan_answers (s.o.base ++ d.o.base) plan
          (file_made (arranged (combined_made s.o d.o))) (plans.answer t u));
      small = small;
      passed = passed;
      early = tt;
      unread_stripped = λ a b. tt;
      unread_debug = λ a b. tt;
    }

    pub joined_unplanned : (e : ElfError) → PlansCombined s d (Err e)
        → PlansJoined s d (Err (faults.Elf e))
    joined_unplanned e plans = record {
      answer = λ t u.
          subst (λ (r : Result (List ℕ) UnstripFault).
          JoinAnswers (s.o.base ++ d.o.base) (Err (faults.Elf e)) r) (sym came_as)
          (plan_refuses (s.o.base ++ d.o.base) e
          (file_made (arranged (combined_made s.o d.o))) (plans.answer t u));
      small = tt;
      passed = tt;
      early = inr (passed, tt);
      unread_stripped = λ a b. read_rose_on RangedPlan (Unit {0}) e a b (plans.unread a b);
      unread_debug = λ a b. tt;
    }
