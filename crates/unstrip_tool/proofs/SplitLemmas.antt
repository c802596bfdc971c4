-- The plans of the two halves of an image.
use Rattle.std.proofs.Common.{◌≡◌, ℕ, List, Some, None, Option, Result, Ok, Err, sym, ap, ◌∙◌, subst}
use Rattle.std.specs.Prelude.{Bool, IsTrue}
use Rattle.elf_types.specs.declared.errors.ElfError.{ElfError}
use Rattle.elf_types.specs.declared.errors.ElfError.TheVariants.{Memory, Read, Write}
use Rattle.elf_types.specs.Answers.{answered, ◌>>=◌}
use Rattle.elf_outside.specs.declared.sources.Source.{Ghosts}
use Rattle.elf_outside.proofs.AskLemmas.{read_rose_on}
use Rattle.elf_object.specs.Object.{Object}
use Rattle.rebuild_join.specs.elf_descriptor.State.{State}
use Rattle.rebuild_model.specs.Arranged.{Rebuilt}
use Rattle.rebuild_model.specs.Files.{file_of}
use Rattle.rebuild_model.specs.Rebuilt.{rebuilt}
use Rattle.rebuild_model.specs.Split.{debug_half, debug_refusal, debug_of}
use Rattle.rebuild_join.specs.rebuild_making.Refused.{RefusedBy}
use Rattle.rebuild_join.proofs.rebuild_keep.AskLaws.{asks_as, asks_stop}
use Rattle.rebuild_join.proofs.rebuild_keep.MakeLaws.{refused_quiet, quiet_rose}
use Rattle.rebuild_debug.specs.rebuild_plan.declared.arranged.Arranged.{Arranged}
use Rattle.rebuild_debug.specs.rebuild_plan.declared.contents.Contents.{Contents}
use Rattle.rebuild_debug.specs.rebuild_plan.declared.plans.RangedPlan.{RangedPlan}
use Rattle.rebuild_debug.specs.rebuild_plan.Plans.{IsRangedBy, PlansCopied, FileAnswers, ArrangedAnswers, ArrangesRebuilt, stream_due}
use Rattle.rebuild_debug.proofs.rebuild_plan.AnswerLaws.{copied_file}
use Rattle.rebuild_debug.specs.Keeping.{KeepsHalf}
use Rattle.rebuild_debug.specs.Planning.{PlansHalf}
use Rattle.unstrip_tool.specs.declared.plans.SplitPlans.{SplitPlans}
use Rattle.unstrip_tool.specs.Splitting.{both_bytes, both_files, split_file_bytes, SplitAnswers, PlansBoth, PlansSplit}

-- ---- Two files

module _ (base : List ℕ) (x y : Result (List ℕ) ElfError) where
  -- the first is refused
  first_unplanned : (e : ElfError) → FileAnswers base (Err e) x
      → SplitAnswers base (Err e) (both_bytes x y)
  first_unplanned Memory is = tt
  first_unplanned Read is = tt
  first_unplanned Write is = is
  first_unplanned e is = ap (λ (r : Result (List ℕ) ElfError). both_bytes r y) is

  module _ (p : RangedPlan) (first : FileAnswers base (Ok p) x) where
    then_second : both_bytes x y ≡ (y >>= λ others. Ok (first.0, others))
    then_second = ap (λ (r : Result (List ℕ) ElfError). both_bytes r y) first.1

    -- the second is
    second_unplanned : (e : ElfError) → FileAnswers base (Err e) y
        → SplitAnswers base (Err e) (both_bytes x y)
    second_unplanned Memory is = tt
    second_unplanned Read is = tt
    second_unplanned Write is = is
    second_unplanned e is =
        then_second
        ∙ ap (λ (r : Result (List ℕ) ElfError). r >>= λ others. Ok (first.0, others)) is

    both_planned : (q : RangedPlan) → FileAnswers base (Ok q) y
        → SplitAnswers base (Ok (record { stripped = p; debug = q })) (both_bytes x y)
    both_planned q second = (
      first.0,
      second.0,
      then_second
          ∙ ap (λ (r : Result (List ℕ) ElfError). r >>= λ others. Ok (first.0, others))
          second.1,
      first.2,
      second.2,
    )

-- ---- Of what was arranged, and of the debug half

module _ {S : Type 0} (s : State S) (kept : Arranged) where
  abbrev Copied : Result RangedPlan ElfError → Type 0
  Copied r = PlansCopied s.o.phdrs kept.listed kept.ranges kept.held kept.tail r

  pub first_refused : (e : ElfError) → Copied (Err e) → PlansBoth s kept (Err e)
  first_refused e plans = record {
    answer = λ t q ranged.
        first_unplanned s.o.base (file_of q) (file_of (debug_half s.o)) e
        (copied_file s.o.base q s.o.phdrs kept (Err e) plans ranged);
    unread = λ a b. read_rose_on RangedPlan SplitPlans e a b (plans.unread a b);
  }

  module _ (p : RangedPlan) (plans : Copied (Ok p)) where
    pub second_refused : (e : ElfError) → PlansHalf s (Err e) → PlansBoth s kept (Err e)
    second_refused e half = record {
      answer = λ t q ranged.
          second_unplanned s.o.base (file_of q) (file_of (debug_half s.o)) p
          (copied_file s.o.base q s.o.phdrs kept (Ok p) plans ranged) e (half.answer t);
      unread = λ a b. read_rose_on RangedPlan SplitPlans e a b (half.unread a b);
    }

    pub both_plans : (d : RangedPlan) → PlansHalf s (Ok d)
        → PlansBoth s kept (Ok (record { stripped = p; debug = d }))
    both_plans d half = record {
      answer = λ t q ranged.
          both_planned s.o.base (file_of q) (file_of (debug_half s.o)) p
          (copied_file s.o.base q s.o.phdrs kept (Ok p) plans ranged) d (half.answer t);
      unread = λ a b. tt;
    }

-- ---- All of it

not_arranged : (o : Object) (removed : List ℕ) (e : ElfError)
    → ArrangedAnswers o (Err e) (rebuilt o removed)
    → SplitAnswers o.base (Err e) (split_file_bytes o removed)
not_arranged o removed Memory is = tt
not_arranged o removed Read is = tt
not_arranged o removed Write is = is
not_arranged o removed e is =
    ap (λ (r : Result Rebuilt ElfError).
    r >>= λ r. debug_of o >>= λ half. both_files r.object half) is

module _ {S : Type 0} (g : Ghosts S) (removed : List ℕ) (old mid : State S) where
  -- what is kept is refused
  pub split_unarranged : (e : ElfError)
      → ArrangesRebuilt g removed (Err e) (stream_due old.o removed) old mid
      → PlansSplit g removed (Err e) old mid
  split_unarranged e first = record {
    answer = λ t. not_arranged old.o removed e (first.answer t);
    asks = asks_stop g {T = Arranged} {U = SplitPlans} e old mid (stream_due old.o removed)
        first.asks;
  }

  module _ (kept : Arranged)
      (first : ArrangesRebuilt g removed (Ok kept) (stream_due old.o removed) old mid) where
    abbrev after : Object → Result Object ElfError → Result (List ℕ × List ℕ) ElfError
    after q r = r >>= λ half. both_files q half

    first_is : (t : IsTrue old.told)
        → split_file_bytes old.o removed ≡ after (first.answer t).0.object (debug_of old.o)
    first_is t =
        ap (λ (r : Result Rebuilt ElfError).
        r >>= λ r. debug_of old.o >>= λ half. both_files r.object half) (first.answer t).1

    half_is : (r : Option ElfError) → debug_refusal old.o ≡ r
        → debug_of old.o ≡ answered r (debug_half old.o)
    unfolding debug_of
    half_is r is = ap (λ (x : Option ElfError). answered x (debug_half old.o)) is

    -- the debug half is
    not_halved : (e : ElfError) → RefusedBy (debug_refusal old.o) e → IsTrue old.told
        → SplitAnswers old.o.base (Err e) (split_file_bytes old.o removed)
    not_halved Memory by t = tt
    not_halved Read by t = tt
    not_halved Write by t = by
    not_halved e by t =
        first_is t ∙ ap (after (first.answer t).0.object) (half_is (Some e) by)

    pub split_unhalved : (e : ElfError) → KeepsHalf mid (Err e)
        → PlansSplit g removed (Err e) old mid
    split_unhalved e half = record {
      answer = not_halved e
          (subst (λ (o : Object). RefusedBy (debug_refusal o) e) first.asks.object half.err);
      asks = asks_as g (Ok kept) (Err e) old mid (stream_due old.o removed)
          (quiet_rose SplitPlans e (g.faults old.source) (g.faults mid.source)
          (refused_quiet (debug_refusal mid.o) e half.err)) first.asks;
    }

    pub both_split : (half : Contents) (r : Result SplitPlans ElfError)
        → KeepsHalf mid (Ok half) → PlansBoth mid kept r → PlansSplit g removed r old mid
    both_split half r keeps plans = record {
      answer = λ t.
          let known = first.answer t in
          let passed = subst (λ (o : Object). debug_refusal o ≡ None) first.asks.object
          keeps.passed in
          subst (λ (y : Result (List ℕ × List ℕ) ElfError). SplitAnswers old.o.base r y)
          (sym (first_is t ∙ ap (after known.0.object) (half_is None passed)))
          (subst (λ (o : Object). SplitAnswers o.base r (both_files known.0.object (debug_half o)))
          first.asks.object
          (plans.answer (subst (λ (b : Bool). IsTrue b) (sym first.asks.told) t) known.0.object
          (subst (λ (o : Object). IsRangedBy o.phdrs o.base known.0.object kept)
          (sym first.asks.object) known.2)));
      asks = asks_as g (Ok kept) r old mid (stream_due old.o removed)
          (plans.unread (g.faults old.source) (g.faults mid.source)) first.asks;
    }
