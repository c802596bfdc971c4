-- An image that is copied out of two sources, one behind the other.
use Rattle.std.proofs.Common.{◌≡◌, ◌⊎◌, ◌<◌, ◌∷◌, ◌++◌, ℕ, Bool, true, false, List, [], Option, Some, None, Result, IfSome, IsTrue, length, refl, sym, ap, ◌∙◌, subst}
use Rattle.std.specs.Prelude.{is_some, if◌then◌else◌}
use Rattle.elf_outside.specs.Counts.{Rose}
use Rattle.elf_outside.specs.declared.sources.Source.{Ghosts as SourceGhosts}
use Rattle.elf_outside.specs.declared.sinks.Sink.{Ghosts as SinkGhosts}
use Rattle.elf_outside.specs.declared.file_sets.Files.{Ghosts as FilesGhosts}
use Rattle.rebuild_join.specs.Pair.Pairs.{bytes_of_pair, IsPair}
use Rattle.rebuild_join.proofs.pair.LeaveLaws.{pair_leaves}
use Rattle.rebuild_join.specs.elf_descriptor.State.{State}
use Rattle.rebuild_join.specs.elf_descriptor.Views.{source_bytes}
use Rattle.rebuild_debug.specs.rebuild_image.Ranges.Images.{ranged_text}
use Rattle.rebuild_debug.specs.rebuild_image.Ranges.Ranges.{KeptSource, bytes_of_source, kept_of_source}
use Rattle.rebuild_debug.proofs.rebuild_image.ranges.RangeLaws.{bytes_long}
use Rattle.rebuild_debug.specs.rebuild_plan.declared.plans.RangedPlan.{RangedPlan}
use Rattle.rebuild_debug.specs.rebuild_plan.Plans.{CopiesAs, kept_with}
use Rattle.rebuild_files.specs.Writing.{IsOverSource, WritesImage, text_with, plan_text}
use Rattle.tool_output.specs.declared.stops.Stop.{Stop}
use Rattle.tool_output.specs.declared.outputs.Outputs.{Outputs}
use Rattle.tool_output.specs.Outcomes.{Does}
use Rattle.tool_output.specs.Made.{made_file, outcome_with}
use Rattle.tool_output.specs.Reports.{no_report}
use Rattle.tool_output.specs.Statuses.{refused_status}
use Rattle.unstrip_tool.specs.Copies.{WritesPair}
use Rattle.unstrip_tool.proofs.CauseLemmas.{leaves_by, one_rose}

-- ---- The bytes of both

-- a source has as many bytes as the base of an object over it
pub over_long : {S : Type 0} (g : SourceGhosts S) (e : State S) → IsOverSource g e
    → IfSome (g.holds e.source) (λ bytes. length bytes ≡ g.size e.source)
    → length e.o.base ≡ g.size e.source
over_long g e over sized =
    ap (λ (l : List ℕ). length l) over.base
    ∙ bytes_long (g.holds e.source) (g.size e.source) sized

-- where both tell their bytes, so does the pair
told_pair : (x y : Option (List ℕ)) (m n l : ℕ) → IsTrue (is_some x) → IsTrue (is_some y)
    → IsTrue (is_some (bytes_of_pair x y))
    × (source_bytes (bytes_of_pair x y) l ≡ source_bytes x m ++ source_bytes y n)
told_pair (Some x) (Some y) m n l one other = (refl, refl)
told_pair (Some x) None m n l one other = cc
told_pair None y m n l one other = cc

-- and so the text of a plan is told
text_told : (k : KeptSource) (x : RangedPlan) (P : List ℕ → Type 0) → IsTrue k.told
    → IfSome (text_with k x) P → P (ranged_text (kept_with k x) x.plan x.end)
text_told k x P told h = by k.told told h
  where
    by : (y : Bool) → IsTrue y
        → IfSome (if y then Some (ranged_text (kept_with k x) x.plan x.end) else None) P
        → P (ranged_text (kept_with k x) x.plan x.end)
    by true is here = here
    by false is here = cc

-- ---- What is written

module _ {S T P F D O E : Type 0} (g : SourceGhosts S) (h : SourceGhosts T) (k : SourceGhosts P)
    (f : FilesGhosts F D) (o : SinkGhosts O) (e : SinkGhosts E) (out : List ℕ)
    (plan : RangedPlan) (first next : S) (second after : T) (old new : P)
    (r : Result Bool Stop) (a b : F) (s t : Outputs O E) where
  abbrev Made : List ℕ → Type 0
  Made bytes =
      Does f o e refused_status (outcome_with no_report (made_file out bytes ∷ [])) r a b s t

  -- the plan's bytes over those of both
  made_of : IsPair g h k first second old → IsTrue (is_some (g.holds first))
      → IsTrue (is_some (h.holds second)) → (bytes : List ℕ)
      → CopiesAs (bytes_of_source g first ++ bytes_of_source h second) plan bytes
      → IfSome (plan_text k old plan) Made → Made bytes
  made_of is one other bytes copies made =
      let both = subst (λ (x : Option (List ℕ)). IsTrue (is_some x)
      × (source_bytes x (k.size old)
      ≡ bytes_of_source g first ++ bytes_of_source h second)) (sym is.holds)
      (told_pair (g.holds first) (h.holds second) (g.size first) (h.size second) (k.size old)
      one other) in
      subst Made (copies (kept_of_source k old) both.1)
      (text_told (kept_of_source k old) plan Made both.0 made)

  pub pair_written : WritesImage k f o e out (plan_text k old plan) r old new a b s t
      → IsPair g h k first second old → IsPair g h k next after new
      → WritesPair g h f o e out plan r first next second after a b s t
  pair_written writes was is =
      let left = pair_leaves g h k first next second after old new was is writes.source in
      record {
        does = λ tells one other bytes copies.
            made_of was one other bytes copies (writes.does tells);
        first = left.0;
        second = left.1;
        live = writes.live;
        leaves = leaves_by f o e (Rose (k.faults old) (k.faults new))
            ((0 < g.faults next) ⊎ (0 < h.faults after)) r a b s t
            (one_rose (k.faults old) (k.faults new) (g.faults next) (h.faults after) is.faults)
            writes.leaves;
      }
