-- Two plans that are copied to two new files, one after the other.
use Rattle.std.proofs.Common.{◌≡◌, inl, inr, ◌-◌, ◌^◌, ◌<◌, ◌≤◌, ℕ, Bool, false, List, [], Option, Result, Ok, Err, refl, sym, ap, ◌∙◌, subst, arith}
use Rattle.elf_outside.specs.Asks.{Leaves}
use Rattle.elf_outside.specs.Counts.{Rose}
use Rattle.elf_outside.specs.declared.sources.Source.{Ghosts as SourceGhosts}
use Rattle.elf_outside.specs.declared.sinks.Sink.{Ghosts as SinkGhosts}
use Rattle.elf_outside.specs.declared.file_sets.Files.{Ghosts as FilesGhosts}
use Rattle.tool_output.specs.declared.stops.Stop.{Stop}
use Rattle.tool_output.specs.declared.stops.Stop.TheVariants.{Read, Write, Memory}
use Rattle.tool_output.specs.declared.outputs.Outputs.{Outputs}
use Rattle.tool_output.specs.Files.{LeavesFilesBy}
use Rattle.tool_output.specs.Steps.{Writes, LeavesOutputs}
use Rattle.tool_output.proofs.FileLemmas.{totals_then}
use Rattle.rebuild_files.proofs.tool_objects.SourceSteps.{leaves_then}
use Rattle.rebuild_files.proofs.tool_files.WriteLemmas.{images_unput, first_stopped, both_done, second_stopped, order_none, order_first, order_second, order_done}
use Rattle.rebuild_debug.specs.rebuild_image.Ranges.Ranges.{KeptSource}
use Rattle.rebuild_debug.proofs.rebuild_image.ranges.RangeLaws.{kept_same}
use Rattle.rebuild_debug.specs.rebuild_plan.declared.plans.RangedPlan.{RangedPlan}
use Rattle.rebuild_files.specs.Writing.{MakesPlan, text_with, plan_text, refuses_nothing}
use Rattle.rebuild_files.proofs.WritingLemmas.{put_left, made_left}
use Rattle.unstrip_tool.specs.declared.names.HalfNames.{HalfNames}
use Rattle.unstrip_tool.specs.declared.plans.SplitPlans.{SplitPlans}
use Rattle.unstrip_tool.specs.Copies.{StopsFirst, MakesSecond, MakesBoth, WritesHalves}

-- ---- Both files

module _ {S F D : Type 0} (g : SourceGhosts S) (f : FilesGhosts F D) (names : HalfNames)
    (plans : SplitPlans) (src : S) (a : F) where
  abbrev First : Result (Unit {0}) Stop → S → F → Type 0
  First r next b =
      MakesPlan g f names.stripped.now (plan_text g src plans.stripped) r src next a b

  pub first_unmade : (stop : Stop) (r : Result (Unit {0}) Stop) (next : S) (b : F) → r ≡ Err stop
      → First r next b → MakesBoth g f names plans (Err stop) src next a b
  first_unmade stop r next b is first =
      inl (record {
        stopped = tt;
        first = subst (λ (x : Result (Unit {0}) Stop). First x next b) is first;
      })

  -- the source holds what it held, so the text of the second is the same
  text_stays : (mid : S) (x : RangedPlan) → Leaves g src mid
      → plan_text g mid x ≡ plan_text g src x
  text_stays mid x leaves = ap (λ (k : KeptSource). text_with k x) (kept_same g src mid leaves)

  pub second_made : (q r : Result (Unit {0}) Stop) (mid next : S) (between b : F) → q ≡ Ok tt
      → First q mid between
      → MakesPlan g f names.debug.now (plan_text g mid plans.debug) r mid next between b
      → MakesBoth g f names plans r src next a b
  second_made q r mid next between b is first second =
      inr (record {
        source = mid;
        files = between;
        first = subst (λ (x : Result (Unit {0}) Stop). First x mid between) is first;
        second = subst (λ (t : Option (List ℕ)).
            MakesPlan g f names.debug.now t r mid next between b)
            (text_stays mid plans.debug first.source) second;
      })

-- ---- What was said before is put, and then they are made

module _ {S F D O E : Type 0} (g : SourceGhosts S) (f : FilesGhosts F D) (o : SinkGhosts O)
    (e : SinkGhosts E) (names : HalfNames) (plans : SplitPlans) (src : S) (a : F)
    (s t : Outputs O E) where
  abbrev one : Option (List ℕ)
  one = plan_text g src plans.stripped

  abbrev other : Option (List ℕ)
  other = plan_text g src plans.debug

  abbrev Halves : Result Bool Stop → S → F → Type 0
  Halves q next b = WritesHalves g f o e names plans q src next a b s t

  pub unput_halves : (stop : Stop) → Writes {T = Unit {0}} o e (Err stop) s t []
      → LeavesOutputs {T = Unit {0}} o e ⊥ (Err stop) s t → Halves (Err stop) src a
  unput_halves stop put l = record {
    does = λ told.
        images_unput f o e a s t told stop names.stripped.now names.debug.now one other put;
    order = order_none f names.stripped.now names.debug.now one (Err stop) a;
    source = record { same_len = refl; same_bytes = refl; same_rest = refl };
    later = omega arith;
    live = λ small. refl;
    leaves = put_left g f o e names.stripped.now one src a s t
        (Rose (g.faults src) (g.faults src)) stop l;
  }

  module _ (put : Writes {T = Unit {0}} o e (Ok tt) s t [])
      (l : LeavesOutputs {T = Unit {0}} o e ⊥ (Ok tt) s t) (next : S) (b : F) where
    -- the first is not made
    by_first : (r : Result (Unit {0}) Stop) → StopsFirst g f names plans r src next a b
        → Halves (refuses_nothing r) next b
    by_first (Ok x) stops = absurd stops.stopped
    by_first (Err stop) stops =
        let first = stops.first in
        record {
          does = λ told.
              first_stopped f o e (tt {0}) a b s t names.stripped.now names.debug.now
              (g.faults src) (g.faults next) put told stop one other first.makes;
          order = order_first f names.stripped.now names.debug.now names.apart (g.faults src)
              (g.faults next) a b stop one first.makes;
          source = first.source;
          later = first.later;
          live = first.live;
          leaves = made_left g f o e names.stripped.now one src a s t put l next b (Err stop)
              first;
        }

    module _ (r : Result (Unit {0}) Stop) (both : MakesSecond g f names plans r src next a b)
      where
        both_later : g.faults src ≤ g.faults next
        both_later =
            let first = both.first.later in
            let second = both.second.later in omega (arith, first, second)

        both_live : f.live a < 2 ^ 64 - 2 → f.live b ≡ f.live a
        both_live small =
            let first = both.first.live small in
            let second = both.second.live (omega (arith, small, first)) in second ∙ first

        both_left : (q : Result (Unit {0}) Stop)
            → MakesSecond g f names plans q src next a b
            → LeavesFilesBy f o e (Rose (g.faults src) (g.faults next)) (refuses_nothing q) a b s t
        both_left (Ok x) made = record {
          totals = totals_then f o e a made.files b made.first.makes.totals
              made.second.makes.totals;
          keeps = l.keeps;
          read = tt;
          write = tt;
        }
        both_left (Err Read) made = record {
          totals = totals_then f o e a made.files b made.first.makes.totals
              made.second.makes.totals;
          keeps = l.keeps;
          read = let before = made.first.later in let rose = made.second.makes.read in
              omega (arith, before, rose);
          write = tt;
        }
        both_left (Err Write) made = record {
          totals = totals_then f o e a made.files b made.first.makes.totals
              made.second.makes.totals;
          keeps = l.keeps;
          read = tt;
          write = inl (let before = made.first.makes.totals.write_faults in
              let rose = made.second.makes.write in omega (arith, before, rose));
        }
        both_left (Err Memory) made = record {
          totals = totals_then f o e a made.files b made.first.makes.totals
              made.second.makes.totals;
          keeps = l.keeps;
          read = tt;
          write = tt;
        }

    by_second : (r : Result (Unit {0}) Stop) → MakesSecond g f names plans r src next a b
        → Halves (refuses_nothing r) next b
    by_second (Ok x) both = record {
      does = λ told.
          both_done f o e (tt {0}) a both.files s t names.stripped.now names.debug.now
          (g.faults src) (g.faults both.source) put told (tt {0}) b (g.faults both.source)
          (g.faults next) names.apart x one other both.first.makes both.second.makes;
      order = order_done f names.stripped.now names.debug.now one false a b;
      source = leaves_then g src both.source next both.first.source both.second.source;
      later = both_later (Ok x) both;
      live = both_live (Ok x) both;
      leaves = both_left (Ok x) both (Ok x) both;
    }
    by_second (Err stop) both = record {
      does = λ told.
          second_stopped f o e (tt {0}) a both.files s t names.stripped.now names.debug.now
          (g.faults src) (g.faults both.source) put told (tt {0}) b (g.faults both.source)
          (g.faults next) names.apart stop one other both.first.makes both.second.makes;
      order = order_second f names.stripped.now names.debug.now names.apart (g.faults src)
          (g.faults both.source) a both.files stop one other (tt {0}) (g.faults both.source)
          (g.faults next) b both.first.makes both.second.makes;
      source = leaves_then g src both.source next both.first.source both.second.source;
      later = both_later (Err stop) both;
      live = both_live (Err stop) both;
      leaves = both_left (Err stop) both (Err stop) both;
    }

    pub halves_made : (r : Result (Unit {0}) Stop) (q : Result Bool Stop) → q ≡ refuses_nothing r
        → MakesBoth g f names plans r src next a b → Halves q next b
    halves_made r q is made =
        subst (λ (x : Result Bool Stop). Halves x next b) (sym is) (by made)
      where
        by : MakesBoth g f names plans r src next a b → Halves (refuses_nothing r) next b
        by (inl stops) = by_first r stops
        by (inr both) = by_second r both
