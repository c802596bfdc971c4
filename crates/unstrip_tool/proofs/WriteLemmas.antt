-- What strip with -f writes of an image, and what it says where it writes nothing.
use Rattle.std.proofs.Common.{◌≡◌, ◌∷◌, ℕ, Bool, true, false, List, [], codes, Option, Some, None, Result, Ok, Err, IfSome, refl, sym, ap, ◌∙◌, subst, arith}
use Rattle.std.specs.Prelude.{IsTrue, if◌then◌else◌}
use Rattle.std.specs.Option.{option_map}
use Rattle.elf_types.specs.declared.errors.ElfError.{ElfError}
use Rattle.elf_types.specs.declared.errors.ElfError.TheVariants as error
use Rattle.elf_types.specs.Answers.{answered, stated_refusal, ◌>>=◌}
use Rattle.elf_types.specs.Text.{error_text}
use Rattle.elf_outside.specs.Counts.{Rose}
use Rattle.elf_outside.specs.declared.sources.Source.{Ghosts as SourceGhosts}
use Rattle.elf_outside.specs.declared.sinks.Sink.{Ghosts as SinkGhosts}
use Rattle.elf_outside.specs.declared.file_sets.Files.{Ghosts as FilesGhosts}
use Rattle.elf_object.specs.Object.{Object}
use Rattle.elf_object.specs.Words.{Wants, Answers}
use Rattle.rebuild_join.specs.elf_descriptor.State.{State}
use Rattle.rebuild_join.specs.elf_descriptor.Reads.{Queries}
use Rattle.rebuild_model.specs.Arranged.{Rebuilt}
use Rattle.rebuild_model.specs.Files.{file_of}
use Rattle.rebuild_model.specs.Rebuilt.{rebuilt}
use Rattle.rebuild_model.specs.Split.{debug_of, removed_allocated}
use Rattle.rebuild_files.specs.elfkit_outcomes.Strip.{strip_split, allocated_text}
use Rattle.rebuild_join.specs.rebuild_select.Calls as calls
use Rattle.rebuild_debug.specs.rebuild_image.Ranges.Images.{ranged_text}
use Rattle.rebuild_debug.specs.rebuild_image.Ranges.Ranges.{KeptSource, kept_of_source}
use Rattle.rebuild_debug.specs.rebuild_plan.declared.plans.RangedPlan.{RangedPlan}
use Rattle.rebuild_debug.specs.rebuild_plan.Plans.{kept_with}
use Rattle.rebuild_debug.proofs.rebuild_plan.RemovedLaws.{set_is, never_refused}
use Rattle.rebuild_files.specs.Writing.{IsOverSource, text_with}
use Rattle.rebuild_files.proofs.BegunLemmas.{over_stays}
use Rattle.tool_output.specs.declared.stops.Stop.{Stop}
use Rattle.tool_output.specs.declared.outputs.Outputs.{Outputs}
use Rattle.tool_output.specs.Steps.{LeavesOutputs}
use Rattle.tool_output.specs.Names.{file_name}
use Rattle.tool_output.specs.Outcomes.{Does}
use Rattle.tool_output.specs.Reports.{Report, Reports, no_report, refusal_report}
use Rattle.tool_output.specs.Statuses.{refused_status}
use Rattle.tool_output.specs.Made.{Done, Complaint, made_file, complaint, of_file, outcome_with, written_outcome}
use Rattle.tool_output.proofs.UnderWayLemmas.{shown_none}
use Rattle.rebuild_files.specs.tool_objects.Refusals.{ReportsRefusal}
use Rattle.rebuild_files.proofs.tool_objects.SourceSteps.{leaves_then}
use Rattle.rebuild_files.specs.tool_files.ElfImages.Writes.{WritesFile}
use Rattle.rebuild_files.proofs.tool_files.elf_images.WriteLemmas.{DoesHere, outputs_leave, said_done, refused_writes, written_then}
use Rattle.unstrip_tool.specs.declared.plans.SplitPlans.{SplitPlans}
use Rattle.unstrip_tool.specs.declared.names.HalfNames.{HalfNames}
use Rattle.unstrip_tool.specs.Copies.{WritesHalves}
use Rattle.unstrip_tool.specs.Splitting.{both_bytes, both_files, split_file_bytes, SplitAnswers, PlansSplit}
use Rattle.unstrip_tool.specs.Writes.{both_made, split_done, object_split}
use Rattle.unstrip_tool.proofs.CauseLemmas.{leaves_by}

-- ---- What is stated of the object

module _ (o : Object) (removed file : List ℕ) (names : HalfNames) where
  -- each refusal is one of the file
  files_of : (x y : Result (List ℕ) ElfError)
      → (of_file file x >>= λ bytes. of_file file y >>= λ others.
      Ok (both_made names bytes others))
      ≡ split_done file names (both_bytes x y)
  files_of (Ok x) (Ok y) = refl
  files_of (Ok x) (Err e) = refl
  files_of (Err e) y = refl

  -- no section is lost
  in_either : (r : Result Rebuilt ElfError) (half : Result Object ElfError)
      → (of_file file r >>= λ r. of_file file half >>= λ half.
      of_file file (file_of r.object) >>= λ bytes. of_file file (file_of half) >>= λ others.
      Ok (both_made names bytes others))
      ≡ split_done file names (r >>= λ r. half >>= λ half. both_files r.object half)
  in_either (Ok r) (Ok half) = files_of (file_of r.object) (file_of half)
  in_either (Ok r) (Err e) = refl
  in_either (Err e) half = refl

  -- by the first section that is
  abbrev stated_of : Option ℕ → Result Done Complaint
  stated_of (Some s) = Err (complaint file (allocated_text s))
  stated_of None = split_done file names (split_file_bytes o removed)

  stated_is : strip_split o removed names.stripped.now names.debug.now file
      ≡ stated_of (removed_allocated o removed)
  unfolding strip_split
  stated_is = by (removed_allocated o removed)
    where
      by : (lost : Option ℕ)
          → (answered (option_map (λ s. complaint file (allocated_text s)) lost) o >>= λ o.
          of_file file (rebuilt o removed) >>= λ r. of_file file (debug_of o) >>= λ half.
          of_file file (file_of r.object) >>= λ bytes. of_file file (file_of half) >>= λ others.
          Ok (both_made names bytes others))
          ≡ stated_of lost
      by (Some s) = refl
      by None = in_either (rebuilt o removed) (debug_of o)

  pub split_stated : None ≡ removed_allocated o removed
      → strip_split o removed names.stripped.now names.debug.now file
      ≡ split_done file names (split_file_bytes o removed)
  split_stated none = stated_is ∙ ap stated_of (sym none)

  pub lost_stated : (s : ℕ) → Some s ≡ removed_allocated o removed
      → strip_split o removed names.stripped.now names.debug.now file
      ≡ Err (complaint file (allocated_text s))
  lost_stated s some = stated_is ∙ ap stated_of (sym some)

module _ {S F D O E : Type 0} (g : SourceGhosts S) (f : FilesGhosts F D) (o : SinkGhosts O)
    (e : SinkGhosts E) (file : List ℕ) (names : HalfNames) where
  abbrev Writes : Result Done Complaint → Result Bool Stop → State S → S → F → F → Outputs O E
      → Outputs O E → Type 0
  Writes q r old next a b s t =
      WritesFile g f o e (written_outcome (codes "strip") q) r old (record old { source = next })
      a b s t

  -- ---- Both halves

  abbrev Both : Result Bool Stop → F → F → Outputs O E → Outputs O E → List ℕ → List ℕ → Type 0
  Both r a b s t bytes others =
      Does f o e refused_status (outcome_with no_report
      (made_file names.stripped.now bytes ∷ made_file names.debug.now others ∷ [])) r a b s t

  -- the bytes of both are told
  told_both : (k : KeptSource) (p q : RangedPlan) (P : List ℕ → List ℕ → Type 0) → IsTrue k.told
      → IfSome (text_with k p) (λ bytes. IfSome (text_with k q) (λ others. P bytes others))
      → P (ranged_text (kept_with k p) p.plan p.end) (ranged_text (kept_with k q) q.plan q.end)
  told_both k p q P told h = by k.told told h
    where
      by : (y : Bool) → IsTrue y
          → IfSome (if y then Some (ranged_text (kept_with k p) p.plan p.end) else None) (λ x.
          IfSome (if y then Some (ranged_text (kept_with k q) q.plan q.end) else None) (λ z.
          P x z))
          → P (ranged_text (kept_with k p) p.plan p.end) (ranged_text (kept_with k q) q.plan q.end)
      by true is here = here
      by false is here = cc

  both_here : (bytes others : List ℕ) (r : Result Bool Stop) (a b : F) (s t : Outputs O E)
      → Both r a b s t bytes others
      → DoesHere f o e (codes "strip") (Ok (both_made names bytes others)) r a b s t
  unfolding written_outcome
  both_here bytes others r a b s t h =
      subst (λ (x : Report). Does f o e refused_status (outcome_with x
      (made_file names.stripped.now bytes ∷ made_file names.debug.now others ∷ [])) r a b s t)
      (sym shown_none) h

  pub split_written : (removed : List ℕ) (old mid : State S) (next : S) (p : SplitPlans)
      (r : Result Bool Stop) (a b : F) (s t : Outputs O E) → IsOverSource g old
      → PlansSplit g removed (Ok p) old mid
      → WritesHalves g f o e names p r mid.source next a b s t
      → Writes (split_done file names (split_file_bytes old.o removed)) r old next a b s t
  split_written removed old mid next p r a b s t over plans writes = record {
    does = λ tells told.
        let known = plans.answer told in
        let here = over_stays g old mid over plans.asks.object plans.asks.told
        plans.asks.source.leaves in
        let k = kept_of_source g mid.source in
        let base : k.base ≡ old.o.base =
        sym here.base ∙ ap (λ (q : Object). q.base) plans.asks.object in
        let known_told : IsTrue k.told =
        subst (λ (y : Bool). IsTrue y) here.told
        (subst (λ (y : Bool). IsTrue y) (sym plans.asks.told) told) in
        subst (λ (q : Result Done Complaint). DoesHere f o e (codes "strip") q r a b s t)
        (sym (ap (split_done file names) known.2))
        (both_here known.0 known.1 r a b s t
        (subst (λ (x : List ℕ). Both r a b s t x known.1) (known.3 k base)
        (subst (λ (y : List ℕ). Both r a b s t
        (ranged_text (kept_with k p.stripped) p.stripped.plan p.stripped.end) y)
        (known.4 k base)
        (told_both k p.stripped p.debug (Both r a b s t) known_told (writes.does tells)))));
    source = leaves_then g old.source mid.source next plans.asks.source.leaves writes.source;
    later = let one = plans.asks.source.later in let two = writes.later in
        omega (arith, one, two);
    live = writes.live;
    leaves = leaves_by f o e (Rose (g.faults mid.source) (g.faults next))
        (Rose (g.faults old.source) (g.faults next)) r a b s t
        (λ rose. let one = plans.asks.source.later in omega (arith, one, rose)) writes.leaves;
  }

  split_fault : (base : List ℕ) (r : Result (List ℕ × List ℕ) ElfError) (d : ElfError)
      → SplitAnswers base (Err d) r
      → IfSome (stated_refusal d)
      (λ x. split_done file names r ≡ Err (complaint file (error_text x)))
  split_fault base r error.Memory is = tt
  split_fault base r error.Read is = tt
  split_fault base r error.Write is = absurd is
  split_fault base r d is = ap (split_done file names) is

  pub split_refused : (removed : List ℕ) (old mid : State S) (d : ElfError)
      (r : Result Bool Stop) (a : F) (s t : Outputs O E) → PlansSplit g removed (Err d) old mid
      → ReportsRefusal o e (codes "strip") (file_name file) d r s t
      → Writes (split_done file names (split_file_bytes old.o removed)) r old mid.source a a s t
  split_refused removed old mid d r a s t first h =
      refused_writes g f o e (codes "strip") file
      (split_done file names (split_file_bytes old.o removed)) old
      (record old { source = mid.source }) SplitPlans d r a s t
      (λ tells told. split_fault old.o.base (split_file_bytes old.o removed) d (first.answer told))
      first.asks.source.leaves first.asks.source.later first.asks.source.read h

  -- ---- A section that is lost

  pub lost_said : (removed : List ℕ) (state : State S) (n : ℕ) (r : Result Bool Stop) (a : F)
      (s t : Outputs O E) → Some n ≡ removed_allocated state.o removed
      → Reports o e r s t (refusal_report (codes "strip") (file_name file) (allocated_text n))
      → LeavesOutputs o e ⊥ r s t
      → Writes (strip_split state.o removed names.stripped.now names.debug.now file) r
      state state.source a a s t
  lost_said removed state n r a s t some h left = record {
    does = λ tells told.
        subst (λ (q : Result Done Complaint). DoesHere f o e (codes "strip") q r a a s t)
        (sym (lost_stated state.o removed file names n some))
        (said_done f o e (codes "strip") file (allocated_text n) r a s t tells h);
    source = record { same_len = refl; same_bytes = refl; same_rest = refl };
    later = omega arith;
    live = λ small. refl;
    leaves = outputs_leave f o e (codes "strip")
        (Rose (g.faults state.source) (g.faults state.source)) r a s t left;
  }

  pub none_lost : (removed : List ℕ) (old : State S) (next : S) (r : Result Bool Stop) (a b : F)
      (s t : Outputs O E) → None ≡ removed_allocated old.o removed
      → Writes (split_done file names (split_file_bytes old.o removed)) r old next a b s t
      → Writes (strip_split old.o removed names.stripped.now names.debug.now file) r
      old next a b s t
  none_lost removed old next r a b s t none h =
      subst (λ (q : Result Done Complaint). Writes q r old next a b s t)
      (sym (split_stated old.o removed file names none)) h

  -- ---- What is removed

  module _ (debug_only : Bool) (wanted : List (List ℕ)) (wants : Wants) (old mid : State S) where
    -- of the state afterwards the source alone counts
    as_new : (q : Result Done Complaint) (next : S) (r : Result Bool Stop) (a b : F)
        (s t : Outputs O E) → Writes q r mid next a b s t
        → WritesFile g f o e (written_outcome (codes "strip") q) r mid
        (record old { source = next }) a b s t
    as_new q next r a b s t h = record {
      does = h.does;
      source = h.source;
      later = h.later;
      live = h.live;
      leaves = h.leaves;
    }

    pub removed_written : (next : S) (set : List ℕ) (r : Result Bool Stop) (a b : F)
        (s t : Outputs O E)
        → Answers old.told wants (Ok set) ((calls.removed debug_only wanted).answer old.o)
        → Queries g (calls.removed debug_only wanted) [] (Ok set) old mid
        → Writes (strip_split mid.o set names.stripped.now names.debug.now file) r mid next
        a b s t
        → Writes (object_split debug_only wanted names file old.o) r old next a b s t
    removed_written next set r a b s t came queries second =
        let stated : Result Done Complaint =
        strip_split mid.o set names.stripped.now names.debug.now file in
        written_then g f o e (codes "strip") (object_split debug_only wanted names file old.o)
        stated old mid (record old { source = next }) r a b s t
        queries.reads.told queries.reads.source.leaves queries.reads.source.later
        (λ told. ap (λ (l : List ℕ).
        strip_split old.o l names.stripped.now names.debug.now file)
        (sym (set_is debug_only wanted wants old.told old.o set came told))
        ∙ ap (λ (p : Object). strip_split p set names.stripped.now names.debug.now file)
        (sym queries.object))
        (as_new stated next r a b s t second)

    pub removed_refused : (d : ElfError) (r : Result Bool Stop) (a : F) (s t : Outputs O E)
        → Answers {A = List ℕ} old.told wants (Err d)
        ((calls.removed debug_only wanted).answer old.o)
        → Queries {T = List ℕ} g (calls.removed debug_only wanted) [] (Err d) old mid
        → ReportsRefusal o e (codes "strip") (file_name file) d r s t
        → Writes (object_split debug_only wanted names file old.o) r old mid.source a a s t
    removed_refused d r a s t came queries h =
        let stated : Result Done Complaint =
        object_split debug_only wanted names file old.o in
        refused_writes g f o e (codes "strip") file stated old
        (record old { source = mid.source }) (List ℕ) d r a s t
        (λ tells told. never_refused debug_only wanted wants old.told old.o
        (λ x. IfSome (stated_refusal x) (λ y. stated ≡ Err (complaint file (error_text y)))) d
        came tt tt)
        queries.reads.source.leaves queries.reads.source.later queries.reads.source.read h
