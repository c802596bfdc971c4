-- An object that is updated to a new file, and the line of that.
use Rattle.std.proofs.Common.{◌≡◌, inl, inr, ◌∷◌, ◌-◌, ◌^◌, ◌<◌, ◌≤◌, if◌then◌else◌, ℕ, Bool, true, false, List, [], Option, Some, None, Result, Ok, Err, IfSome, IfNone, IsTrue, refl, sym, ap, subst, arith}
use Rattle.elf_types.specs.declared.errors.ElfError.{ElfError}
use Rattle.elf_types.specs.declared.errors.ElfError.TheVariants as error
use Rattle.elf_types.specs.Answers.{IsRefusal, answered}
use Rattle.elf_outside.specs.Counts.{RaisedAtMost}
use Rattle.elf_outside.specs.declared.sources.Source.{Ghosts as SourceGhosts}
use Rattle.elf_outside.specs.declared.sinks.Sink.{Ghosts as SinkGhosts}
use Rattle.elf_outside.specs.declared.file_sets.Files.{Ghosts as FilesGhosts}
use Rattle.elf_object.specs.Object.{Object}
use Rattle.elf_object.specs.Image.{image, image_length}
use Rattle.elf_object.specs.Layout.{placed}
use Rattle.elf_object.specs.Due.{update_to_due}
use Rattle.elf_object.specs.Valid.{IsObject}
use Rattle.elf_object.specs.Refusal.{refusal}
use Rattle.elf_object.specs.Calls as calls
use Rattle.elf_object.specs.Words.{Updates}
use Rattle.elf_object.proofs.RefusalLaws.{update_refuses}
use Rattle.law_object.proofs.TornLaws.{placed_stays}
use Rattle.elf_update_plan.specs.elf_descriptor.State.{State}
use Rattle.elf_update_plan.specs.elf_descriptor.Edits.{flagged}
use Rattle.tool_objects.specs.Steps.{SourceRose}
use Rattle.tool_output.specs.declared.stops.Stop.{Stop}
use Rattle.tool_output.specs.declared.stops.Stop.TheVariants.{Read, Write, Memory}
use Rattle.tool_output.specs.declared.outputs.Outputs.{Outputs}
use Rattle.tool_output.specs.Stops.{stop_of}
use Rattle.tool_output.specs.Statuses.{refused_status}
use Rattle.tool_output.specs.Steps.{LeavesOutputs, SinkRose}
use Rattle.tool_output.specs.Reports.{Reports, no_report}
use Rattle.tool_output.specs.Files.{LeavesFilesBy}
use Rattle.tool_output.specs.Outcomes.{write_of, Does}
use Rattle.tool_output.specs.Made.{made_file, outcome_with}
use Rattle.tool_output.proofs.StepLemmas.{writes_stop, keeps_none, keeps_then}
use Rattle.tool_output.proofs.FileLemmas.{totals_none}
use Rattle.tool_output.proofs.OutcomeLemmas.{nothing_done}
use Rattle.tool_files.specs.Making.{ReadsFrom, outcome_giving}
use Rattle.tool_files.proofs.SaidLemmas.{said_after}
use Rattle.elf_calls_apply.specs.declared.answers.Answer.{Answer}
use Rattle.elf_calls_apply.specs.declared.answers.Answer.TheVariants.{Size}
use Rattle.calls_tool.specs.Runs.{answer_report, update_report, ShowsAnswer}
use Rattle.calls_tool.specs.Update.Writes.{left_by_answer, left_outcome, LeavesOpen, WritesLaid, WritesLeft}
use Rattle.calls_tool.proofs.update.DueLemmas.{due_placed}

-- a refused update is refused by a refusal
refused_is : (p : Object) (d : ElfError) → calls.update_null.answer p ≡ Err d → IsRefusal d
refused_is p d is = by (refusal p) (update_refuses p) is
  where
    by : (x : Option ElfError) → IfSome x IsRefusal → answered x (image_length p) ≡ Err d
        → IsRefusal d
    by None h k = cc
    by (Some e) h k = let same : e ≡ d = cc in subst (λ (x : ElfError). IsRefusal x) same h

module _ {F D O E : Type 0} (f : FilesGhosts F D) (o : SinkGhosts O) (e : SinkGhosts E) where
  -- a step that writes on the outputs alone leaves the files
  pub outputs_left : (P : Type 0) (r : Result Bool Stop) (a : F) (s t : Outputs O E)
      → LeavesOutputs o e P r s t → LeavesFilesBy f o e P r a a s t
  outputs_left P (Ok x) a s t h =
      record { totals = totals_none f o e a; keeps = h.keeps; read = tt; write = tt }
  outputs_left P (Err Read) a s t h =
      record { totals = totals_none f o e a; keeps = h.keeps; read = h.read; write = tt }
  outputs_left P (Err Write) a s t h =
      record { totals = totals_none f o e a; keeps = h.keeps; read = tt; write = inr h.write }
  outputs_left P (Err Memory) a s t h =
      record { totals = totals_none f o e a; keeps = h.keeps; read = tt; write = tt }

  weaker_left : (P : Type 0) (r : Result Bool Stop) (a : F) (s t : Outputs O E)
      → LeavesOutputs o e ⊥ r s t → LeavesFilesBy f o e P r a a s t
  weaker_left P (Err Read) a s t h = absurd h.read
  weaker_left P (Ok x) a s t h =
      record { totals = totals_none f o e a; keeps = h.keeps; read = tt; write = tt }
  weaker_left P (Err Write) a s t h =
      record { totals = totals_none f o e a; keeps = h.keeps; read = tt; write = inr h.write }
  weaker_left P (Err Memory) a s t h =
      record { totals = totals_none f o e a; keeps = h.keeps; read = tt; write = tt }

  module _ (out : List ℕ) (p : Object) (a b : F) (s t : Outputs O E) where
    abbrev DoesLeft : Result Bool Stop → F → Outputs O E → Type 0
    DoesLeft r c v = Does f o e refused_status (left_outcome out p) r a c s v

    by_answer : (q : Result ℕ ElfError) (r : Result Bool Stop) (c : F) (v : Outputs O E)
        → calls.update_null.answer p ≡ q
        → Does f o e refused_status (left_by_answer out p q) r a c s v → DoesLeft r c v
    by_answer q r c v is h =
        subst (λ (x : Result ℕ ElfError).
        Does f o e refused_status (left_by_answer out p x) r a c s v) (sym is) h

    -- the file was made, and the length is said
    pub laid_written : (n : ℕ) (x : Bool) (r : Result Bool Stop) (u : Outputs O E)
        → Does {T = Bool} f o e refused_status
        (outcome_with no_report (made_file out (image p) ∷ [])) (Ok x) a b s t
        → Reports o e r t u (update_report (Ok n))
        → Does f o e refused_status (left_by_answer out p (Ok n)) r a b s u
    laid_written n x r u h k =
        said_after f o e a b s t u x (update_report (Ok n)) out (image p) r h k

    -- it is not made
    pub laid_stopped : (n : ℕ) (stop : Stop) → Does {T = Bool} f o e refused_status
        (outcome_with no_report (made_file out (image p) ∷ [])) (Err stop) a b s t
        → Does {T = Bool} f o e refused_status (left_by_answer out p (Ok n)) (Err stop) a b s t
    unfolding no_report
    laid_stopped n stop h = record {
      writes = writes_stop o e {T = Bool} {U = Bool} stop s t [] (update_report (Ok n)).marks
          h.writes;
      status = tt;
      files = tt;
      left = h.left;
      asks = tt;
      gives = tt;
    }

    -- of the object whose places are stored, which has the image of this one
    pub left_laid : (n : ℕ) (q : Object) (r : Result Bool Stop) → calls.update_null.answer p ≡ Ok n
        → image q ≡ image p → Does f o e refused_status (left_by_answer out q (Ok n)) r a b s t
        → DoesLeft r b t
    left_laid n q r is same h =
        by_answer (Ok n) r b t is
        (subst (λ (bytes : List ℕ). Does f o e refused_status
        (outcome_giving (update_report (Ok n)) (made_file out bytes ∷ []) None) r a b s t) same h)

    -- the update is refused
    left_refused : (d : ElfError) (r : Result Bool Stop) → calls.update_null.answer p ≡ Err d
        → Reports o e r s t (update_report (Err d)) → DoesLeft r a t
    unfolding write_of
    left_refused d (Ok x) is h =
        by_answer (Err d) (Ok x) a t is (record {
          writes = h.writes;
          status = ap refused_status h.value_is;
          files = λ name. refl;
          left = tt;
          asks = tt;
          gives = omega arith;
        })
    left_refused d (Err stop) is h =
        by_answer (Err d) (Err stop) a t is (record {
          writes = h.writes;
          status = tt;
          files = tt;
          left = λ name. refl;
          asks = tt;
          gives = omega arith;
        })

    wanting : (stop : Stop) (r : Result Bool Stop) → r ≡ Err stop → t ≡ s → DoesLeft r a t
    wanting stop r is same =
        rw (is, same) (nothing_done f o e refused_status (left_outcome out p) stop a s)

    -- or there is no memory for it
    pub left_unwritten : {S : Type 0} (d : ElfError) (r : Result Bool Stop) (old new stepped : S)
        → Updates {A = ℕ} (Err d) old new (calls.update_null.answer p) stepped
        → ShowsAnswer o e (Err d) r s t → DoesLeft r a t
    unfolding answer_report update_report
    left_unwritten error.Memory r old new stepped came shown =
        wanting Memory r shown.stops.0 shown.stops.1
    left_unwritten error.Read r old new stepped came shown =
        absurd (refused_is p error.Read came.0)
    left_unwritten error.Write r old new stepped came shown =
        absurd (refused_is p error.Write came.0)
    left_unwritten d r old new stepped came shown = left_refused d r came.0 shown.reports

  pub unwritten_left : {S : Type 0} (P : Type 0) (p : Object) (d : ElfError)
      (r : Result Bool Stop) (old new stepped : S) (a : F) (s t : Outputs O E)
      → Updates {A = ℕ} (Err d) old new (calls.update_null.answer p) stepped
      → ShowsAnswer o e (Err d) r s t → LeavesFilesBy f o e P r a a s t
  unwritten_left P p error.Memory r old new stepped a s t came shown =
      rw (shown.stops.0, shown.stops.1) (record {
        totals = totals_none f o e a;
        keeps = keeps_none o e s;
        read = tt;
        write = tt;
      })
  unwritten_left P p error.Read r old new stepped a s t came shown =
      absurd (refused_is p error.Read came.0)
  unwritten_left P p error.Write r old new stepped a s t came shown =
      absurd (refused_is p error.Write came.0)
  unwritten_left P p d r old new stepped a s t came shown = weaker_left P r a s t shown.leaves

-- a refused update leaves the object
pub refused_same : {S A : Type 0} (d : ElfError) (old new stepped : S) (stated : Result A ElfError)
    → Updates (Err d) old new stated stepped → new ≡ old
refused_same error.Memory old new stepped stated came = came.1
refused_same d old new stepped stated came = came.1

-- an update that is not refused
pub update_unrefused : (p : Object) (n : ℕ) → calls.update_null.answer p ≡ Ok n → refusal p ≡ None
update_unrefused p n is = by (refusal p) is
  where
    by : (x : Option ElfError) → answered x (image_length p) ≡ Ok n → x ≡ None
    by None h = refl
    by (Some e) h = cc

-- nor is one of the object whose places are stored
pub laid_passes : {S : Type 0} (old mid : State S) (n : ℕ) → IsObject old.o
    → Updates {A = ℕ} (Ok n) old mid (calls.update_null.answer old.o)
    (flagged calls.update_null old)
    → refusal mid.o ≡ None
laid_passes {S} old mid n ok came =
    subst (λ (m : State S). refusal m.o ≡ None) (sym came.1)
    (placed_stays old.o ok (update_unrefused old.o n came.0)).1

-- ---- The steps

module _ {S F D O E : Type 0} (g : SourceGhosts S) (f : FilesGhosts F D) (o : SinkGhosts O)
    (e : SinkGhosts E) (out : List ℕ) (old new : State S) (a b : F) (s t : Outputs O E) where
  -- what the step that makes the file leaves
  module _ (made : Result Bool Stop)
      (does : IsTrue (f.tells a) → IfSome (if old.told then Some (image old.o) else None)
      (λ bytes. Does f o e refused_status
      (outcome_with no_report (made_file out bytes ∷ [])) made a b s t))
      (left : LeavesFilesBy f o e (SourceRose g old new) made a b s t)
      (source : ReadsFrom g old.source new.source (update_to_due old.o old.loaded))
      (taken : f.taken b ≡ f.taken a) (live : f.live a < 2 ^ 64 - 2 → f.live b ≡ f.live a) where
    image_does : IsTrue (f.tells a) → IsTrue old.told → Does f o e refused_status
        (outcome_with no_report (made_file out (image old.o) ∷ [])) made a b s t
    image_does tells told =
        by old.told told (does tells)
      where
        by : (q : Bool) → IsTrue q → IfSome (if q then Some (image old.o) else None)
            (λ bytes. Does f o e refused_status
            (outcome_with no_report (made_file out bytes ∷ [])) made a b s t)
            → Does f o e refused_status
            (outcome_with no_report (made_file out (image old.o) ∷ [])) made a b s t
        by true is h = h
        by false is h = cc

    pub laid_unmade : (size : ℕ) (stop : Stop) → made ≡ Err stop
        → WritesLaid g f o e out size (Err stop) old new a b s t
    laid_unmade size stop is = record {
      does = λ tells told.
          laid_stopped f o e out old.o a b s t size stop
          (subst (λ (r : Result Bool Stop). Does f o e refused_status
          (outcome_with no_report (made_file out (image old.o) ∷ [])) r a b s t) is
          (image_does tells told));
      asks = source.taken;
      leaves = record {
        source = source.leaves;
        later = source.later;
        taken = taken;
        live = live;
        leaves = subst (λ (r : Result Bool Stop).
            LeavesFilesBy f o e (SourceRose g old new) r a b s t) is left;
      };
    }

    pub laid_made : (size : ℕ) (x : Bool) (r : Result Bool Stop) (u : Outputs O E) → made ≡ Ok x
        → ShowsAnswer o e (Ok (Size size)) r t u
        → WritesLaid g f o e out size r old new a b s u
    unfolding answer_report update_report
    laid_made size x r u is shown = record {
      does = λ tells told.
          laid_written f o e out old.o a b s t size x r u
          (subst (λ (q : Result Bool Stop). Does f o e refused_status
          (outcome_with no_report (made_file out (image old.o) ∷ [])) q a b s t) is
          (image_does tells told)) shown.reports;
      asks = source.taken;
      leaves = record {
        source = source.leaves;
        later = source.later;
        taken = taken;
        live = live;
        leaves = said r shown.leaves;
      };
    }
      where
        said : (q : Result Bool Stop) → LeavesOutputs o e ⊥ q t u
            → LeavesFilesBy f o e (SourceRose g old new) q a b s u
        said (Ok y) h = record {
          totals = left.totals;
          keeps = keeps_then o e s t u left.keeps h.keeps;
          read = tt;
          write = tt;
        }
        said (Err Read) h = absurd h.read
        said (Err Write) h = record {
          totals = left.totals;
          keeps = keeps_then o e s t u left.keeps h.keeps;
          read = tt;
          write = inr (later h.write);
        }
          where
            later : SinkRose o e t.out.now u.out.now t.err.now u.err.now
                → SinkRose o e s.out.now u.out.now s.err.now u.err.now
            later (inl rose) = inl (let first = left.keeps.leaves.out_later in omega arith)
            later (inr rose) = inr (let first = left.keeps.leaves.err_later in omega arith)
        said (Err Memory) h = record {
          totals = left.totals;
          keeps = keeps_then o e s t u left.keeps h.keeps;
          read = tt;
          write = tt;
        }

  -- the places are stored, and then the image is written
  pub left_is_laid : (mid : State S) (n : ℕ) (r : Result Bool Stop) → IsObject old.o
      → Updates {A = ℕ} (Ok n) old mid (calls.update_null.answer old.o)
      (flagged calls.update_null old)
      → WritesLaid g f o e out n r mid new a b s t
      → WritesLeft g f o e out r old new a b s t
  left_is_laid mid n r ok came h =
      let passed = update_unrefused old.o n came.0 in
      let laid : WritesLaid g f o e out n r (flagged calls.update_null old) new a b s t =
      subst (λ (m : State S). WritesLaid g f o e out n r m new a b s t) came.1 h in
      record {
        does = λ tells told.
            left_laid f o e out old.o a b s t n (placed old.o) r came.0
            (placed_stays old.o ok passed).2 (laid.does tells told);
        asks = subst (λ (due : ℕ). RaisedAtMost (g.taken old.source) (g.taken new.source) due)
            (due_placed old.o old.loaded ok passed) laid.asks;
        leaves = record {
          source = laid.leaves.source;
          later = laid.leaves.later;
          taken = laid.leaves.taken;
          live = laid.leaves.live;
          leaves = laid.leaves.leaves;
        };
      }

  -- it is refused
  pub left_is_refused : (mid : State S) (d : ElfError) (r : Result Bool Stop)
      → Updates {A = ℕ} (Err d) old mid (calls.update_null.answer old.o)
      (flagged calls.update_null old)
      → ShowsAnswer o e (Err d) r s t → WritesLeft g f o e out r old mid a a s t
  left_is_refused mid d r came shown =
      subst (λ (m : State S). WritesLeft g f o e out r old m a a s t)
      (sym (refused_same d old mid (flagged calls.update_null old)
      (calls.update_null.answer old.o) came)) (record {
        does = λ tells told.
            left_unwritten f o e out old.o a a s t d r old mid (flagged calls.update_null old)
            came shown;
        asks = record { later = omega arith; no_more = omega arith };
        leaves = record {
          source = record { same_len = refl; same_bytes = refl; same_rest = refl };
          later = omega arith;
          taken = refl;
          live = λ small. refl;
          leaves = unwritten_left f o e (SourceRose g old old) old.o d r old mid
              (flagged calls.update_null old) a s t came shown;
        };
      })
