-- A report beside the files that are made: before them, and once one is made.
use Rattle.std.proofs.Common.{◌≡◌, inr, ◌∷◌, ◌||◌, ℕ, Bool, true, false, List, [], length, Option, Some, None, Result, Ok, Err, IfSome, IsTrue, if◌then◌else◌, refl, sym, ap, ◌∙◌, arith}
use Rattle.std.specs.Str.{bytes_eq}
use Rattle.std.proofs.lemmas.List.{take_all}
use Rattle.tool_output.specs.elf_outside.declared.sinks.Sink.{Ghosts as SinkGhosts}
use Rattle.tool_output.specs.elf_outside.declared.file_sets.Files.{Ghosts as FilesGhosts}
use Rattle.tool_output.specs.declared.stops.Stop.{Stop}
use Rattle.tool_output.specs.declared.outputs.Outputs.{Outputs}
use Rattle.tool_output.specs.Statuses.{refused_status, stop_status}
use Rattle.tool_output.specs.Reports.{Report, Reports, no_report, joined_reports}
use Rattle.tool_output.specs.Outcomes.{FileWrite, write_of, held_after, MayHold, Does}
use Rattle.tool_output.specs.Made.{made_file, outcome_with}
use Rattle.tool_files.specs.Making.{outcome_giving}
use Rattle.tool_output.proofs.StepLemmas.{writes_then}
use Rattle.tool_output.proofs.FileLemmas.{only_reads_none}
use Rattle.tool_output.proofs.MadeLemmas.{stopped_done}

-- what is stated of a file that is made anew may be left by any stop
whole_left : (status : ℕ) (w : Option FileWrite) (old held : Option (List ℕ))
    → IfSome w (λ made. made.in_place ≡ false) → held ≡ held_after w old
    → MayHold status w old held
whole_left status None old held anew is = is
whole_left status (Some w) old held anew is =
    rw anew (inr (
      length w.bytes,
      (rw anew at is) ∙ ap Some (sym (take_all (length w.bytes) w.bytes (omega arith))),
    ))

made_anew : (name bytes other : List ℕ)
    → IfSome (write_of (made_file name bytes ∷ []) other) (λ w. w.in_place ≡ false)
unfolding write_of
made_anew name bytes other = by (bytes_eq name other)
  where
    by : (b : Bool)
        → IfSome (if b then Some (made_file name bytes) else None) (λ w. w.in_place ≡ false)
    by true = refl
    by false = tt

-- the status of two steps, by that of the second
pub both_statuses : (x y p q : Bool) → x ≡ p → refused_status y ≡ refused_status q
    → refused_status (x || y) ≡ refused_status (p || q)
both_statuses x y p q same h = rw same (by p)
  where
    by : (b : Bool) → refused_status (b || y) ≡ refused_status (b || q)
    by true = refl
    by false = h

module _ {F D O E : Type 0} (f : FilesGhosts F D) (o : SinkGhosts O) (e : SinkGhosts E)
    (a b : F) (s t u : Outputs O E) where
  -- a file was made, and then a report is given
  pub said_after : (x : Bool) (report : Report) (name bytes : List ℕ) (r : Result Bool Stop)
      → Does {T = Bool} f o e refused_status
      (outcome_with no_report (made_file name bytes ∷ [])) (Ok x) a b s t
      → Reports o e r t u report
      → Does f o e refused_status (outcome_with report (made_file name bytes ∷ [])) r a b s u
  unfolding no_report
  said_after x report name bytes (Ok y) h k = record {
    writes = writes_then o e x (Ok y) s t u [] report.marks h.writes k.writes;
    status = ap refused_status k.value_is;
    files = h.files;
    left = tt;
    asks = tt;
    gives = tt;
  }
  said_after x report name bytes (Err stop) h k = record {
    writes = writes_then o e x (Err stop) s t u [] report.marks h.writes k.writes;
    status = tt;
    files = tt;
    left = λ other.
        whole_left (stop_status stop) (write_of (made_file name bytes ∷ []) other)
        (f.named a other) (f.named b other) (made_anew name bytes other) (h.files other);
    asks = tt;
    gives = tt;
  }

  module _ (first second : Report) (writes : List FileWrite) (gives : Option ℕ) where
    -- a report was given, and then a step does more
    pub said_before : (x y : Bool) → Reports o e (Ok x) s t first
        → Does f o e refused_status (outcome_giving second writes gives) (Ok y) a b t u
        → Does f o e refused_status (outcome_giving (joined_reports first second) writes gives)
        (Ok (x || y)) a b s u
    unfolding joined_reports
    said_before x y h k = record {
      writes = let both = writes_then o e x (Ok y) s t u first.marks second.marks h.writes k.writes
          in record { ok = both.ok; stopped = tt; lost = tt };
      status = both_statuses x y first.refused second.refused h.value_is k.status;
      files = k.files;
      left = tt;
      asks = tt;
      gives = k.gives;
    }

    pub said_before_stop : (x : Bool) (stop : Stop) → Reports o e (Ok x) s t first
        → Does {T = Bool} f o e refused_status (outcome_giving second writes gives) (Err stop)
        a b t u
        → Does {T = Bool} f o e refused_status
        (outcome_giving (joined_reports first second) writes gives) (Err stop) a b s u
    unfolding joined_reports
    said_before_stop x stop h k = record {
      writes = writes_then o e x (Err stop) s t u first.marks second.marks h.writes k.writes;
      status = tt;
      files = tt;
      left = k.left;
      asks = tt;
      gives = k.gives;
    }

    -- the step stops while the report is given
    pub said_stop : (stop : Stop) → IsTrue (f.tells a) → Reports o e (Err stop) s t first
        → Does {T = Bool} f o e refused_status
        (outcome_giving (joined_reports first second) writes gives) (Err stop) a a s t
    unfolding joined_reports
    said_stop stop told h =
        stopped_done f o e {T = Bool} {U = Bool} refused_status
        (outcome_giving (joined_reports first second) writes gives) first.marks second.marks stop a a s t
        refl told (only_reads_none f o e a) h.writes
