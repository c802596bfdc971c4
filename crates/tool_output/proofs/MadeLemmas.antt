-- Commands that make files, step by step.
use Rattle.std.proofs.Common.{◌≡◌, ◌≢◌, ◌⊎◌, ◌++◌, ℕ, Bool, true, false, List, [], ◌∷◌, take, Option, Some, None, Result, Ok, Err, IfOk, IsTrue, if◌then◌else◌, refl, sym, ap, ◌∙◌, subst, arith, append-nil}
use Rattle.std.specs.Str.{bytes_eq}
use Rattle.std.proofs.lemmas.Bool.{true≢false}
use Rattle.std.proofs.lemmas.Slice.Eq.{bytes_eq-Decides}
use Rattle.elf_outside.specs.Counts.{Rose}
use Rattle.elf_outside.specs.declared.sinks.Sink.{Ghosts as SinkGhosts}
use Rattle.elf_outside.specs.declared.file_sets.Files.{Ghosts as FilesGhosts}
use Rattle.tool_output.specs.declared.stops.Stop.{Stop}
use Rattle.tool_output.specs.declared.stops.Stop.TheVariants.{Read, Write, Memory}
use Rattle.tool_output.specs.declared.outputs.Outputs.{Outputs}
use Rattle.tool_output.specs.Marks.{Mark}
use Rattle.tool_output.specs.Statuses.{refused_status, stop_status}
use Rattle.tool_output.specs.Steps.{waiting, Writes, OnRead}
use Rattle.tool_output.specs.Reports.{Report, Reports}
use Rattle.tool_output.specs.Files.{OnlyReads, IsWithin, both_bounds}
use Rattle.tool_output.specs.Outcomes.{FileWrite, Outcome, write_of, held_after, MayHold, Does}
use Rattle.tool_output.specs.Made.{made_file, outcome_with, MakesFile}
use Rattle.tool_output.proofs.StepLemmas.{writes_went, writes_then, writes_stop}
use Rattle.tool_output.proofs.FileLemmas.{within_both, within_unchanged}
use Rattle.tool_output.proofs.OutcomeLemmas.{may_hold_same}

-- a read of what has no faults never failed
pub never_read : {T : Type 0} (r : Result T Stop) → OnRead r (Rose 0 0) → OnRead r ⊥
never_read (Ok x) h = tt
never_read (Err Read) h = omega arith
never_read (Err Write) h = tt
never_read (Err Memory) h = tt

-- what holds of a name, by whether it is that of the file that is made
made_at : (name bytes other : List ℕ) (P : Option FileWrite → Type 0)
    → (name ≡ other → P (Some (made_file name bytes))) → (other ≢ name → P None)
    → P (write_of (made_file name bytes ∷ []) other)
unfolding write_of
made_at name bytes other P here there = by (bytes_eq name other) refl
  where
    by : (b : Bool) → bytes_eq name other ≡ b
        → P (if b then Some (made_file name bytes) else None)
    by true e = here ((bytes_eq-Decides name other).0 e)
    by false e =
        there (λ (same : other ≡ name).
        true≢false (sym ((bytes_eq-Decides name other).1 (sym same)) ∙ e))

module _ {F D : Type 0} (f : FilesGhosts F D) (name bytes : List ℕ) (before after : ℕ) (a b : F) where
  -- each name afterwards
  pub made_held : {T : Type 0} (x : T) → IsTrue (f.tells a)
      → MakesFile {T = T} f name (Some bytes) (Ok x) before after a b → (other : List ℕ)
      → f.named b other ≡ held_after (write_of (made_file name bytes ∷ []) other) (f.named a other)
  made_held x told h other =
      made_at name bytes other (λ w. f.named b other ≡ held_after w (f.named a other))
      (λ same. subst (λ (n : List ℕ). f.named b n ≡ Some bytes) same (h.made told))
      (λ differs. h.others.same other differs)

  -- each name after a stop
  pub made_left : {T : Type 0} (stop : Stop) → IsTrue (f.tells a)
      → MakesFile {T = T} f name (Some bytes) (Err stop) before after a b → (other : List ℕ)
      → MayHold (stop_status stop) (write_of (made_file name bytes ∷ []) other)
      (f.named a other) (f.named b other)
  made_left stop told h other =
      made_at name bytes other
      (λ w. MayHold (stop_status stop) w (f.named a other) (f.named b other))
      (λ same. subst
      (λ (n : List ℕ). (f.named b n ≡ f.named a n) ⊎ ((k : ℕ) × (f.named b n ≡ Some (take k bytes))))
      same (h.left told))
      (λ differs. h.others.same other differs)

module _ {F D O E : Type 0} (f : FilesGhosts F D) (o : SinkGhosts O) (e : SinkGhosts E) where
  -- what was written whole is written for a step that stops then
  pub writes_whole : {T U : Type 0} (x : T) (stop : Stop) (s t : Outputs O E) (marks : List Mark)
      → Writes {T = T} o e (Ok x) s t marks → Writes {T = U} o e (Err stop) s t marks
  writes_whole x Read s t marks h = record {
    ok = tt;
    stopped = record { front = marks; rest = []; all = sym (append-nil marks); went = h.ok };
    lost = tt;
  }
  writes_whole x Memory s t marks h = record {
    ok = tt;
    stopped = record { front = marks; rest = []; all = sym (append-nil marks); went = h.ok };
    lost = tt;
  }
  writes_whole x Write s t marks h = record {
    ok = tt;
    stopped = tt;
    lost = record {
      put = h.ok.put;
      rest = waiting t;
      all = h.ok.all;
      gained = h.ok.gained;
    };
  }

  -- a report alone: no file is made
  pub report_done : (report : Report) (result : Result Bool Stop) (a b : F) (s t : Outputs O E)
      → IsTrue (f.tells a) → OnlyReads f a b → Reports o e result s t report
      → Does f o e refused_status (outcome_with report []) result a b s t
  unfolding write_of
  report_done report (Ok x) a b s t told reads h = record {
    writes = h.writes;
    status = ap refused_status h.value_is;
    files = (reads.names told).same;
    left = tt;
    asks = tt;
    gives = tt;
  }
  report_done report (Err stop) a b s t told reads h = record {
    writes = h.writes;
    status = tt;
    files = tt;
    left = (reads.names told).same;
    asks = tt;
    gives = tt;
  }

  -- a file, once all that is said was written
  pub made_done : {T U : Type 0} (code : T → ℕ) (x : U) (report : Report) (name bytes : List ℕ)
      (result : Result T Stop) (before after : ℕ) (a b : F) (s t : Outputs O E)
      → IsTrue (f.tells a) → Writes {T = U} o e (Ok x) s t report.marks
      → MakesFile f name (Some bytes) result before after a b
      → IfOk result (λ v. code v ≡ refused_status report.refused)
      → Does f o e code (outcome_with report (made_file name bytes ∷ [])) result a b s t
  made_done code x report name bytes (Ok v) before after a b s t told h makes is = record {
    writes = writes_went o e v s t report.marks h.ok;
    status = is;
    files = made_held f name bytes before after a b v told makes;
    left = tt;
    asks = tt;
    gives = tt;
  }
  made_done {T} code x report name bytes (Err stop) before after a b s t told h makes is = record {
    writes = writes_whole {U = T} x stop s t report.marks h;
    status = tt;
    files = tt;
    left = made_left f name bytes before after a b stop told makes;
    asks = tt;
    gives = tt;
  }

  -- what is stated, behind marks that are written first and bytes that are asked for
  abbrev pub behind_marks : List Mark → Option ℕ → Outcome → Outcome
  behind_marks marks bound stated = record stated {
    marks = marks ++ stated.marks;
    asks = both_bounds bound stated.asks;
  }

  -- a step that reads, and then one that does what is stated
  pub does_then : {T U : Type 0} (code : T → ℕ) (stated : Outcome) (marks : List Mark)
      (bound : Option ℕ) (x : U) (result : Result T Stop) (a b c : F) (s t u : Outputs O E)
      → IsTrue (f.tells a) → OnlyReads f a b → IsWithin bound (f.taken a) (f.taken b)
      → Writes {T = U} o e (Ok x) s t marks → Does f o e code stated result b c t u
      → Does f o e code (behind_marks marks bound stated) result a c s u
  does_then code stated marks bound x (Ok v) a b c s t u told reads within h d = record {
    writes = writes_then o e x (Ok v) s t u marks stated.marks h d.writes;
    status = d.status;
    files = λ name.
        d.files name ∙ ap (held_after (write_of stated.writes name)) ((reads.names told).same name);
    left = tt;
    asks = within_both bound stated.asks (f.taken a) (f.taken b) (f.taken c) within d.asks;
    gives = subst (λ (n : ℕ). IsWithin stated.gives n (f.given c)) reads.given d.gives;
  }
  does_then code stated marks bound x (Err stop) a b c s t u told reads within h d = record {
    writes = writes_then o e x (Err stop) s t u marks stated.marks h d.writes;
    status = tt;
    files = tt;
    left = λ name.
        subst (λ (old : Option (List ℕ)).
        MayHold (stop_status stop) (write_of stated.writes name) old (f.named c name))
        ((reads.names told).same name) (d.left name);
    asks = tt;
    gives = subst (λ (n : ℕ). IsWithin stated.gives n (f.given c)) reads.given d.gives;
  }

  -- a step that only reads, and stops before it has written more than a front of what is stated
  pub stopped_done : {T U : Type 0} (code : T → ℕ) (stated : Outcome) (marks rest : List Mark)
      (stop : Stop) (a b : F) (s t : Outputs O E) → marks ++ rest ≡ stated.marks
      → IsTrue (f.tells a) → OnlyReads f a b → Writes {T = U} o e (Err stop) s t marks
      → Does {T = T} f o e code stated (Err stop) a b s t
  stopped_done {T} {U} code stated marks rest stop a b s t is told reads h = record {
    writes = subst (λ (m : List Mark). Writes {T = T} o e (Err stop) s t m) is
        (writes_stop o e {T = U} {U = T} stop s t marks rest h);
    status = tt;
    files = tt;
    left = λ name.
        subst (λ (now : Option (List ℕ)).
        MayHold (stop_status stop) (write_of stated.writes name) (f.named a name) now)
        (sym ((reads.names told).same name))
        (may_hold_same (stop_status stop) (write_of stated.writes name) (f.named a name));
    asks = tt;
    gives = within_unchanged stated.gives (f.given a) (f.given b) reads.given;
  }
