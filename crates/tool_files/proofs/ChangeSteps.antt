-- Steps over an open file that is changed in place, one after another.
use Rattle.std.proofs.Common.{◌≡◌, ◌≢◌, ◌⊎◌, inl, inr, ◌∷◌, ◌++◌, ◌||◌, ◌≤◌, ℕ, Bool, true, false, List, [], drop, get_or, Option, Some, None, Result, Ok, Err, OnOk, if◌then◌else◌, refl, sym, ap, ◌∙◌, subst, arith}
use Rattle.std.specs.Str.{bytes_eq}
use Rattle.std.proofs.lemmas.Slice.Eq.{bytes_eq-Decides}
use Rattle.tool_output.specs.elf_outside.Asks.{Leaves}
use Rattle.tool_output.specs.elf_outside.Counts.{Rose}
use Rattle.tool_output.specs.elf_outside.declared.sources.Source.{Ghosts as SourceGhosts}
use Rattle.tool_output.specs.elf_outside.declared.devices.Device.{Ghosts as DeviceGhosts}
use Rattle.tool_output.specs.elf_outside.declared.sinks.Sink.{Ghosts as SinkGhosts}
use Rattle.tool_output.specs.declared.stops.Stop.{Stop}
use Rattle.tool_output.specs.declared.stops.Stop.TheVariants.{Read, Write, Memory}
use Rattle.tool_output.specs.declared.outputs.Outputs.{Outputs}
use Rattle.tool_output.specs.Marks.{Mark}
use Rattle.tool_output.specs.Statuses.{refused_status, stop_status}
use Rattle.tool_output.specs.Reports.{Report, Reports, joined_reports}
use Rattle.tool_output.specs.Steps.{Writes, KeepsSinks, LeavesOutputs, OnRead, OnWrite, SinkRose}
use Rattle.tool_output.specs.Files.{IsWithin}
use Rattle.tool_output.specs.Outcomes.{FileWrite, Outcome, report_outcome, write_of, MayHold}
use Rattle.tool_output.proofs.StepLemmas.{writes_then, writes_stop, writes_nothing, keeps_then}
use Rattle.tool_output.proofs.FileLemmas.{within_unchanged}
use Rattle.tool_output.proofs.OutcomeLemmas.{may_hold_same}
use Rattle.tool_files.specs.Making.{outcome_giving}
use Rattle.tool_files.specs.Edits.{unbounded}
use Rattle.tool_files.specs.Changes.{DoesInPlace, LeavesDevice}
use Rattle.tool_files.proofs.SaidLemmas.{both_statuses}

-- the write of a file alone is the write of its name
pub own_write : (w : FileWrite) → write_of (w ∷ []) w.name ≡ Some w
unfolding write_of
own_write w =
    ap (λ (same : Bool). if same then Some w else None) ((bytes_eq-Decides w.name w.name).1 refl)

-- and of no other one
pub other_write : (w : FileWrite) (name : List ℕ) → name ≢ w.name → write_of (w ∷ []) name ≡ None
unfolding write_of
other_write w name differs = by (bytes_eq w.name name) refl
  where
    by : (b : Bool) → bytes_eq w.name name ≡ b → (if b then Some w else None) ≡ None
    by true is = absurd (differs (sym ((bytes_eq-Decides w.name name).0 is)))
    by false is = refl

-- ---- A device that is only read

-- nothing is handed to it, and no write of it fails
pub record IsUnwritten {D : Type 0} (d : DeviceGhosts D) (old new : D) : Type 0 where
  pub given : d.given new ≡ d.given old
  pub faults : d.write_faults new ≡ d.write_faults old
  pub rest_after : d.rest_after new ≡ d.rest_after old

-- since its rest begins with its counts
pub leaves_unwritten : {D : Type 0} (g : SourceGhosts D) (d : DeviceGhosts D)
    → ((x : D) → g.rest x ≡ (d.given x ∷ d.write_faults x ∷ []) ∷ d.rest_after x)
    → (a b : D) → Leaves g a b → IsUnwritten d a b
leaves_unwritten g d begins a b leaves =
    let same : (d.given b ∷ d.write_faults b ∷ []) ∷ d.rest_after b
    ≡ (d.given a ∷ d.write_faults a ∷ []) ∷ d.rest_after a =
    sym (begins b) ∙ leaves.same_rest ∙ begins a in
    record {
      given = ap (λ l. get_or (get_or l 0 []) 0 0) same;
      faults = ap (λ l. get_or (get_or l 0 []) 1 0) same;
      rest_after = ap (λ l. drop 1 l) same;
    }

module _ {D O E : Type 0} (g : SourceGhosts D) (d : DeviceGhosts D) (o : SinkGhosts O)
    (e : SinkGhosts E) where
  -- ---- What is left

  -- by a step that writes on the outputs, and stops by Read or where a put fails
  pub outputs_leave : (r : Result Bool Stop) (a b : D) (s t : Outputs O E)
      → d.rest_after b ≡ d.rest_after a → g.faults a ≤ g.faults b
      → d.write_faults a ≤ d.write_faults b
      → LeavesOutputs o e (Rose (g.faults a) (g.faults b)) r s t → LeavesDevice g d o e r a b s t
  outputs_leave r a b s t rest later write_later h = record {
    rest_after = rest;
    later = later;
    write_later = write_later;
    keeps = h.keeps;
    read = h.read;
    write = by r h;
  }
    where
      by : (q : Result Bool Stop) → LeavesOutputs o e (Rose (g.faults a) (g.faults b)) q s t
          → OnWrite q (Rose (d.write_faults a) (d.write_faults b)
          ⊎ SinkRose o e s.out.now t.out.now s.err.now t.err.now)
      by (Ok x) k = tt
      by (Err Read) k = tt
      by (Err Write) k = inr k.write
      by (Err Memory) k = tt

  -- by a step behind another one that only read the device
  pub leaves_after : (r : Result Bool Stop) (a b c : D) (s t u : Outputs O E)
      → IsUnwritten d a b → g.faults a ≤ g.faults b → KeepsSinks o e s t
      → LeavesDevice g d o e r b c t u → LeavesDevice g d o e r a c s u
  leaves_after r a b c s t u same later keeps h = record {
    rest_after = h.rest_after ∙ same.rest_after;
    later = let last = h.later in omega (arith, later, last);
    write_later = let first = same.faults in let last = h.write_later in omega (arith, first, last);
    keeps = keeps_then o e s t u keeps h.keeps;
    read = read_by r h.read;
    write = write_by r h.write;
  }
    where
      read_by : (q : Result Bool Stop) → OnRead q (Rose (g.faults b) (g.faults c))
          → OnRead q (Rose (g.faults a) (g.faults c))
      read_by (Ok x) rose = tt
      read_by (Err Read) rose = omega (arith, later, rose)
      read_by (Err Write) rose = tt
      read_by (Err Memory) rose = tt

      wrote : Rose (d.write_faults b) (d.write_faults c)
          ⊎ SinkRose o e t.out.now u.out.now t.err.now u.err.now
          → Rose (d.write_faults a) (d.write_faults c)
          ⊎ SinkRose o e s.out.now u.out.now s.err.now u.err.now
      wrote (inl rose) = inl (let first = same.faults in omega (arith, first, rose))
      wrote (inr (inl rose)) =
          inr (inl (let first = keeps.leaves.out_later in omega (arith, first, rose)))
      wrote (inr (inr rose)) =
          inr (inr (let first = keeps.leaves.err_later in omega (arith, first, rose)))

      write_by : (q : Result Bool Stop) → OnWrite q (Rose (d.write_faults b) (d.write_faults c)
          ⊎ SinkRose o e t.out.now u.out.now t.err.now u.err.now)
          → OnWrite q (Rose (d.write_faults a) (d.write_faults c)
          ⊎ SinkRose o e s.out.now u.out.now s.err.now u.err.now)
      write_by (Ok x) rose = tt
      write_by (Err Read) rose = tt
      write_by (Err Write) rose = wrote rose
      write_by (Err Memory) rose = tt

  module _ (name was : List ℕ) where
    -- ---- A device that holds what it held

    -- the step stops before it has written more than a front of what is stated
    pub unchanged_stop : {T : Type 0} (stated : Outcome) (marks rest : List Mark) (stop : Stop)
        (a b : D) (s t : Outputs O E) → marks ++ rest ≡ stated.marks → g.holds b ≡ Some was
        → d.given b ≡ d.given a → Writes {T = T} o e (Err stop) s t marks
        → DoesInPlace g d o e stated name was (Err stop) a b s t
    unchanged_stop {T} stated marks rest stop a b s t is held given h = record {
      writes = subst (λ (m : List Mark). Writes {T = Bool} o e (Err stop) s t m) is
          (writes_stop o e {T = T} {U = Bool} stop s t marks rest h);
      status = tt;
      bytes = tt;
      left = subst (λ (now : Option (List ℕ)).
          MayHold (stop_status stop) (write_of stated.writes name) (Some was) now) (sym held)
          (may_hold_same (stop_status stop) (write_of stated.writes name) (Some was));
      asks = tt;
      gives = within_unchanged stated.gives (d.given a) (d.given b) given;
    }

    -- it stops before it has written anything
    pub unchanged_nothing : (stated : Outcome) (stop : Stop) (a b : D) (s : Outputs O E)
        → g.holds b ≡ Some was → d.given b ≡ d.given a
        → DoesInPlace g d o e stated name was (Err stop) a b s s
    unchanged_nothing stated stop a b s held given =
        unchanged_stop {T = Bool} stated [] stated.marks stop a b s s refl held given
        (writes_nothing o e stop s [])

    -- a report alone
    pub unchanged_report : (report : Report) (bound : Option ℕ) (r : Result Bool Stop) (a b : D)
        (s t : Outputs O E) → g.holds b ≡ Some was → d.given b ≡ d.given a
        → OnOk r (IsWithin bound (g.taken a) (g.taken b)) → Reports o e r s t report
        → DoesInPlace g d o e (report_outcome report bound) name was r a b s t
    unfolding report_outcome write_of
    unchanged_report report bound (Ok x) a b s t held given within h = record {
      writes = h.writes;
      status = ap refused_status h.value_is;
      bytes = held;
      left = tt;
      asks = within;
      gives = omega (arith, given);
    }
    unchanged_report report bound (Err stop) a b s t held given within h = record {
      writes = h.writes;
      status = tt;
      bytes = tt;
      left = held;
      asks = tt;
      gives = omega (arith, given);
    }

    -- ---- What is said before

    -- a step that only reads is done before, and the bound holds of both
    pub begun_before : (stated : Outcome) (r : Result Bool Stop) (a b c : D) (s t : Outputs O E)
        → d.given b ≡ d.given a → OnOk r (IsWithin stated.asks (g.taken a) (g.taken c))
        → DoesInPlace g d o e (unbounded stated) name was r b c s t
        → DoesInPlace g d o e stated name was r a c s t
    begun_before stated r a b c s t given within h = record {
      writes = h.writes;
      status = h.status;
      bytes = h.bytes;
      left = h.left;
      asks = within;
      gives = subst (λ (n : ℕ). IsWithin stated.gives n (d.given c)) given h.gives;
    }

    module _ (first second : Report) (writes : List FileWrite) (gives : Option ℕ) (a b c : D)
        (s t u : Outputs O E) (given : d.given b ≡ d.given a) where
      -- a report was given, and then a step does more
      pub changed_before : (x y : Bool) → Reports o e (Ok x) s t first
          → DoesInPlace g d o e (outcome_giving second writes gives) name was (Ok y) b c t u
          → DoesInPlace g d o e (outcome_giving (joined_reports first second) writes gives) name was
          (Ok (x || y)) a c s u
      unfolding joined_reports
      changed_before x y h k = record {
        writes =
            let both = writes_then o e x (Ok y) s t u first.marks second.marks h.writes k.writes
            in record { ok = both.ok; stopped = tt; lost = tt };
        status = both_statuses x y first.refused second.refused h.value_is k.status;
        bytes = k.bytes;
        left = tt;
        asks = tt;
        gives = subst (λ (n : ℕ). IsWithin gives n (d.given c)) given k.gives;
      }

      pub changed_before_stop : (x : Bool) (stop : Stop) → Reports o e (Ok x) s t first
          → DoesInPlace g d o e (outcome_giving second writes gives) name was (Err stop) b c t u
          → DoesInPlace g d o e (outcome_giving (joined_reports first second) writes gives) name was
          (Err stop) a c s u
      unfolding joined_reports
      changed_before_stop x stop h k = record {
        writes = writes_then o e x (Err stop) s t u first.marks second.marks h.writes k.writes;
        status = tt;
        bytes = tt;
        left = k.left;
        asks = tt;
        gives = subst (λ (n : ℕ). IsWithin gives n (d.given c)) given k.gives;
      }

      -- the step stops while the report is given
      pub unchanged_before : (stop : Stop) → g.holds b ≡ Some was
          → Reports o e (Err stop) s t first
          → DoesInPlace g d o e (outcome_giving (joined_reports first second) writes gives) name was
          (Err stop) a b s t
      unfolding joined_reports
      unchanged_before stop held h =
          unchanged_stop {T = Bool} (outcome_giving (joined_reports first second) writes gives)
          first.marks second.marks stop a b s t refl held given h.writes
