-- The calls of a script on the image of an open file, and the update that follows them.
use Rattle.std.proofs.Common.{◌≡◌, ◌||◌, ◌+◌, ◌≤◌, ℕ, Bool, false, true, List, [], codes, Option, Some, None, Result, Ok, Err, OnOk, IfSome, IsTrue, refl, sym, ap, ◌∙◌, subst, arith}
use Rattle.std.specs.Prelude.{is_some}
use Rattle.elf_types.specs.declared.errors.ElfError.{ElfError}
use Rattle.elf_types.specs.declared.errors.ElfError.TheVariants as error
use Rattle.elf_types.specs.Answers.{Follows}
use Rattle.elf_types.specs.Text.{error_text}
use Rattle.elf_outside.specs.Asks.{Asks}
use Rattle.elf_outside.specs.Counts.{Rose}
use Rattle.elf_outside.specs.declared.sources.Source.{Ghosts as SourceGhosts}
use Rattle.elf_outside.specs.declared.sinks.Sink.{Ghosts as SinkGhosts}
use Rattle.elf_outside.specs.declared.file_sets.Files.{Ghosts as FilesGhosts}
use Rattle.elf_ident.specs.Front.{front_bytes}
use Rattle.elf_object.specs.Object.{Object}
use Rattle.elf_object.specs.Calls as calls
use Rattle.elf_object.specs.Runs.{left_by}
use Rattle.elf_object.specs.Image.{image}
use Rattle.elf_object.specs.Due.{is_loaded, homes_due, update_to_due}
use Rattle.elf_update_plan.specs.elf_descriptor.State.{State}
use Rattle.elf_update_plan.proofs.elf_descriptor.ReadsLaws.{dues_stay}
use Rattle.calls_tool.specs.declared.update.outputs.CallsOutput.TheVariants.{To}
use Rattle.tool_output.specs.declared.stops.Stop.{Stop}
use Rattle.tool_output.specs.declared.stops.Stop.TheVariants.{Read, Write, Memory}
use Rattle.tool_output.specs.declared.outputs.Outputs.{Outputs}
use Rattle.tool_output.specs.Stops.{stop_of}
use Rattle.tool_output.specs.Names.{file_name}
use Rattle.tool_output.specs.Statuses.{refused_status}
use Rattle.tool_output.specs.Reports.{Reports, refusal_report}
use Rattle.tool_output.specs.Files.{IsWithin, LeavesFilesBy}
use Rattle.tool_output.specs.Outcomes.{Outcome, report_outcome, Does}
use Rattle.tool_output.specs.Made.{made_file}
use Rattle.tool_output.proofs.StepLemmas.{keeps_then}
use Rattle.tool_output.proofs.FileLemmas.{only_reads_none, totals_none, totals_then, leaves_stop_by}
use Rattle.tool_output.proofs.OutcomeLemmas.{nothing_done, reads_done}
use Rattle.tool_output.proofs.SourceLemmas.{stated_error, refused_leaves}
use Rattle.tool_objects.specs.Images.{file_object}
use Rattle.tool_objects.specs.Refusals.{ReportsRefusal}
use Rattle.tool_objects.specs.Steps.{SourceRose}
use Rattle.tool_objects.proofs.SourceSteps.{leaves_then}
use Rattle.tool_files.specs.Edits.{unbounded, EditsFile}
use Rattle.tool_files.proofs.SaidLemmas.{said_before, said_before_stop, said_stop}
use Rattle.elf_calls_script.specs.declared.calls.Call.{Call}
use Rattle.calls_tool.specs.Reads.{read_by, homes_read}
use Rattle.calls_tool.specs.Runs.{stated_calls, calls_report, update_report, RunsCalls}
use Rattle.calls_tool.specs.Files.{calls_asks}
use Rattle.calls_tool.specs.Update.Updates.{updated_writes, updated_gives, updated_outcome, updated_by}
use Rattle.calls_tool.specs.Update.Writes.{left_outcome, LeavesOpen, WritesLeft, WritesCalls}
use Rattle.calls_tool.proofs.update.DueLemmas.{update_due_at_first}
use Rattle.calls_tool.proofs.update.LeftLemmas.{outputs_left}

none_loaded : (i : ℕ) → IsTrue (is_loaded [] i) → ⊥
unfolding is_loaded
none_loaded i is = let never : false ≡ true = is in cc

-- ---- The calls, and then the update

module _ {S F D O E : Type 0} (g : SourceGhosts S) (f : FilesGhosts F D) (o : SinkGhosts O)
    (e : SinkGhosts E) (cs : List Call) (out : List ℕ) (old mid new : State S) (a b : F)
    (s t u : Outputs O E) where
  abbrev left : Object
  left = left_by (stated_calls cs) old.o

  -- what the second step leaves, the first left too
  open_then : (x : Bool) (r : Result Bool Stop) → RunsCalls g o e cs (Ok x) old mid s t
      → LeavesOpen g f o e r mid new a b t u → LeavesOpen g f o e r old new a b s u
  open_then x (Ok y) h k = record {
    source = leaves_then g old.source mid.source new.source h.state.source k.source;
    later = let first = h.state.later in let second = k.later in omega arith;
    taken = k.taken;
    live = k.live;
    leaves = record {
      totals = k.leaves.totals;
      keeps = keeps_then o e s t u h.leaves.keeps k.leaves.keeps;
      read = tt;
      write = tt;
    };
  }
  open_then x (Err stop) h k = record {
    source = leaves_then g old.source mid.source new.source h.state.source k.source;
    later = let first = h.state.later in let second = k.later in omega arith;
    taken = k.taken;
    live = k.live;
    leaves = leaves_stop_by f o e {T = Bool} {U = Bool} (SourceRose g mid new)
        (SourceRose g old new) stop a a b s t u
        (λ rose. let later = h.state.later in omega arith) (totals_none f o e a) h.leaves.keeps
        k.leaves;
  }

  asked : IsTrue old.told → (x : Bool) (r : Result Bool Stop) → RunsCalls g o e cs (Ok x) old mid s t
      → WritesLeft g f o e out r mid new a b t u → g.taken new.source ≤ g.taken old.source
      + (homes_due old.o [] (read_by (stated_calls cs) old.o) + update_to_due left [])
  asked told x r h k =
      let first = (h.reads told).bound in
      let fewer = dues_stay old.o [] old.loaded (read_by (stated_calls cs) old.o)
      (λ i is. absurd (none_loaded i is)) in
      let second = k.asks.no_more in
      let less = update_due_at_first mid.o mid.loaded in
      let same : update_to_due mid.o [] ≡ update_to_due left []
      = ap (λ (p : Object). update_to_due p []) (h.left told) in
      omega arith

  -- the update of what the calls left
  second_done : IsTrue (f.tells a) → IsTrue old.told → (x : Bool) (r : Result Bool Stop)
      → RunsCalls g o e cs (Ok x) old mid s t → WritesLeft g f o e out r mid new a b t u
      → Does f o e refused_status (left_outcome out left) r a b t u
  second_done tells told x r h k =
      subst (λ (p : Object). Does f o e refused_status (left_outcome out p) r a b t u) (h.left told)
      (k.does tells (subst (λ (q : Bool). IsTrue q) (sym h.state.told) told))

  pub calls_written : (x y : Bool) → RunsCalls g o e cs (Ok x) old mid s t
      → WritesLeft g f o e out (Ok y) mid new a b t u
      → WritesCalls g f o e cs out (Ok (x || y)) old new a b s u
  unfolding updated_outcome
  calls_written x y h k = record {
    does = λ tells told.
        said_before f o e a b s t u (calls_report cs old.o)
        (update_report (calls.update_null.answer left))
        (updated_writes (made_file out (image left)) (calls.update_null.answer left))
        (updated_gives None (calls.update_null.answer left)) x y (h.lines told)
        (second_done tells told x (Ok y) h k);
    asks = λ told. asked told x (Ok y) h k;
    leaves =
        let both = open_then x (Ok y) h k.leaves in record {
          source = both.source;
          later = both.later;
          taken = both.taken;
          live = both.live;
          leaves = record {
            totals = both.leaves.totals;
            keeps = both.leaves.keeps;
            read = tt;
            write = tt;
          };
        };
  }

  pub calls_unwritten : (x : Bool) (stop : Stop) → RunsCalls g o e cs (Ok x) old mid s t
      → WritesLeft g f o e out (Err stop) mid new a b t u
      → WritesCalls g f o e cs out (Err stop) old new a b s u
  unfolding updated_outcome
  calls_unwritten x stop h k = record {
    does = λ tells told.
        said_before_stop f o e a b s t u (calls_report cs old.o)
        (update_report (calls.update_null.answer left))
        (updated_writes (made_file out (image left)) (calls.update_null.answer left))
        (updated_gives None (calls.update_null.answer left)) x stop (h.lines told)
        (second_done tells told x (Err stop) h k);
    asks = λ told. tt;
    leaves = open_then x (Err stop) h k.leaves;
  }

  -- a call stops the run, and nothing is written
  pub calls_unrun : (stop : Stop) → RunsCalls g o e cs (Err stop) old mid s t
      → WritesCalls g f o e cs out (Err stop) old mid a a s t
  unfolding updated_outcome
  calls_unrun stop h = record {
    does = λ tells told.
        said_stop f o e a a s t t (calls_report cs old.o)
        (update_report (calls.update_null.answer left))
        (updated_writes (made_file out (image left)) (calls.update_null.answer left))
        (updated_gives None (calls.update_null.answer left)) stop tells (h.lines told);
    asks = λ told. tt;
    leaves = record {
      source = h.state.source;
      later = h.state.later;
      taken = refl;
      live = λ small. refl;
      leaves = outputs_left f o e (SourceRose g old mid) (Err stop) a s t h.leaves;
    };
  }

-- ---- The image of an open file

module _ {S F D O E : Type 0} (g : SourceGhosts S) (f : FilesGhosts F D) (o : SinkGhosts O)
    (e : SinkGhosts E) (cs : List Call) (out name : List ℕ) (r : Result Bool Stop) (src : S)
    (a b : F) (s t : Outputs O E) where
  abbrev stated : List ℕ → Outcome
  stated bytes = updated_by (To out) cs name (Some (calls_asks cs bytes)) (file_object bytes)

  -- the calls were run on it
  pub edits_written : (begun new : State S) (n : ℕ) → Asks {T = Object} g (Ok begun.o) src begun.source n
      → IfSome (g.holds src) (λ bytes. Follows (Ok begun.o) (file_object bytes))
      → begun.told ≡ is_some (g.holds src)
      → IfSome (g.holds src) (λ bytes. g.taken begun.source ≤ g.taken src + (8 + front_bytes bytes))
      → WritesCalls g f o e cs out r begun new a b s t
      → EditsFile g f o e stated r src new.source a b s t
  unfolding updated_outcome calls_asks homes_read
  edits_written begun new n asks answer told bound h = record {
    does = λ tells. by_does (g.holds src) answer told tells;
    asks = λ tells. by_asks (g.holds src) answer told bound;
    source = leaves_then g src begun.source new.source asks.leaves h.leaves.source;
    later = let first = asks.later in let second = h.leaves.later in omega arith;
    live = h.leaves.live;
    leaves = on_way r h.leaves.leaves;
  }
    where
      by_does : (held : Option (List ℕ)) → IfSome held (λ bytes. Follows (Ok begun.o) (file_object bytes))
          → begun.told ≡ is_some held → IsTrue (f.tells a)
          → IfSome held (λ bytes. Does f o e refused_status (unbounded (stated bytes)) r a b s t)
      by_does None is told_is tells = tt
      by_does (Some bytes) is told_is tells = rw is (h.does tells told_is)

      by_asks : (held : Option (List ℕ)) → IfSome held (λ bytes. Follows (Ok begun.o) (file_object bytes))
          → begun.told ≡ is_some held
          → IfSome held (λ bytes. g.taken begun.source ≤ g.taken src + (8 + front_bytes bytes))
          → IfSome held (λ bytes. OnOk r (IsWithin (stated bytes).asks
          (g.taken src + f.taken a) (g.taken new.source + f.taken b)))
      by_asks None is told_is first = tt
      by_asks (Some bytes) is told_is first = rw is (within r (h.asks told_is))
        where
          within : (q : Result Bool Stop) → OnOk q (g.taken new.source ≤ g.taken begun.source
              + (homes_due begun.o [] (read_by (stated_calls cs) begun.o)
              + update_to_due (left_by (stated_calls cs) begun.o) []))
              → OnOk q (g.taken new.source + f.taken b ≤ g.taken src + f.taken a
              + (8 + front_bytes bytes + homes_due begun.o [] (read_by (stated_calls cs) begun.o)
              + update_to_due (left_by (stated_calls cs) begun.o) []))
          within (Ok x) k = let same = h.leaves.taken in omega arith
          within (Err stop) k = tt

      on_way : (q : Result Bool Stop) → LeavesFilesBy f o e (SourceRose g begun new) q a b s t
          → LeavesFilesBy f o e (Rose (g.faults src) (g.faults new.source)) q a b s t
      on_way (Ok x) l = record { totals = l.totals; keeps = l.keeps; read = tt; write = tt }
      on_way (Err Read) l = record {
        totals = l.totals;
        keeps = l.keeps;
        read = let rose = l.read in let first = asks.later in omega arith;
        write = tt;
      }
      on_way (Err Write) l =
          record { totals = l.totals; keeps = l.keeps; read = tt; write = l.write }
      on_way (Err Memory) l =
          record { totals = l.totals; keeps = l.keeps; read = tt; write = tt }

  -- it is none, or an archive
  pub edits_refused : (after : S) (n : ℕ) (d : ElfError) → Asks {T = Object} g (Err d) src after n
      → IfSome (g.holds src) (λ bytes. Follows {T = Object} (Err d) (file_object bytes))
      → IfSome (g.holds src) (λ bytes. g.taken after ≤ g.taken src + (8 + front_bytes bytes))
      → ReportsRefusal o e (codes "calls") (file_name name) d r s t
      → EditsFile g f o e stated r src after a a s t
  unfolding updated_outcome report_outcome calls_asks
  edits_refused after n d asks answer bound refused = record {
    does = λ tells. by_does (g.holds src) answer tells;
    asks = λ tells. by_asks (g.holds src) bound;
    source = asks.leaves;
    later = asks.later;
    live = λ small. refl;
    leaves = outputs_left f o e (Rose (g.faults src) (g.faults after)) r a s t
        (refused_leaves o e Object d r s t (g.faults src) (g.faults after) asks.read refused.leaves
        refused.stops);
  }
    where
      by_error : (x : ElfError) (res : Result Object ElfError) (bytes : List ℕ) → Follows (Err x) res
          → ReportsRefusal o e (codes "calls") (file_name name) x r s t → IsTrue (f.tells a)
          → Does f o e refused_status
          (unbounded (updated_by (To out) cs name (Some (calls_asks cs bytes)) res)) r a a s t
      by_error error.Memory res bytes is k tells =
          rw (k.stops.0, k.stops.1) (nothing_done f o e refused_status _ Memory a s)
      by_error error.Read res bytes is k tells =
          rw (k.stops.0, k.stops.1) (nothing_done f o e refused_status _ Read a s)
      by_error error.Write res bytes is k tells =
          rw (k.stops.0, k.stops.1) (nothing_done f o e refused_status _ Write a s)
      by_error x res bytes is k tells =
          rw is (reads_done f o e a a s t
          (refusal_report (codes "calls") (file_name name) (error_text x)) None r tells
          (only_reads_none f o e a) (none_asked r) k.reports)
        where
          none_asked : (q : Result Bool Stop) → OnOk q (Unit {0})
          none_asked (Ok x) = tt
          none_asked (Err stop) = tt

      by_does : (held : Option (List ℕ))
          → IfSome held (λ bytes. Follows {T = Object} (Err d) (file_object bytes))
          → IsTrue (f.tells a)
          → IfSome held (λ bytes. Does f o e refused_status (unbounded (stated bytes)) r a a s t)
      by_does None is tells = tt
      by_does (Some bytes) is tells = by_error d (file_object bytes) bytes is refused tells

      at_least : (res : Result Object ElfError) (i x y : ℕ) → y ≤ x + i
          → IsWithin (updated_by (To out) cs name (Some i) res).asks x y
      at_least (Ok p) i x y h = omega (arith, h)
      at_least (Err q) i x y h = h

      by_asks : (held : Option (List ℕ))
          → IfSome held (λ bytes. g.taken after ≤ g.taken src + (8 + front_bytes bytes))
          → IfSome held (λ bytes. OnOk r (IsWithin (stated bytes).asks
          (g.taken src + f.taken a) (g.taken after + f.taken a)))
      by_asks None first = tt
      by_asks (Some bytes) first =
          always r (at_least (file_object bytes) (calls_asks cs bytes) _ _ (omega (arith, first)))
        where
          always : {P : Type 0} (q : Result Bool Stop) → P → OnOk q P
          always (Ok x) h = h
          always (Err stop) h = tt
